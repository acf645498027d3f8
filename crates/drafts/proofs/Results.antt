-- The result of packing commands: it is read, but for its length and its sizes, and its commands say what those packed said. Assumes nothing.
use Rattle.std.specs.Prelude.{Option, Some, None}
use mathlib.Core.Path.{◌≡◌, refl, sym, ap, ◌∙◌, subst}
use mathlib.Core.List.Memᴰ
use mathlib.Core.List.{List, [], ◌∷◌, ◌++◌, map, append-nil, Memᴰ}
use mathlib.Core.Bool.{Bool, true, false, ◌&&◌, cond}
use mathlib.Core.Logic.{◌⊎◌, inl, inr}
use Prim.Native.Nat.{ℕ, ◌+◌, ◌≤◌, ◌<◌}
use native.Mathlib.Omega.{arith}
use lib.ListN.{length, get_or, length-append}
use lib.Dec.{leb}
use borrow.Author.Tests.{leb-true, le-leb}
use Rattle.record.specs.Base.{Str}
use Rattle.record.specs.Fill.{joined}
use Rattle.record.specs.Scalars.{Scalar}
use Rattle.record.specs.Schema.{Schema}
use Rattle.record.specs.Letters.{odd_letter}
use Rattle.record.specs.Commands.{start, commands_at}
use Rattle.record.specs.Judge.{advanced}
use Rattle.record.specs.Reading.{Rec, rec, read, refuse, Parsed, ok, parse, parsed, sizes_of, stream_limit, pool_limit, concluded, reading}
use Rattle.record.specs.declared.text.Text.{Text}
use Rattle.record.specs.declared.command.Cursor.{Cursor}
use Rattle.record.specs.declared.refusal.Side.{Side}
use Rattle.record.specs.declared.refusal.Refusal.TheVariants as R
use Rattle.record.proofs.Accepted.{accepting, parsed-is}
use Rattle.drafts.specs.Content.{Content, content_at, contents_of}
use Rattle.drafts.specs.Packing.{texts_of, covered, kept, written, packed_pool, moved_to, packed_commands, stream_of}
use Rattle.drafts.specs.Edits.{named, after_parts, without, removed}
use Rattle.drafts.specs.Addition.{is_part}
use Rattle.texts.specs.Utf8.{well_after, well_formed, odd_place, no_tail}
use Rattle.texts.proofs.EdgeLaws.{well-begins}
use Rattle.record.specs.CommandTexts.{texts_at}
use Rattle.record.proofs.LetterLaws.{none-odd}
use Rattle.record.proofs.WholeTexts.{Lies, letters-good, texts-lie}
use Rattle.drafts.proofs.Pools.{moved_in, covered-letters}
use Rattle.drafts.proofs.Links.{Chain}
use Rattle.drafts.proofs.Chains.{AllMoved, chain-without}
use Rattle.drafts.proofs.Built.{Built, build}

-- a stream from a chain ----------------------------------------------------------------------------------------------------------

chain-long : (side : Side) (p : Str) (k : Cursor) (zs : List Str) (ds : List Content) → Chain side p k zs ds → length zs ≤ length (joined zs)
unfolding joined
chain-long side p k [] [] c = omega arith
chain-long side p k [] (d ∷ ds) c = absurd c
chain-long side p k (z ∷ zs) [] c = absurd c
chain-long side p k (z ∷ zs) (d ∷ ds) c =
    let a = chain-long side p (advanced k (get_or z 0 0) (length z)) zs ds c.1 in
    let b = length-append z (joined zs) in
    let n = c.0.sized in
    omega arith

pub record Resulting (side : Side) (r : Rec) (ds : List Content) : Type 0 where
  pub parsed-all : parsed side r ≡ ok (commands_at r.stream 0)
  pub says : contents_of r ≡ ds

pub result : (side : Side) (p : Str) (w : List Scalar) (zs : List Str) (ds : List Content) → Chain side p start zs ds → Resulting side (rec (stream_of zs) p w) ds
unfolding stream_of parsed contents_of
result side p w zs ds c =
    let a = chain-long side p start zs ds c in
    let l = length-append (joined zs) (15 ∷ []) in
    let b : Built side (joined zs ++ (15 ∷ [])) p (length (joined zs ++ (15 ∷ [])) + 1) start ds = build side p zs ds [] start (length (joined zs ++ (15 ∷ [])) + 1) refl (omega arith) c in
    let q = parsed-is side (rec (joined zs ++ (15 ∷ [])) p w) b.places b.parses in
    record { parsed-all = b.parses ∙ ap ok q; says = ap (map (content_at (joined zs ++ (15 ∷ [])) p)) (sym q) ∙ b.says }

-- the reading of such a record: 8, or what its sizes say
pub data Settled (side : Side) (r : Rec) : Type 0 where
  too_long : reading side r ≡ refuse R.Long 0 → Settled side r
  by-sizes : reading side r ≡ sizes_of r (commands_at r.stream 0) → length r.stream ≤ 32768 → length r.pool ≤ 16384 → Settled side r

pub settles : (side : Side) (r : Rec) (ds : List Content) → Resulting side r ds → odd_letter r.pool ≡ None → Settled side r
unfolding reading concluded stream_limit pool_limit
settles side r ds b g = go (leb (length r.stream) 32768) (leb (length r.pool) 16384) refl refl
  where
    go : (x y : Bool) → leb (length r.stream) 32768 ≡ x → leb (length r.pool) 16384 ≡ y → Settled side r
    go true true e f = by-sizes (rw (e, f, g, b.parsed-all)) (leb-true (length r.stream) 32768 e) (leb-true (length r.pool) 16384 f)
    go true false e f = too_long (rw (e, f))
    go false y e f = too_long (rw e)

pub settles-read : (side : Side) (r : Rec) (ds : List Content) → Resulting side r ds → odd_letter r.pool ≡ None → length r.stream ≤ 32768 → length r.pool ≤ 16384
    → reading side r ≡ sizes_of r (commands_at r.stream 0)
unfolding reading concluded stream_limit pool_limit
settles-read side r ds b g e f = rw (le-leb (length r.stream) 32768 e, le-leb (length r.pool) 16384 f, g, b.parsed-all)

-- what an accepted record has passed, its pool too
pub record Fit (side : Side) (r : Rec) : Type 0 where
  pub pool-short : length r.pool ≤ 16384
  pub letters : odd_letter r.pool ≡ None

pub fit : (side : Side) (r : Rec) (t : Schema) → reading side r ≡ read t → Fit side r
unfolding reading concluded pool_limit stream_limit
fit side r t h = go (leb (length r.stream) 32768) (leb (length r.pool) 16384) refl (odd_letter r.pool) refl (parsed side r) h
  where
    go : (a b : Bool) → leb (length r.pool) 16384 ≡ b → (l : Option ℕ) → odd_letter r.pool ≡ l → (x : Parsed) → concluded r (a && b) l x ≡ read t → Fit side r
    go false b e l g x h = absurd (let z : ◌≡◌ {A = ℕ} 0 1 = cc in omega arith)
    go true false e l g x h = absurd (let z : ◌≡◌ {A = ℕ} 0 1 = cc in omega arith)
    go true true e (Some i) g x h = absurd (let z : ◌≡◌ {A = ℕ} 0 1 = cc in omega arith)
    go true true e None g x h = record { pool-short = leb-true (length r.pool) 16384 e; letters = g }

-- packing ------------------------------------------------------------------------------------------------------------------------

pub kept-short : (c : ℕ → Bool) (i : ℕ) (p : Str) → length (kept c i p) ≤ length p
unfolding kept
kept-short c i [] = omega arith
kept-short c i (b ∷ p) = go (c i) (kept-short c (i + 1) p)
  where
    go : (t : Bool) → length (kept c (i + 1) p) ≤ length p → length (cond t (b ∷ kept c (i + 1) p) (kept c (i + 1) p)) ≤ length (b ∷ p)
    go true h = omega arith
    go false h = omega arith

texts-of : (s : Str) (ps : List ℕ) (at : ℕ) → Memᴰ at ps → (u : Text) → Memᴰ u (texts_at s at) → Memᴰ u (texts_of s ps)
unfolding texts_of
texts-of s [] at m u t = absurd (Memᴰ.not-nil m)
texts-of s (a ∷ ps) at (Memᴰ.head e) u t = Memᴰ.append_left (texts_of s ps) (subst (λ (k : ℕ). Memᴰ u (texts_at s k)) e t)
texts-of s (a ∷ ps) at (Memᴰ.tail m) u t = Memᴰ.append_right (texts_at s a) (texts-of s ps at m u t)

of-texts : (s : Str) (ps : List ℕ) (u : Text) → Memᴰ u (texts_of s ps) → (at : ℕ) × Memᴰ at ps × Memᴰ u (texts_at s at)
unfolding texts_of
of-texts s [] u m = absurd (Memᴰ.not-nil m)
of-texts s (a ∷ ps) u m = go (Memᴰ.append_cases (texts_at s a) m) (of-texts s ps u)
  where
    go : Memᴰ u (texts_at s a) ⊎ Memᴰ u (texts_of s ps) → (Memᴰ u (texts_of s ps) → (at : ℕ) × Memᴰ at ps × Memᴰ u (texts_at s at))
        → (at : ℕ) × Memᴰ at (a ∷ ps) × Memᴰ u (texts_at s at)
    go (inl t) ih = (a, Memᴰ.head refl, t)
    go (inr t) ih = let w = ih t in (w.0, Memᴰ.tail w.1, w.2)

-- every text of the commands at these places lies in the pool
abbrev pub AllLie : Str → Str → List ℕ → Type 0
AllLie s p ps = (at : ℕ) → Memᴰ at ps → (u : Text) → Memᴰ u (texts_at s at) → Lies p u

all_lie : (s p : Str) (ps : List ℕ) → AllLie s p ps → (u : Text) → Memᴰ u (texts_of s ps) → Lies p u
all_lie s p ps h u m = let w = of-texts s ps u m in h w.0 w.1 u w.2

-- a pool without fault has no odd letter
pub good-letters : (p : Str) → odd_place p ≡ length p → odd_letter p ≡ None
good-letters p e = sym (none-odd p (odd_place p) refl e)

-- behind the last part of a pool stands nothing
pub nothing-begins : no_tail [] 0 ≡ true
unfolding well_formed well_after
nothing-begins = well-begins [] refl

-- the places that stay were there
after-in : (s : Str) (ps : List ℕ) (at : ℕ) → Memᴰ at (after_parts s ps) → Memᴰ at ps
unfolding after_parts
after-in s [] at m = m
after-in s (a ∷ ps) at m = go (is_part (get_or s a 0)) m (after-in s ps at)
  where
    go : (b : Bool) → Memᴰ at (cond b (after_parts s ps) (a ∷ ps)) → (Memᴰ at (after_parts s ps) → Memᴰ at ps) → Memᴰ at (a ∷ ps)
    go true n ih = Memᴰ.tail (ih n)
    go false n ih = n

without_in : (s p v : Str) (ps : List ℕ) (at : ℕ) → Memᴰ at (without s p v ps) → Memᴰ at ps
unfolding without
without_in s p v [] at m = m
without_in s p v (a ∷ ps) at m = go (named s p v a) m (without_in s p v ps at)
  where
    go : (b : Bool) → Memᴰ at (cond b (after_parts s ps) (a ∷ without s p v ps)) → (Memᴰ at (without s p v ps) → Memᴰ at ps) → Memᴰ at (a ∷ ps)
    go true n ih = Memᴰ.tail (after-in s ps at n)
    go false (Memᴰ.head e) ih = Memᴰ.head e
    go false (Memᴰ.tail n) ih = Memᴰ.tail (ih n)

pub packed-letters : (s p : Str) (ps : List ℕ) → AllLie s p ps → odd_letter p ≡ None → odd_place (packed_pool s p ps) ≡ length (packed_pool s p ps)
unfolding packed_pool
packed-letters s p ps h e = covered-letters (texts_of s ps) p (all_lie s p ps h) (letters-good p e)

pub all_moved : (side : Side) (s p u v : Str) (ps : List ℕ) (small : length (u ++ (packed_pool s p ps ++ v)) < 65535) → AllLie s p ps → no_tail v 0 ≡ true
    → AllMoved side s p (u ++ (packed_pool s p ps ++ v)) (moved_to (length u) (texts_of s ps) p) small ps
unfolding packed_pool moved_to
all_moved side s p u v ps small l z at m t h = moved_in (texts_of s ps) p (all_lie s p ps l) u v z t (texts-of s ps at m t h)

whole-chain : (side : Side) (p : Str) (k : Cursor) (zs : List Str) (ds : List Content) → Chain side (p ++ []) k (zs ++ []) (ds ++ []) → Chain side p k zs ds
whole-chain side p k zs ds c =
    subst (λ (q : Str). Chain side q k zs ds) (append-nil p)
    (subst (λ (q : List Str). Chain side (p ++ []) k q ds) (append-nil zs) (subst (λ (q : List Content). Chain side (p ++ []) k (zs ++ []) q) (append-nil ds) c))

module _ (side : Side) (r : Rec) (t : Schema) (h : reading side r ≡ read t) where
  pub pool-small : (ps : List ℕ) → length (packed_pool r.stream r.pool ps) ≤ 16384
  unfolding packed_pool
  pool-small ps = let a = (fit side r t h).pool-short in let b = kept-short (covered (texts_of r.stream ps)) 0 r.pool in omega arith

  pub pool-letters : (ps : List ℕ) → AllLie r.stream r.pool ps → odd_place (packed_pool r.stream r.pool ps) ≡ length (packed_pool r.stream r.pool ps)
  pool-letters ps l = packed-letters r.stream r.pool ps l (fit side r t h).letters

  pub rest-lies : (v : Str) → AllLie r.stream r.pool (without r.stream r.pool v (commands_at r.stream 0))
  rest-lies v at m u n = texts-lie side r t h at (without_in r.stream r.pool v (commands_at r.stream 0) at m) u n

  small-enough : (ps : List ℕ) → length (packed_pool r.stream r.pool ps ++ []) < 65535
  small-enough ps = let a = pool-small ps in let b = length-append (packed_pool r.stream r.pool ps) [] in omega arith

  pub parse-all : parse (length r.stream + 1) side r.stream r.pool start ≡ ok (commands_at r.stream 0)
  unfolding parsed
  parse-all = (accepting side r t h).parsed-all

  pub removed-result : (v : Str) → Resulting side (removed v r) (map (content_at r.stream r.pool) (without r.stream r.pool v (commands_at r.stream 0)))
  unfolding removed packed_commands
  removed-result v =
      let ps = without r.stream r.pool v (commands_at r.stream 0) in
      let p2 = packed_pool r.stream r.pool ps in
      result side p2 r.scalars (written (moved_to 0 (texts_of r.stream ps) r.pool) r.stream ps) (map (content_at r.stream r.pool) ps)
      (whole-chain side p2 start (written (moved_to 0 (texts_of r.stream ps) r.pool) r.stream ps) (map (content_at r.stream r.pool) ps)
      (chain-without side r.stream r.pool (p2 ++ []) (moved_to 0 (texts_of r.stream ps) r.pool) (small-enough ps) [] [] (λ k n. n) v (length r.stream + 1) start (commands_at r.stream 0) parse-all (all_moved side r.stream r.pool [] [] ps (small-enough ps) (rest-lies v) nothing-begins) 0))
