-- 02, W-210: the result of an edit is refused by 8 or 9 alone; the commands of draft and added type are in it with their contents. Assumes nothing.
use Rattle.std.specs.Prelude.{Option, Some, None}
use mathlib.Core.Path.{◌≡◌, sym, ap, ◌∙◌}
use mathlib.Core.List.{List, ◌++◌, map}
use mathlib.Core.Logic.{◌⊎◌, inl, inr}
use Prim.Native.Nat.{ℕ}
use native.Mathlib.Omega.{arith}
use Rattle.record.specs.Base.{Str, find}
use Rattle.record.specs.Fill.{fronted}
use Rattle.record.specs.Schema.{Schema}
use Rattle.record.specs.Letters.{odd_letter}
use Rattle.record.specs.Commands.{commands_at}
use Rattle.record.specs.Reading.{Rec, schema_from, Opened, opened, vast, read, refuse, reading, ok, vast_or, sizes_of}
use Rattle.record.specs.declared.refusal.Side.{Side}
use Rattle.record.specs.declared.refusal.Side.TheVariants.{Current}
use Rattle.record.specs.declared.refusal.Refusal.{Refusal}
use Rattle.record.specs.declared.refusal.Refusal.TheVariants as R
use Rattle.drafts.specs.Content.{Content, content_at, contents_of}
use Rattle.drafts.specs.Parts.{held_rec, parts_of}
use Rattle.drafts.specs.Addition.{addition}
use Rattle.drafts.specs.Edits.{without, removed, tail, added}
use Rattle.drafts.proofs.Results.{Settled, too_long, by-sizes, settles, good-letters, rest-lies, removed-result, pool-letters}
use Rattle.drafts.proofs.PartLaws.{held-is}
use Rattle.drafts.proofs.Additions.{added-result, added-letters}

vast-or : (s : Schema) (o : Option Opened) (n : Refusal) (p : ℕ) → vast_or s o ≡ refuse n p → n ≡ R.Vast
unfolding vast_or
vast-or s None n p h = absurd (let z : ◌≡◌ {A = ℕ} 0 1 = cc in omega arith)
vast-or s (Some t) n p h = cc

long-or-vast : (side : Side) (r : Rec) → Settled side r → (n : Refusal) (p : ℕ) → reading side r ≡ refuse n p → (n ≡ R.Long) ⊎ (n ≡ R.Vast)
unfolding sizes_of
long-or-vast side r (too_long e) n p h = let q : refuse R.Long 0 ≡ refuse n p = sym e ∙ h in inl cc
long-or-vast side r (by-sizes e a b) n p h =
    inr (vast-or (schema_from r (commands_at r.stream 0)) (find (vast (schema_from r (commands_at r.stream 0))) (opened r.stream r.pool (commands_at r.stream 0))) n p (sym e ∙ h))

module _ (r : Rec) (t : Schema) (h : reading Current r ≡ read t) where
  pub removed-letters : (v : Str) → odd_letter (removed v r).pool ≡ None
  unfolding removed
  removed-letters v =
      good-letters (removed v r).pool (pool-letters Current r t h (without r.stream r.pool v (commands_at r.stream 0)) (rest-lies Current r t h v))

  pub removed-refusal : (v : Str) (n : Refusal) (p : ℕ) → reading Current (removed v r) ≡ refuse n p → (n ≡ R.Long) ⊎ (n ≡ R.Vast)
  removed-refusal v n p =
      long-or-vast Current (removed v r) (settles Current (removed v r) (map (content_at r.stream r.pool) (without r.stream r.pool v (commands_at r.stream 0))) (removed-result Current r t h v) (removed-letters v)) n p

  -- the draft that stands in the buffer after a removal says what the other commands said, in their order
  pub removed-says : (v b : Str) → contents_of (held_rec (removed v r).scalars (fronted b (parts_of (removed v r)))) ≡ map (content_at r.stream r.pool) (without r.stream r.pool v (commands_at r.stream 0))
  removed-says v b = ap contents_of (held-is (removed v r) b) ∙ (removed-result Current r t h v).says

  module _ (a : Rec) (xs : List ℕ) (g : addition a ≡ ok xs) where
    abbrev type-contents : List Content
    type-contents = map (content_at a.stream a.pool) (tail (commands_at a.stream 0))

    pub added-refusal : (n : Refusal) (p : ℕ) → reading Current (added r a) ≡ refuse n p → (n ≡ R.Long) ⊎ (n ≡ R.Vast)
    added-refusal n p = long-or-vast Current (added r a) (settles Current (added r a) (contents_of r ++ type-contents) (added-result r t h a xs g) (added-letters r t h a xs g)) n p

    -- after an addition it says what the draft said, and then what the added type says
    pub added-says : (b : Str) → contents_of (held_rec (added r a).scalars (fronted b (parts_of (added r a)))) ≡ contents_of r ++ type-contents
    added-says b = ap contents_of (held-is (added r a) b) ∙ (added-result r t h a xs g).says
