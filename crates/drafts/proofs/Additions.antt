-- An addition is a head and one type with its parts; the result of adding it says what the draft said, and then what the type says. Assumes nothing.
use Rattle.std.specs.Prelude.{Option, Some, None, Ok, Err}
use mathlib.Core.Path.{◌≡◌, refl, sym, ap, ◌∙◌, subst}
use mathlib.Core.List.Memᴰ
use mathlib.Core.List.{List, [], ◌∷◌, ◌++◌, map, append-nil, Memᴰ}
use mathlib.Core.Bool.{Bool, true, false, ◌&&◌, ◌||◌, cond, false≢true}
use Prim.Native.Nat.{ℕ, zero, suc, ◌+◌, ◌-◌, ◌≤◌, ◌<◌}
use native.Mathlib.Omega.{arith}
use lib.ListN.{length, get_or, drop, length-append}
use lib.Dec.{eqb, ltb, leb}
use borrow.Author.Tests.{eqb-true, ne_eqb, leb-true}
use Rattle.record.specs.Base.{Str}
use Rattle.record.specs.Schema.{Schema}
use Rattle.record.specs.Letters.{odd_letter}
use Rattle.record.specs.Commands.{operands, widths, command_of, start, commands_at}
use Rattle.record.specs.Judge.{may_stand, advanced, faults_from, faulted, ready, judged_with, judged_at}
use Rattle.record.specs.Reading.{Rec, read, reading, ok, onto, continued, parse, parsed, stream_limit, pool_limit}
use Rattle.record.specs.declared.command.Cursor.{Cursor}
use Rattle.record.specs.declared.refusal.Side.TheVariants.{Current}
use Rattle.record.specs.declared.refusal.Refusal.TheVariants as R
use Rattle.record.proofs.Accepted.{Passed, passed, Lets, onto-ok, parsed-is}
use Rattle.drafts.specs.Content.{Content, content_at, contents_of}
use Rattle.drafts.specs.Packing.{texts_of, covered, written, packed_pool, moved_to, packed_commands}
use Rattle.drafts.specs.Addition.{is_type, is_part, may_add, addition_as, addition_at, parse_addition, concluded_addition, addition}
use Rattle.drafts.specs.Edits.{after_parts, tail, added}
use Rattle.texts.specs.Utf8.{odd_place}
use Rattle.texts.proofs.EncodingLaws.{well-join}
use Rattle.texts.proofs.EdgeLaws.{well-begins}
use Rattle.texts.proofs.LetterLaws.{fine-well, fine-clean, well-fine, clean-join}
use Rattle.record.proofs.WholeTexts.{parse-lies, texts-lie}
use Rattle.drafts.proofs.Links.{went, Chain}
use Rattle.drafts.proofs.Chains.{Quiet, AllMoved, chain-all, chain-after}
use Rattle.drafts.proofs.Results.{Resulting, result, kept-short, AllLie, good-letters, nothing-begins, packed-letters, all_moved, pool-small, pool-letters, parse-all}
use Rattle.record.specs.Judge.{Judged}

-- a command that may stand in an addition is judged as in any record --------------------------------------------------------------

pub record Judges (s : Str) (pool : Str) (c : Cursor) (j : Judged) : Type 0 where
  pub as-current : judged_at Current s pool c ≡ j
  pub shaped : may_add c.last (get_or s c.at 0) ≡ true

module _ (s : Str) (pool : Str) (c : Cursor) (j : Judged) (l : Lets j) where
  pub judges : addition_at s pool c ≡ j → Judges s pool c j
  unfolding addition_at addition_as judged_at judged_with
  judges e = past (ltb c.at (length s)) refl e
    where
      past : (b : Bool) → ltb c.at (length s) ≡ b → cond b (addition_as s pool c (get_or s c.at 0) (operands (get_or s c.at 0))) (Err (R.Cut, c.at)) ≡ j → Judges s pool c j
      past false q h = absurd (subst Lets (sym h) l)
      past true q h = row (operands (get_or s c.at 0)) refl h
        where
          row : (o : Option Str) → operands (get_or s c.at 0) ≡ o → addition_as s pool c (get_or s c.at 0) o ≡ j → Judges s pool c j
          row None q2 h = absurd (subst Lets (sym h) l)
          row (Some os) q2 h = cut (ltb (length s - c.at) (1 + widths os)) refl (may_stand c (get_or s c.at 0)) refl (may_add c.last (get_or s c.at 0)) refl h
            where
              cut : (b : Bool) → ltb (length s - c.at) (1 + widths os) ≡ b → (t : Bool) → may_stand c (get_or s c.at 0) ≡ t → (u : Bool) → may_add c.last (get_or s c.at 0) ≡ u
                  → cond b (Err (R.Cut, c.at)) (cond (t && u) (faulted c.at (ready s c (get_or s c.at 0) (1 + widths os)) (faults_from Current pool (drop c.at s) 1 os)) (Err (R.Misplaced, c.at))) ≡ j → Judges s pool c j
              cut true q3 t q4 u q5 h = absurd (subst Lets (sym h) l)
              cut false q3 false q4 u q5 h = absurd (subst Lets (sym h) l)
              cut false q3 true q4 false q5 h = absurd (subst Lets (sym h) l)
              cut false q3 true q4 true q5 h = record { as-current = rw (q, q2, q3, q4) h; shaped = q5 }

may_part : (l b : ℕ) → may_add l b ≡ true → (l ≡ 0 → ⊥) → (l ≡ 1 → ⊥) → (b ≡ 15 → ⊥) → is_part b ≡ true
unfolding may_add
may_part l b h x y z = go (is_part b) (rw (ne_eqb l 0 x, ne_eqb l 1 y, ne_eqb b 15 z) at h)
  where
    go : (t : Bool) → (t || false) ≡ true → t ≡ true
    go true h = refl
    go false h = h

part-far : (b : ℕ) → is_part b ≡ true → 9 < b
unfolding is_part
part-far b h = go (eqb b 10) refl (eqb b 11) refl (eqb b 12) refl h
  where
    go : (x : Bool) → eqb b 10 ≡ x → (y : Bool) → eqb b 11 ≡ y → (z : Bool) → eqb b 12 ≡ z → (x || y || z) ≡ true → 9 < b
    go true e y f z g h = let q = eqb-true b 10 e in omega arith
    go false e true f z g h = let q = eqb-true b 11 f in omega arith
    go false e false f true g h = let q = eqb-true b 12 g in omega arith
    go false e false f false g h = absurd (false≢true h)

pub type-far : (b : ℕ) → is_type b ≡ true → (7 < b) × (b < 10)
unfolding is_type
type-far b h = go (eqb b 8) refl (eqb b 9) refl h
  where
    go : (x : Bool) → eqb b 8 ≡ x → (y : Bool) → eqb b 9 ≡ y → (x || y) ≡ true → (7 < b) × (b < 10)
    go true e y f h = let q = eqb-true b 8 e in (omega arith, omega arith)
    go false e true f h = let q = eqb-true b 9 f in (omega arith, omega arith)
    go false e false f h = absurd (false≢true h)

type-no-part : (b : ℕ) → is_type b ≡ true → is_part b ≡ false
type-no-part b h = go (is_part b) refl
  where
    go : (t : Bool) → is_part b ≡ t → t ≡ false
    go true e = absurd (let x = type-far b h in let y = part-far b e in let u = x.1 in omega arith)
    go false e = refl

may-first : (b : ℕ) → may_add 0 b ≡ true → b ≡ 1
unfolding may_add
may-first b h = eqb-true b 1 h

may-type : (b : ℕ) → may_add 1 b ≡ true → is_type b ≡ true
unfolding may_add
may-type b h = h

done-byte : (s : Str) (pool : Str) (c : Cursor) → judged_at Current s pool c ≡ Ok None → get_or s c.at 0 ≡ 15
unfolding ready
done-byte s pool c e = let p = passed Current s pool c (Ok None) tt e in go p (eqb (get_or s c.at 0) 15) refl p.is-ready
  where
    go : (p : Passed Current s pool c (Ok None)) (t : Bool) → eqb (get_or s c.at 0) 15 ≡ t
        → cond {A = Judged} t (cond (eqb (c.at + (1 + widths p.row)) (length s)) (Ok None) (Err (R.Misplaced, c.at + (1 + widths p.row)))) (Ok (Some (command_of (get_or s c.at 0) (drop c.at s), advanced c (get_or s c.at 0) (1 + widths p.row)))) ≡ Ok None
        → get_or s c.at 0 ≡ 15
    go p true q h = eqb-true (get_or s c.at 0) 15 q
    go p false q h = absurd (let y : ◌≡◌ {A = ℕ} 0 1 = cc in omega arith)

module _ (s : Str) (pool : Str) where
  pub addition-parse : (k : ℕ) (c : Cursor) (ps : List ℕ) → parse_addition k s pool c ≡ ok ps → parse k Current s pool c ≡ ok ps
  unfolding parse_addition parse continued onto
  addition-parse zero c ps h = h
  addition-parse (suc k) c ps h = go (addition_at s pool c) refl h (λ d qs e. addition-parse k d qs e)
    where
      go : (j : Judged) → addition_at s pool c ≡ j → continued c.at (parse_addition k s pool) j ≡ ok ps
          → ((d : Cursor) (qs : List ℕ) → parse_addition k s pool d ≡ ok qs → parse k Current s pool d ≡ ok qs) → continued c.at (parse k Current s pool) (judged_at Current s pool c) ≡ ok ps
      go (Ok (Some (d, j))) e h ih =
          let t = onto-ok c.at (parse_addition k s pool j) ps h in
          rw (judges s pool c (Ok (Some (d, j))) tt e).as-current (rw (ih j t.more t.parsed-so) (ap ok t.whole))
      go (Ok None) e h ih = rw (judges s pool c (Ok None) tt e).as-current h
      go (Err (r, q)) e h ih = absurd (let z : ◌≡◌ {A = ℕ} 0 1 = cc in omega arith)

  -- after the type only its parts
  pub only_parts : (k : ℕ) (c : Cursor) (ps : List ℕ) → parse_addition k s pool c ≡ ok ps → (c.last ≡ 0 → ⊥) → (c.last ≡ 1 → ⊥) → (at : ℕ) → Memᴰ at ps → is_part (get_or s at 0) ≡ true
  unfolding parse_addition continued
  only_parts zero c ps h a b at m = absurd (let z : ◌≡◌ {A = ℕ} 0 1 = cc in omega arith)
  only_parts (suc k) c ps h a b at m = go (addition_at s pool c) refl h (λ d qs e x y. only_parts k d qs e x y at)
    where
      at_head : (qs : List ℕ) → is_part (get_or s c.at 0) ≡ true → (Memᴰ at qs → is_part (get_or s at 0) ≡ true) → Memᴰ at (c.at ∷ qs) → is_part (get_or s at 0) ≡ true
      at_head qs q r (Memᴰ.head e) = subst (λ (x : ℕ). is_part (get_or s x 0) ≡ true) (sym e) q
      at_head qs q r (Memᴰ.tail l) = r l

      go : (j : Judged) → addition_at s pool c ≡ j → continued c.at (parse_addition k s pool) j ≡ ok ps
          → ((d : Cursor) (qs : List ℕ) → parse_addition k s pool d ≡ ok qs → (d.last ≡ 0 → ⊥) → (d.last ≡ 1 → ⊥) → Memᴰ at qs → is_part (get_or s at 0) ≡ true) → is_part (get_or s at 0) ≡ true
      go (Ok (Some (d, j))) e h ih =
          let t = onto-ok c.at (parse_addition k s pool j) ps h in
          let x = judges s pool c (Ok (Some (d, j))) tt e in
          let w = went Current s pool c d j x.as-current in
          let q = may_part c.last (get_or s c.at 0) x.shaped a b w.going in
          let f = part-far (get_or s c.at 0) q in
          let l : get_or s c.at 0 ≡ j.last = ap (λ (y : Cursor). y.last) w.next in
          at_head t.more q (ih j t.more t.parsed-so (λ z. omega arith) (λ z. omega arith)) (subst (λ (y : List ℕ). Memᴰ at y) (sym t.whole) m)
      go (Ok None) e h ih = let q : [] ≡ ps = cc in absurd (Memᴰ.not-nil (subst (λ (l : List ℕ). Memᴰ at l) (sym q) m))
      go (Err (r, q)) e h ih = absurd (let z : ◌≡◌ {A = ℕ} 0 1 = cc in omega arith)

  -- head, one type, its parts
  pub record Shaped (ps : List ℕ) : Type 0 where
    pub fuel : ℕ
    pub after-head : Cursor
    pub type_at : ℕ
    pub parts : List ℕ
    pub whole : 0 ∷ type_at ∷ parts ≡ ps
    pub head : get_or s 0 0 ≡ 1
    pub parses : parse fuel Current s pool after-head ≡ ok (type_at ∷ parts)
    pub quiet : Quiet after-head.last
    pub is-type : is_type (get_or s type_at 0) ≡ true
    pub are-parts : (at : ℕ) → Memᴰ at parts → is_part (get_or s at 0) ≡ true

  -- from the cursor after the head
  record Second (k : ℕ) (c : Cursor) (ps : List ℕ) : Type 0 where
    type_at : ℕ
    parts : List ℕ
    whole : type_at ∷ parts ≡ ps
    is-type : is_type (get_or s type_at 0) ≡ true
    are-parts : (at : ℕ) → Memᴰ at parts → is_part (get_or s at 0) ≡ true

  second : (k : ℕ) (c : Cursor) (ps : List ℕ) → c.last ≡ 1 → parse_addition k s pool c ≡ ok ps → Second k c ps
  unfolding parse_addition continued is_type
  second zero c ps l h = absurd (let z : ◌≡◌ {A = ℕ} 0 1 = cc in omega arith)
  second (suc k) c ps l h = go (addition_at s pool c) refl h
    where
      go : (j : Judged) → addition_at s pool c ≡ j → continued c.at (parse_addition k s pool) j ≡ ok ps → Second (suc k) c ps
      go (Ok (Some (d, j))) e h =
          let t = onto-ok c.at (parse_addition k s pool j) ps h in
          let x = judges s pool c (Ok (Some (d, j))) tt e in
          let w = went Current s pool c d j x.as-current in
          let b = may-type (get_or s c.at 0) (ap (λ (y : ℕ). may_add y (get_or s c.at 0)) (sym l) ∙ x.shaped) in
          let f = type-far (get_or s c.at 0) b in
          let f0 = f.0 in
          let i : get_or s c.at 0 ≡ j.last = ap (λ (y : Cursor). y.last) w.next in
          record {
            type_at = c.at;
            parts = t.more;
            whole = t.whole;
            is-type = b;
            are-parts = only_parts k j t.more t.parsed-so (λ z. omega arith) (λ z. omega arith);
          }
      go (Ok None) e h =
          let x = judges s pool c (Ok None) tt e in
          let f = type-far (get_or s c.at 0) (may-type (get_or s c.at 0) (ap (λ (y : ℕ). may_add y (get_or s c.at 0)) (sym l) ∙ x.shaped)) in
          let q = done-byte s pool c x.as-current in
          let z = f.1 in
          absurd (omega arith)
      go (Err (r, q)) e h = absurd (let z : ◌≡◌ {A = ℕ} 0 1 = cc in omega arith)

  pub shape : (k : ℕ) (ps : List ℕ) → parse_addition k s pool start ≡ ok ps → Shaped ps
  unfolding parse_addition continued
  shape zero ps h = absurd (let z : ◌≡◌ {A = ℕ} 0 1 = cc in omega arith)
  shape (suc k) ps h = go (addition_at s pool start) refl h
    where
      go : (j : Judged) → addition_at s pool start ≡ j → continued 0 (parse_addition k s pool) j ≡ ok ps → Shaped ps
      go (Ok (Some (d, j))) e h =
          let t = onto-ok 0 (parse_addition k s pool j) ps h in
          let x = judges s pool start (Ok (Some (d, j))) tt e in
          let w = went Current s pool start d j x.as-current in
          let one = may-first (get_or s 0 0) x.shaped in
          let l : j.last ≡ 1 = sym (ap (λ (y : Cursor). y.last) w.next) ∙ one in
          let u = second k j t.more l t.parsed-so in
          record {
            fuel = k;
            after-head = j;
            type_at = u.type_at;
            parts = u.parts;
            whole = ap (λ (y : List ℕ). 0 ∷ y) u.whole ∙ t.whole;
            head = one;
            parses = addition-parse k j t.more t.parsed-so ∙ ap ok (sym u.whole);
            quiet = record { not0 = λ q. omega arith; not4 = λ q. omega arith; not5 = λ q. omega arith; not6 = λ q. omega arith; not7 = λ q. omega arith };
            is-type = u.is-type;
            are-parts = u.are-parts;
          }
      go (Ok None) e h =
          let x = judges s pool start (Ok None) tt e in
          let one = may-first (get_or s 0 0) x.shaped in
          let q = done-byte s pool start x.as-current in
          absurd (omega arith)
      go (Err (r, q)) e h = absurd (let z : ◌≡◌ {A = ℕ} 0 1 = cc in omega arith)

-- what an accepted addition has passed
pub record Addable (a : Rec) (ps : List ℕ) : Type 0 where
  pub pool-short : length a.pool ≤ 16384
  pub letters : odd_letter a.pool ≡ None
  pub parses : parse (length a.stream + 1) Current a.stream a.pool start ≡ ok ps
  pub are-commands : ps ≡ commands_at a.stream 0
  pub shaped : Shaped a.stream a.pool ps

pub addable : (a : Rec) (ps : List ℕ) → addition a ≡ ok ps → Addable a ps
unfolding addition concluded_addition stream_limit pool_limit parsed
addable a ps h = go (leb (length a.stream) 32768) (leb (length a.pool) 16384) refl (odd_letter a.pool) refl h
  where
    go : (x y : Bool) → leb (length a.pool) 16384 ≡ y → (l : Option ℕ) → odd_letter a.pool ≡ l
        → concluded_addition (x && y) l (parse_addition (length a.stream + 1) a.stream a.pool start) ≡ ok ps → Addable a ps
    go false y e l g h = absurd (let z : ◌≡◌ {A = ℕ} 0 1 = cc in omega arith)
    go true false e l g h = absurd (let z : ◌≡◌ {A = ℕ} 0 1 = cc in omega arith)
    go true true e (Some i) g h = absurd (let z : ◌≡◌ {A = ℕ} 0 1 = cc in omega arith)
    go true true e None g h = record {
      pool-short = leb-true (length a.pool) 16384 e;
      letters = g;
      parses = addition-parse a.stream a.pool (length a.stream + 1) start ps h;
      are-commands = parsed-is Current a ps (addition-parse a.stream a.pool (length a.stream + 1) start ps h);
      shaped = shape a.stream a.pool (length a.stream + 1) ps h;
    }

-- the result -----------------------------------------------------------------------------------------------------------------------

module _ (r : Rec) (t : Schema) (h : reading Current r ≡ read t) (a : Rec) (xs : List ℕ) (g : addition a ≡ ok xs) where
  abbrev p1 : Str
  p1 = packed_pool r.stream r.pool (commands_at r.stream 0)

  -- the places of the type and its parts
  abbrev qs : List ℕ
  qs = tail (commands_at a.stream 0)

  abbrev q2 : Str
  q2 = packed_pool a.stream a.pool qs

  q2-small : length q2 ≤ 16384
  unfolding packed_pool
  q2-small = let x = (addable a xs g).pool-short in let y = kept-short (covered (texts_of a.stream qs)) 0 a.pool in omega arith

  tail-in : (l : List ℕ) (at : ℕ) → Memᴰ at (tail l) → Memᴰ at l
  unfolding tail
  tail-in [] at m = m
  tail-in (x ∷ l) at m = Memᴰ.tail m

  -- the texts of the addition lie in its pool
  qs-lie : AllLie a.stream a.pool qs
  qs-lie at m u n =
      parse-lies a.pool (length a.stream + 1) Current a.stream start (commands_at a.stream 0)
      ((addable a xs g).parses ∙ ap ok (addable a xs g).are-commands) at (tail-in (commands_at a.stream 0) at m) u n

  q2-letters : odd_place q2 ≡ length q2
  q2-letters = packed-letters a.stream a.pool qs qs-lie (addable a xs g).letters

  p1-letters : odd_place p1 ≡ length p1
  p1-letters = pool-letters Current r t h (commands_at r.stream 0) (texts-lie Current r t h)

  pub added-letters : odd_letter (added r a).pool ≡ None
  unfolding added
  added-letters =
      good-letters (p1 ++ q2)
      (well-fine (p1 ++ q2) (well-join p1 q2 (fine-well p1 p1-letters) (fine-well q2 q2-letters)) (clean-join p1 q2 (fine-clean p1 p1-letters) (fine-clean q2 q2-letters)))

  small1 : length (p1 ++ q2) < 65535
  small1 = let x = pool-small Current r t h (commands_at r.stream 0) in let y = q2-small in let z = length-append p1 q2 in omega arith

  small2 : length (p1 ++ (q2 ++ [])) < 65535
  small2 = subst (λ (x : Str). length (p1 ++ x) < 65535) (sym (append-nil q2)) small1

  pub body : Shaped a.stream a.pool (commands_at a.stream 0)
  body = subst (λ (x : List ℕ). Shaped a.stream a.pool x) (addable a xs g).are-commands (addable a xs g).shaped

  pub body-tail : body.type_at ∷ body.parts ≡ qs
  unfolding tail
  body-tail = ap tail body.whole

  body-parts : after_parts a.stream qs ≡ qs
  unfolding after_parts
  body-parts = subst (λ (x : List ℕ). after_parts a.stream x ≡ x) body-tail (rw (type-no-part (get_or a.stream body.type_at 0) body.is-type))

  -- the added commands, wherever they begin
  added-chain : (k : Cursor) → (k.last ≡ 0 → ⊥)
      → Chain Current (p1 ++ q2) k (written (moved_to (length p1) (texts_of a.stream qs) a.pool) a.stream qs) (map (content_at a.stream a.pool) qs)
  added-chain k z =
      let f = moved_to (length p1) (texts_of a.stream qs) a.pool in
      let m : AllMoved Current a.stream a.pool (p1 ++ (q2 ++ [])) f small2 (after_parts a.stream qs) =
      subst (λ (x : List ℕ). AllMoved Current a.stream a.pool (p1 ++ (q2 ++ [])) f small2 x) (sym body-parts) (all_moved Current a.stream a.pool p1 [] qs small2 qs-lie nothing-begins) in
      let c = chain-after Current a.stream a.pool (p1 ++ (q2 ++ [])) f small2 [] [] (λ j n. n) body.fuel body.after-head qs (body.parses ∙ ap ok body-tail) body.quiet m k z in
      let c2 = subst (λ (x : List ℕ). Chain Current (p1 ++ (q2 ++ [])) k (written f a.stream x ++ []) (map (content_at a.stream a.pool) x ++ [])) body-parts c in
      let c3 = subst (λ (x : Str). Chain Current (p1 ++ x) k (written f a.stream qs ++ []) (map (content_at a.stream a.pool) qs ++ [])) (append-nil q2) c2 in
      let c4 = subst (λ (x : List Str). Chain Current (p1 ++ q2) k x (map (content_at a.stream a.pool) qs ++ [])) (append-nil (written f a.stream qs)) c3 in
      subst (λ (x : List Content). Chain Current (p1 ++ q2) k (written f a.stream qs) x) (append-nil (map (content_at a.stream a.pool) qs)) c4

  -- the draft's commands, then the type's
  pub added-result : Resulting Current (added r a) (contents_of r ++ map (content_at a.stream a.pool) qs)
  unfolding added packed_commands contents_of
  added-result =
      let ps = commands_at r.stream 0 in
      let f = moved_to 0 (texts_of r.stream ps) r.pool in
      let zs = written (moved_to (length p1) (texts_of a.stream qs) a.pool) a.stream qs in
      result Current (p1 ++ q2) r.scalars (written f r.stream ps ++ zs) (map (content_at r.stream r.pool) ps ++ map (content_at a.stream a.pool) qs)
      (chain-all Current r.stream r.pool (p1 ++ q2) f small1 zs (map (content_at a.stream a.pool) qs) added-chain (length r.stream + 1) start ps (parse-all Current r t h)
      (all_moved Current r.stream r.pool [] q2 ps small1 (texts-lie Current r t h) (well-begins q2 (fine-well q2 q2-letters))) 0)
