-- The cases of the reading of a record. Assumes nothing.
use Rattle.std.specs.Prelude.{Option, Some, None, Result, Ok, Err, ⊤}
use mathlib.Core.Path.{◌≡◌, refl, sym, ap, ◌∙◌}
use mathlib.Core.List.{List, [], ◌∷◌, Memᴰ}
use mathlib.Core.Bool.{Bool, true, false, ◌&&◌}
use Prim.Native.Nat.{ℕ, zero, suc, ◌+◌, ◌-◌, ◌≤◌, ◌<◌}
use native.Mathlib.Omega.{arith}
use lib.ListN.{length}
use lib.Dec.{leb, ltb}
use borrow.Author.Tests.{le-leb, lt-leb, ltb-false}
use Rattle.record.specs.Base.{Str, find}
use Rattle.record.specs.Scalars.{Scalar}
use Rattle.record.specs.Schema.{Schema}
use Rattle.record.specs.Letters.{odd_letter}
use Rattle.record.specs.Commands.{start, commands_at}
use Rattle.record.specs.Judge.{judged_at}
use Rattle.record.specs.Shapes.{FieldLayout, places, limit}
use Rattle.record.specs.Reading.{Rec, rec, schema_from, schema_of, Opened, opened, large, vast, read, refuse, Parsed, ok, bad, onto, continued, parse, parsed, vast_or, sizes_of, stream_limit, pool_limit, concluded, reading}
use Rattle.record.specs.Vast.{opened_from, vast_at, first_vast}
use Rattle.record.specs.Read.{parsed_from, outcome_of, Exact, Read}
use Rattle.record.specs.declared.command.Cursor.{Cursor}
use Rattle.record.specs.declared.command.Command.{Command}
use Rattle.record.specs.declared.refusal.Side.{Side}
use Rattle.record.specs.declared.refusal.Refusal.{Refusal}
use Rattle.record.specs.declared.refusal.Refusal.TheVariants as R
use Rattle.record.proofs.Basics.{any_none, find-any}
use Rattle.record.proofs.Stream.{step-found}
use Rattle.record.proofs.JudgeLaws.{judged-past}
use Rattle.record.proofs.SizeLaws.{cap-low}
use Rattle.record.proofs.Accepted.{judged-step, parsed-is, accepting}
use Rattle.record.specs.Judge.{Judged}

-- the commands, one at a time -----------------------------------------------------------------------------------------------

module _ (side : Side) (s : Str) (pool : Str) where
  -- more commands than bytes change nothing
  enough : (k m : ℕ) (c : Cursor) → length s < k + c.at → length s < m + c.at → parse k side s pool c ≡ parse m side s pool c
  unfolding parse continued
  enough zero zero c p q = refl
  enough zero (suc m) c p q = rw (← judged-past side s pool c (omega arith))
  enough (suc k) zero c p q = rw (← judged-past side s pool c (omega arith))
  enough (suc k) (suc m) c p q = go (enough k m) (judged_at side s pool c) refl
    where
      go : ((d : Cursor) → length s < k + d.at → length s < m + d.at → parse k side s pool d ≡ parse m side s pool d) → (j : Judged) → judged_at side s pool c ≡ j
          → continued c.at (parse k side s pool) j ≡ continued c.at (parse m side s pool) j
      go ih (Ok (Some (d, j))) e =
          let f = step-found s c.at _ _ (judged-step side s pool c d j e) in
          let on = f.on in
          ap (onto c.at) (ih j (omega arith) (omega arith))
      go ih (Ok None) e = refl
      go ih (Err (r, p)) e = refl

  from-here : (c : Cursor) → parsed_from side s pool c ≡ continued c.at (parse (length s + 1 - c.at) side s pool) (judged_at side s pool c)
  unfolding parsed_from parse
  from-here c = enough (length s + 1 - c.at) (suc (length s + 1 - c.at)) c (omega arith) (omega arith)

  onto-outcome : (at : ℕ) (x : Parsed) → outcome_of (onto at x) ≡ outcome_of x
  unfolding outcome_of onto
  onto-outcome at (ok ps) = refl
  onto-outcome at (bad r p) = refl

  module _ (c : Cursor) (j : Judged) (e : j ≡ judged_at side s pool c) where
    pub commands-on : (d : Command) (k : Cursor) → j ≡ Ok (Some (d, k)) → outcome_of (parsed_from side s pool c) ≡ outcome_of (parsed_from side s pool k)
    unfolding continued parsed_from
    commands-on d k h =
        let f = step-found s c.at _ _ (judged-step side s pool c d k (sym e ∙ h)) in
        let on = f.on in
        let within = f.within in
        ap outcome_of (from-here c ∙ (rw (sym e ∙ h) (ap (onto c.at) (enough (length s + 1 - c.at) (length s + 1 - k.at) k (omega arith) (omega arith)))))
        ∙ onto-outcome c.at (parse (length s + 1 - k.at) side s pool k)

    pub commands-nearer : (d : Command) (k : Cursor) → j ≡ Ok (Some (d, k)) → length s - k.at < length s - c.at
    commands-nearer d k h =
        let f = step-found s c.at _ _ (judged-step side s pool c d k (sym e ∙ h)) in
        let on = f.on in
        let within = f.within in
        omega arith

    pub commands-done : j ≡ Ok None → outcome_of (parsed_from side s pool c) ≡ Ok tt
    unfolding continued outcome_of
    commands-done h = ap outcome_of (from-here c) ∙ rw (sym e ∙ h)

    pub commands-refused : (x : Refusal × ℕ) → j ≡ Err x → outcome_of (parsed_from side s pool c) ≡ Err x
    unfolding continued outcome_of
    commands-refused x h = ap outcome_of (from-here c) ∙ rw (sym e ∙ h)

pub ruleset commands-laws = (commands-on, commands-done, commands-refused)

-- the whole record ----------------------------------------------------------------------------------------------------------

none-some : {A : Type 0} {x : A} → None ≡ Some x → ⊥
none-some e = let z : ◌≡◌ {A = ℕ} 0 1 = cc in omega arith

not-large : (r : Rec) (t : Opened) (f : FieldLayout) → vast (schema_of r) t ≡ false → Memᴰ f (places (schema_of r) 0 t.fields) → ltb limit (f.offset + f.size) ≡ true → ⊥
unfolding vast large
not-large r t f a b c = any_none large (places (schema_of r) 0 t.fields) a b c

-- where no type is vast, no field ends past the limit
ends-within : (r : Rec) → find (vast (schema_of r)) (opened r.stream r.pool (commands_at r.stream 0)) ≡ None
    → (t : Opened) → Memᴰ t (opened r.stream r.pool (commands_at r.stream 0))
    → (f : FieldLayout) → Memᴰ f (places (schema_of r) 0 t.fields) → f.offset + f.size ≤ limit
ends-within r h t m f i = go (vast (schema_of r) t) refl
  where
    go : (b : Bool) → vast (schema_of r) t ≡ b → f.offset + f.size ≤ limit
    go true e = let g = find-any (vast (schema_of r)) _ m e in absurd (none-some (sym h ∙ g.1))
    go false e = within (ltb limit (f.offset + f.size)) refl
      where
        within : (c : Bool) → ltb limit (f.offset + f.size) ≡ c → f.offset + f.size ≤ limit
        within false q = ltb-false limit (f.offset + f.size) q
        within true q = absurd (not-large r t f e i q)

-- in an accepted record every size and offset as far as the limit is the size and the offset
pub accepted-exact : (side : Side) (r : Rec) (t : Schema) → reading side r ≡ read t → Exact r
accepted-exact side r t h o m f i =
    let a = accepting side r t h in
    let l = ends-within r (rw (← a.is-schema) at a.none-vast) o m f i in
    record { ends = l; offset = sym (cap-low f.offset (omega arith)); size = sym (cap-low f.size (omega arith)) }

refused-is : (r : Rec) (n : Refusal) (q : ℕ) (x : Parsed) → outcome_of x ≡ Err (n, q) → concluded r true None x ≡ refuse n q
unfolding outcome_of concluded
refused-is r n q (ok ps) e = absurd (let z : ◌≡◌ {A = ℕ} 0 1 = cc in omega arith)
refused-is r n q (bad m p) e = let z : ◌≡◌ {A = Refusal × ℕ} (m, p) (n, q) = cc in ap (λ (x : Refusal × ℕ). refuse x.0 x.1) z

-- all commands judged: the places are those that the unjudged cursor finds, so the schema is the record's
readable-is : (side : Side) (r : Rec) (x : Parsed) → parsed side r ≡ x → outcome_of x ≡ Ok tt → concluded r true None x ≡ vast_or (schema_of r) (find (vast (schema_of r)) (opened r.stream r.pool (commands_at r.stream 0)))
unfolding outcome_of concluded sizes_of schema_of
readable-is side r (ok ps) e h = ap (λ (l : List ℕ). vast_or (schema_from r l) (find (vast (schema_from r l)) (opened r.stream r.pool l))) (parsed-is side r ps e)
readable-is side r (bad m p) e h = absurd (let z : ◌≡◌ {A = ℕ} 0 1 = cc in omega arith)

vast-is : (t : Schema) (o : Option Opened) (q : ℕ) → vast_at o ≡ Some q → vast_or t o ≡ refuse R.Vast q
unfolding vast_or
vast-is t None q e = absurd (let z : ◌≡◌ {A = ℕ} 0 1 = cc in omega arith)
vast-is t (Some x) q e = let z : x.place ≡ q = cc in ap (refuse R.Vast) z

none_is : (o : Option Opened) → vast_at o ≡ None → o ≡ None
none_is None e = refl
none_is (Some x) e = absurd (let z : ◌≡◌ {A = ℕ} 0 1 = cc in omega arith)

module _ (side : Side) (s p : Str) (w : List Scalar) where
  -- a refusal says nothing of sizes
  refusal : (n : Refusal) (q : ℕ) → refuse n q ≡ reading side (rec s p w) → Read side (rec s p w) (Err (n, q))
  refusal n q e = record { answer = e; exact = λ z. absurd (let y : ◌≡◌ {A = ℕ} 0 1 = cc in omega arith) }

  pub read-long : 32768 < length s → Read side (rec s p w) (Err (R.Long, 0))
  unfolding reading concluded stream_limit
  read-long h = refusal R.Long 0 (rw (lt-leb (length s) 32768 h))

  pub read_wide : 16384 < length p → Read side (rec s p w) (Err (R.Long, 0))
  unfolding reading concluded pool_limit
  read_wide h = refusal R.Long 0 (rw (lt-leb (length p) 16384 h) (either (leb (length s) stream_limit)))
    where
      either : (b : Bool) → refuse R.Long 0 ≡ concluded (rec s p w) (b && false) (odd_letter p) (parsed side (rec s p w))
      either true = refl
      either false = refl

  module _ (a : length s ≤ 32768) (b : length p ≤ 16384) (l : Option ℕ) (e : l ≡ odd_letter p) where
    -- the reading once 8 is passed
    read_fits : reading side (rec s p w) ≡ concluded (rec s p w) true l (parsed side (rec s p w))
    unfolding reading stream_limit pool_limit
    read_fits = rw (le-leb (length s) 32768 a, le-leb (length p) 16384 b, e)

    pub read-letter : (i : ℕ) → l ≡ Some i → Read side (rec s p w) (Err (R.Letter, i))
    unfolding concluded
    read-letter i h = refusal R.Letter i (sym (read_fits ∙ rw h))

    module _ (g : l ≡ None) (o : Result ⊤ (Refusal × ℕ)) (f : o ≡ outcome_of (parsed_from side s p start)) where
      parsed-here : parsed side (rec s p w) ≡ parsed_from side s p start
      unfolding parsed parsed_from
      parsed-here = let z : length s + 1 ≡ length s + 1 - 0 = omega arith in ap (λ (k : ℕ). parse k side s p start) z

      read-judged : reading side (rec s p w) ≡ concluded (rec s p w) true None (parsed side (rec s p w))
      read-judged = read_fits ∙ ap (λ (m : Option ℕ). concluded (rec s p w) true m (parsed side (rec s p w))) g

      pub read-refused : (n : Refusal) (q : ℕ) → o ≡ Err (n, q) → Read side (rec s p w) (Err (n, q))
      read-refused n q h = refusal n q (sym (read-judged ∙ refused-is (rec s p w) n q (parsed side (rec s p w)) (ap outcome_of parsed-here ∙ sym f ∙ h)))

      module _ (d : o ≡ Ok tt) (v : Option ℕ) (u : v ≡ first_vast (rec s p w) 0) where
        read_all : reading side (rec s p w) ≡ vast_or (schema_of (rec s p w)) (find (vast (schema_of (rec s p w))) (opened s p (commands_at s 0)))
        read_all = read-judged ∙ readable-is side (rec s p w) (parsed side (rec s p w)) refl (ap outcome_of parsed-here ∙ sym f ∙ d)

        found : vast_at (find (vast (schema_of (rec s p w))) (opened s p (commands_at s 0))) ≡ v
        unfolding first_vast opened_from
        found = sym u

        pub read-vast : (q : ℕ) → v ≡ Some q → Read side (rec s p w) (Err (R.Vast, q))
        read-vast q h = refusal R.Vast q (sym (read_all ∙ vast-is (schema_of (rec s p w)) _ q (found ∙ h)))

        pub read_whole : v ≡ None → Read side (rec s p w) (Ok tt)
        unfolding vast_or
        read_whole h = record { answer = sym whole; exact = λ z. accepted-exact side (rec s p w) (schema_of (rec s p w)) whole }
          where
            whole : reading side (rec s p w) ≡ read (schema_of (rec s p w))
            whole = read_all ∙ ap (vast_or (schema_of (rec s p w))) (none_is (find (vast (schema_of (rec s p w))) (opened s p (commands_at s 0))) (found ∙ h))
