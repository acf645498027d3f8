-- The commands of an addition, by the reading of a current record and the first command out of shape. Assumes nothing.
use Rattle.std.specs.Prelude.{Option, Some, None, Result, Ok, Err, ⊤}
use mathlib.Core.Path.{◌≡◌, refl, sym, ap, ◌∙◌, subst}
use mathlib.Core.List.{List, [], ◌∷◌}
use mathlib.Core.Bool.{Bool, true, false, ◌&&◌, cond}
use Prim.Native.Nat.{ℕ, zero, suc, ◌+◌, ◌-◌, ◌≤◌, ◌<◌}
use native.Mathlib.Omega.{arith}
use lib.ListN.{length, get_or, drop}
use lib.Dec.{eqb, ltb}
use borrow.Author.Tests.{eqb-true, eqb-false, eq-eqb, ne_eqb, le-leb}
use Rattle.record.specs.Base.{Str, find}
use Rattle.record.specs.Scalars.{Scalar}
use Rattle.record.specs.Letters.{odd_letter}
use Rattle.record.specs.Commands.{operands, widths, command_of, step_at, start}
use Rattle.record.specs.Seek.{after_at}
use Rattle.record.specs.Judge.{may_stand, advanced, ready, faulted, faults_from, judged_with, judged_as, judged_at}
use Rattle.record.specs.Reading.{rec, Opened, opened, vast, schema_from, refuse, Parsed, ok, bad, onto, continued, parse, parsed, vast_or, sizes_of, concluded, reading, stream_limit, pool_limit}
use Rattle.record.specs.Read.{outcome_of, parsed_from, reading_of, Read}
use Rattle.record.specs.declared.command.Cursor.{Cursor}
use Rattle.record.specs.declared.command.Command.{Command}
use Rattle.record.specs.declared.refusal.Side.TheVariants.{Current}
use Rattle.record.specs.declared.refusal.Refusal.{Refusal}
use Rattle.record.specs.declared.refusal.Refusal.TheVariants as R
use Rattle.record.specs.declared.judge.Fault.{Fault}
use Rattle.record.specs.declared.judge.Fault.TheVariants as F
use Rattle.record.proofs.Stream.{step-found}
use Rattle.record.proofs.SeekLaws.{stepped, after-nearer}
use Rattle.record.proofs.Accepted.{passed, judged-step, judged-stop}
use Rattle.record.proofs.ReadLaws.{commands-on, commands-done, commands-refused}
use Rattle.drafts.specs.Addition.{may_add, addition_at, addition}
use Rattle.drafts.specs.Judging.{is_first, is_vast, commands_read, refused_at, onward, misfit, addition_from, Shaped}
use Rattle.drafts.proofs.JudgingLaws.{comes_first, addition-is, adds_on, adds-done, adds-refused, addition-whole}
use Rattle.record.specs.Judge.{Judged}
use Rattle.record.proofs.Basics.{same-parts}

-- the refusals of commands --------------------------------------------------------------------------------------------------------------------

not_third : is_first R.Misplaced ≡ true → ⊥
not_third e = let z : ◌≡◌ {A = ℕ} 0 1 = cc in omega arith

-- a refused command: 2 and 1 are at its own place, and every other too where a step finds the command
record Refusing (s : Str) (c : Cursor) (m : Refusal) (q : ℕ) : Type 0 where
  ahead : c.at ≤ q
  command : is_vast m ≡ false
  first : is_first m ≡ true → q ≡ c.at
  here : (d : Command) (k : Cursor) → step_at s c.at ≡ Some (d, k) → q ≡ c.at

module _ (s : Str) (c : Cursor) (m : Refusal) (q : ℕ) where
  at_place : (x : Refusal) → is_vast x ≡ false → ◌≡◌ {A = Judged} (Err (x, c.at)) (Err (m, q)) → Refusing s c m q
  at_place x v e =
      let z : ◌≡◌ {A = Refusal × ℕ} (x, c.at) (m, q) = cc in
      let a = ap (λ (y : Refusal × ℕ). y.0) z in
      let b = ap (λ (y : Refusal × ℕ). y.1) z in
      record { ahead = omega arith; command = subst (λ (y : Refusal). is_vast y ≡ false) a v; first = λ f. sym b; here = λ d k t. sym b }

  at-end : (b w : ℕ) → b ≡ get_or s c.at 0 → ready s c b w ≡ Err (m, q) → Refusing s c m q
  unfolding ready
  at-end b w i e = go (eqb b 15) refl (eqb (c.at + w) (length s)) e
    where
      go : (t : Bool) → eqb b 15 ≡ t → (u : Bool)
          → cond {A = Judged} t (cond u (Ok None) (Err (R.Misplaced, c.at + w))) (Ok (Some (command_of b (drop c.at s), advanced c b w))) ≡ Err (m, q) → Refusing s c m q
      go true z true h = absurd (let z : ◌≡◌ {A = ℕ} 0 1 = cc in omega arith)
      go true z false h =
          let y : ◌≡◌ {A = Refusal × ℕ} (R.Misplaced, c.at + w) (m, q) = cc in
          let a = ap (λ (x : Refusal × ℕ). x.0) y in
          let p = ap (λ (x : Refusal × ℕ). x.1) y in
          record {
            ahead = omega arith;
            command = subst (λ (y : Refusal). is_vast y ≡ false) a refl;
            first = λ f. absurd (not_third (subst (λ (y : Refusal). is_first y ≡ true) (sym a) f));
            here = λ d k t. absurd ((step-found s c.at d k t).going (sym i ∙ eqb-true b 15 z));
          }
      go false z u h = absurd (let z : ◌≡◌ {A = ℕ} 0 1 = cc in omega arith)

  refusing : (pool : Str) → judged_at Current s pool c ≡ Err (m, q) → Refusing s c m q
  unfolding judged_at judged_with
  refusing pool e = past (ltb c.at (length s)) (operands (get_or s c.at 0)) e
    where
      whole : (os : Str) (b t : Bool) (f : Fault)
          → cond b (Err (R.Cut, c.at)) (cond t (faulted c.at (ready s c (get_or s c.at 0) (1 + widths os)) f) (Err (R.Misplaced, c.at))) ≡ Err (m, q)
          → Refusing s c m q
      whole os true t f h = at_place R.Cut refl h
      whole os false false f h = at_place R.Misplaced refl h
      whole os false true F.Outside h = at_place R.Outside refl h
      whole os false true F.Missing h = at_place R.Missing refl h
      whole os false true F.Flag h = at_place R.Flag refl h
      whole os false true F.Fine h = at-end (get_or s c.at 0) (1 + widths os) refl h

      past : (b : Bool) (o : Option Str) → cond b (judged_as Current s pool c (get_or s c.at 0) o) (Err (R.Cut, c.at)) ≡ Err (m, q) → Refusing s c m q
      past false o h = at_place R.Cut refl h
      past true None h = at_place R.Unknown refl h
      past true (Some os) h =
          whole os (ltb (length s - c.at) (1 + widths os)) (may_stand c (get_or s c.at 0)) (faults_from Current pool (drop c.at s) 1 os) h

-- the first refusal among commands is none of sizes, and not before the cursor
record Placed (c : Cursor) (m : Refusal) (q : ℕ) : Type 0 where
  ahead : c.at ≤ q
  command : is_vast m ≡ false

onto-bad : (at : ℕ) (x : Parsed) (m : Refusal) (q : ℕ) → onto at x ≡ bad m q → x ≡ bad m q
unfolding onto
onto-bad at (ok ps) m q h = absurd (let z : ◌≡◌ {A = ℕ} 0 1 = cc in omega arith)
onto-bad at (bad n p) m q h = h

module _ (s : Str) (pool : Str) where
  placed : (k : ℕ) (c : Cursor) (m : Refusal) (q : ℕ) → parse k Current s pool c ≡ bad m q → Placed c m q
  unfolding parse continued
  placed zero c m q h =
      let a : R.Cut ≡ m = cc in
      let b : c.at ≡ q = cc in
      record { ahead = omega arith; command = subst (λ (y : Refusal). is_vast y ≡ false) a refl }
  placed (suc k) c m q h = go (placed k) (judged_at Current s pool c) refl h
    where
      go : ((d : Cursor) (m : Refusal) (q : ℕ) → parse k Current s pool d ≡ bad m q → Placed d m q) → (j : Judged) → judged_at Current s pool c ≡ j
          → continued c.at (parse k Current s pool) j ≡ bad m q → Placed c m q
      go ih (Ok (Some (d, j))) e h =
          let f = step-found s c.at _ _ (judged-step Current s pool c d j e) in
          let on = f.on in
          let r = ih j m q (onto-bad c.at (parse k Current s pool j) m q h) in
          let on2 = r.ahead in
          record { ahead = omega arith; command = r.command }
      go ih (Ok None) e h = absurd (let z : ◌≡◌ {A = ℕ} 0 1 = cc in omega arith)
      go ih (Err (x, p)) e h =
          let a : x ≡ m = cc in
          let b : p ≡ q = cc in
          let r = refusing s c x p pool e in
          let on = r.ahead in
          record { ahead = omega arith; command = subst (λ (y : Refusal). is_vast y ≡ false) a r.command }

  outcome-bad : (x : Parsed) (m : Refusal) (q : ℕ) → Err (m, q) ≡ outcome_of x → x ≡ bad m q
  unfolding outcome_of
  outcome-bad (ok ps) m q h = absurd (let z : ◌≡◌ {A = ℕ} 0 1 = cc in omega arith)
  outcome-bad (bad x p) m q h = let z : ◌≡◌ {A = Refusal × ℕ} (m, q) (x, p) = cc in ap (λ (y : Refusal × ℕ). bad y.0 y.1) (sym z)

  placed-from : (c : Cursor) (m : Refusal) (q : ℕ) → Err (m, q) ≡ outcome_of (parsed_from Current s pool c) → Placed c m q
  unfolding parsed_from
  placed-from c m q h = placed (length s + 1 - c.at) c m q (outcome-bad (parsed_from Current s pool c) m q h)

-- one command -----------------------------------------------------------------------------------------------------------------------------------

after_next : (s : Str) (at : ℕ) (d : Command) (k : Cursor) → step_at s at ≡ Some (d, k) → after_at s at ≡ k.at
unfolding after_at
after_next s at d k e = rw (e, after_at)

after_stop : (s : Str) (at : ℕ) → step_at s at ≡ None → after_at s at ≡ 0
unfolding after_at
after_stop s at e = rw (e, after_at)

moved-last : (s : Str) (c : Cursor) (b w : ℕ) (d : Command) (k : Cursor) → ready s c b w ≡ Ok (Some (d, k)) → k.last ≡ b
unfolding ready
moved-last s c b w d k e = go (eqb b 15) (eqb (c.at + w) (length s)) e
  where
    go : (t u : Bool) → cond {A = Judged} t (cond u (Ok None) (Err (R.Misplaced, c.at + w))) (Ok (Some (command_of b (drop c.at s), advanced c b w))) ≡ Ok (Some (d, k))
        → k.last ≡ b
    go true true h = absurd (let z : ◌≡◌ {A = ℕ} 0 1 = cc in omega arith)
    go true false h = absurd (let z : ◌≡◌ {A = ℕ} 0 1 = cc in omega arith)
    go false u h =
        let z : ◌≡◌ {A = Option (Command × Cursor)} (Some (command_of b (drop c.at s), advanced c b w)) (Some (d, k)) = cc in
        ap (λ (j : Cursor). j.last) (sym (same-parts z).1)

module _ (s : Str) (pool : Str) (c : Cursor) (o : Result ⊤ (Refusal × ℕ)) (e : o ≡ outcome_of (parsed_from Current s pool c)) where
  -- a reading that passes this command is refused later, if at all
  not-here : (d : Command) (k : Cursor) → judged_at Current s pool c ≡ Ok (Some (d, k)) → refused_at o c.at ≡ false
  not-here d k j = go o e
    where
      step : c.at < k.at
      step = (step-found s c.at _ _ (judged-step Current s pool c d k j)).on

      go : (x : Result ⊤ (Refusal × ℕ)) → x ≡ outcome_of (parsed_from Current s pool c) → refused_at x c.at ≡ false
      go (Ok tt) f = refl
      go (Err (m, q)) f =
          let r = placed-from s pool k m q (f ∙ commands-on Current s pool c (judged_at Current s pool c) refl d k j) in
          let a = r.ahead in
          let b = step in
          ne_eqb q c.at (λ z. omega arith)

  -- where the command may stand in an addition, it is judged as a current record's
  module _ (a : may_add c.last (get_or s c.at 0) ≡ true) where
    as_plain : addition_at s pool c ≡ judged_at Current s pool c
    as_plain = addition-is s pool c ∙ rw a (either (comes_first (judged_at Current s pool c)))
      where
        either : (b : Bool) → cond b (judged_at Current s pool c) (judged_at Current s pool c) ≡ judged_at Current s pool c
        either true = refl
        either false = refl

    fits_last : onward s o c.at ≡ 0 → o ≡ outcome_of (addition_from s pool c)
    unfolding onward
    fits_last z = go (judged_at Current s pool c) refl
      where
        go : (j : Judged) → judged_at Current s pool c ≡ j → o ≡ outcome_of (addition_from s pool c)
        go (Ok (Some (d, k))) h =
            let t = judged-step Current s pool c d k h in
            let b = (step-found s c.at _ _ t).on in
            let y : after_at s c.at ≡ 0 = rw (not-here d k h) at z in
            let x = after_next s c.at _ _ t in
            absurd (omega arith)
        go (Ok None) h = e ∙ commands-done Current s pool c (judged_at Current s pool c) refl h ∙ sym (adds-done s pool c (addition_at s pool c) refl (as_plain ∙ h))
        go (Err (m, q)) h =
            e ∙ commands-refused Current s pool c (judged_at Current s pool c) refl (m, q) h
            ∙ sym (adds-refused s pool c (addition_at s pool c) refl m q (as_plain ∙ h))

  fits_not : may_add c.last (get_or s c.at 0) ≡ false → misfit o c.at ≡ outcome_of (addition_from s pool c)
  fits_not a = go (judged_at Current s pool c) refl
    where
      third : comes_first (judged_at Current s pool c) ≡ false → addition_at s pool c ≡ Err (R.Misplaced, c.at)
      third f = addition-is s pool c ∙ rw (f, a)

      said : addition_at s pool c ≡ Err (R.Misplaced, c.at) → Err (R.Misplaced, c.at) ≡ outcome_of (addition_from s pool c)
      said h = sym (adds-refused s pool c (addition_at s pool c) refl R.Misplaced c.at h)

      later : (x : Result ⊤ (Refusal × ℕ)) → refused_at x c.at ≡ false → misfit x c.at ≡ Err (R.Misplaced, c.at)
      later (Ok tt) h = refl
      later (Err (m, q)) h = rw h (either (is_first m))
        where
          either : (b : Bool) → cond {A = Result ⊤ (Refusal × ℕ)} (b && false) (Err (m, q)) (Err (R.Misplaced, c.at)) ≡ Err (R.Misplaced, c.at)
          either true = refl
          either false = refl

      go : (j : Judged) → judged_at Current s pool c ≡ j → misfit o c.at ≡ outcome_of (addition_from s pool c)
      go (Ok (Some (d, k))) h = later o (not-here d k h) ∙ said (third (ap comes_first h))
      go (Ok None) h = rw (e ∙ commands-done Current s pool c (judged_at Current s pool c) refl h) (said (third (ap comes_first h)))
      go (Err (m, q)) h = rw (e ∙ commands-refused Current s pool c (judged_at Current s pool c) refl (m, q) h) (either (is_first m) refl)
        where
          either : (b : Bool) → is_first m ≡ b
              → cond (b && eqb q c.at) (Err (m, q)) (Err (R.Misplaced, c.at)) ≡ outcome_of (addition_from s pool c)
          either true f =
              rw (eq-eqb q c.at ((refusing s c m q pool h).first f))
              (sym (adds-refused s pool c (addition_at s pool c) refl m q (addition-is s pool c ∙ rw (h, f))))
          either false f = said (third (ap comes_first h ∙ f))

-- along the commands ------------------------------------------------------------------------------------------------------------------------------

-- the reading passes a cursor at this place after a command of this number, and the addition's judgement too
pub record Passing (s : Str) (pool : Str) (o : Result ⊤ (Refusal × ℕ)) (at last : ℕ) : Type 0 where
  pub cursor : Cursor
  pub is_at : cursor.at ≡ at
  pub is_last : cursor.last ≡ last
  pub plain : o ≡ outcome_of (parsed_from Current s pool cursor)
  pub added : outcome_of (addition_from s pool start) ≡ outcome_of (addition_from s pool cursor)

pub record Along (s : Str) (o : Result ⊤ (Refusal × ℕ)) (at last : ℕ) : Type 0 where
  pub so : (pool : Str) → o ≡ outcome_of (parsed_from Current s pool start) → Passing s pool o at last

pub along-front : (s : Str) (o : Result ⊤ (Refusal × ℕ)) → Along s o 0 0
along-front s o = record { so = λ pool e. record { cursor = start; is_at = refl; is_last = refl; plain = e; added = refl } }

module _ (s : Str) (o : Result ⊤ (Refusal × ℕ)) (at last : ℕ) (w : Along s o at last) (b : ℕ) (i : b ≡ get_or s at 0) (t : Bool) (f : t ≡ may_add last b) where
  may : (pool : Str) (p : Passing s pool o at last) → may_add p.cursor.last (get_or s p.cursor.at 0) ≡ t
  may pool p = rw (p.is_at, p.is_last, ← i, ← f)

  pub shape-misfit : (r : Result ⊤ (Refusal × ℕ)) → t ≡ false → r ≡ misfit o at → Shaped s o r
  shape-misfit r h g = record {
    so = λ pool e.
        let p = w.so pool e in
        g ∙ ap (misfit o) (sym p.is_at) ∙ fits_not s pool p.cursor o p.plain (may pool p ∙ h) ∙ sym p.added;
  }

  module _ (h : t ≡ true) (k : ℕ) (g : k ≡ onward s o at) where
    pub shape-whole : k ≡ 0 → Shaped s o o
    shape-whole z = record {
      so = λ pool e.
          let p = w.so pool e in
          fits_last s pool p.cursor o p.plain (may pool p ∙ h) (ap (onward s o) p.is_at ∙ sym g ∙ z) ∙ sym p.added;
    }

    module _ (z : k ≡ 0 → ⊥) where
      on : (x : Bool) → refused_at o at ≡ x → (k ≡ after_at s at) × (refused_at o at ≡ false)
      unfolding onward
      on true q = absurd (z (rw q at g))
      on false q = (rw q at g, q)

      pub shape-nearer : length s - k < length s - at
      shape-nearer = after-nearer s at k (on (refused_at o at) refl).0 z

      step-on : (pool : Str) (p : Passing s pool o at last) → Passing s pool o k b
      step-on pool p = go (judged_at Current s pool c) refl
        where
          c : Cursor
          c = p.cursor

          going : (k ≡ after_at s at) × (refused_at o at ≡ false)
          going = on (refused_at o at) refl

          to : k ≡ after_at s c.at
          to = going.0 ∙ ap (after_at s) (sym p.is_at)

          go : (j : Judged) → judged_at Current s pool c ≡ j → Passing s pool o k b
          go (Ok (Some (d, j))) q =
              let r = judged-step Current s pool c d j q in
              let l = passed Current s pool c (Ok (Some (d, j))) tt q in
              record {
                cursor = j;
                is_at = sym (to ∙ after_next s c.at _ _ r);
                is_last = moved-last s c (get_or s c.at 0) (1 + widths l.row) d j l.is-ready ∙ ap (λ (a : ℕ). get_or s a 0) p.is_at ∙ sym i;
                plain = p.plain ∙ commands-on Current s pool c (judged_at Current s pool c) refl d j q;
                added = p.added ∙ adds_on s pool c (addition_at s pool c) refl d j (as_plain s pool c o p.plain (may pool p ∙ h) ∙ q);
              }
          go (Ok None) q = absurd (z (to ∙ after_stop s c.at (judged-stop Current s pool c q)))
          go (Err (m, y)) q =
              let st = stepped s c.at k to z in
              let a : y ≡ at = (refusing s c m y pool q).here st.command st.cursor st.step ∙ p.is_at in
              let e : o ≡ Err (m, y) = p.plain ∙ commands-refused Current s pool c (judged_at Current s pool c) refl (m, y) q in
              let u : eqb y at ≡ false = sym (ap (λ (x : Result ⊤ (Refusal × ℕ)). refused_at x at) e) ∙ going.1 in
              absurd (eqb-false y at u a)

      pub shape_on : Along s o k b
      shape_on = record { so = λ pool e. step-on pool (w.so pool e) }

-- the functions on the way --------------------------------------------------------------------------------------------------------------------------

module _ (s : Str) (o : Result ⊤ (Refusal × ℕ)) (at : ℕ) (t : Bool) (f : t ≡ refused_at o at) where
  pub onward-refused : t ≡ true → 0 ≡ onward s o at
  unfolding onward
  onward-refused h = rw (← f, h)

  pub onward-after : (k : ℕ) → t ≡ false → k ≡ after_at s at → k ≡ onward s o at
  unfolding onward
  onward-after k h g = rw (← f, h) g

module _ (o : Result ⊤ (Refusal × ℕ)) (m : Refusal) (q : ℕ) (e : o ≡ Err (m, q)) where
  pub refused-is : (at : ℕ) → eqb q at ≡ refused_at o at
  refused-is at = rw e

  module _ (t : Bool) (f : t ≡ is_vast m) where
    pub read-vast : t ≡ true → Ok tt ≡ commands_read o
    read-vast h = rw (e, ← f, h)

    pub read_kept : t ≡ false → Err (m, q) ≡ commands_read o
    read_kept h = rw (e, ← f, h)

-- the whole addition --------------------------------------------------------------------------------------------------------------------------------

module _ (s p : Str) (a : length s ≤ 32768) (b : length p ≤ 16384) (l : Option ℕ) (e : l ≡ odd_letter p)
    (g : l ≡ None) where
  commands-only : (ws : List Scalar) (o : Result ⊤ (Refusal × ℕ)) → reading_of (rec s p ws) o ≡ reading Current (rec s p ws)
      → commands_read o ≡ outcome_of (parsed Current (rec s p ws))
  unfolding reading stream_limit pool_limit concluded sizes_of vast_or outcome_of parsed
  commands-only ws o h =
      go (parsed Current (rec s p ws)) refl (rw (le-leb (length s) 32768 a, le-leb (length p) 16384 b, ← e, g) at h)
    where
      vasts : (x : Result ⊤ (Refusal × ℕ)) (v : Option Opened) (ps : List ℕ) → reading_of (rec s p ws) x ≡ vast_or (schema_from (rec s p ws) ps) v
          → commands_read x ≡ Ok tt
      vasts (Ok tt) v ps h = refl
      vasts (Err (m, q)) None ps h = absurd (let z : ◌≡◌ {A = ℕ} 0 1 = cc in omega arith)
      vasts (Err (m, q)) (Some t) ps h = let y : m ≡ R.Vast = cc in rw y

      refused : (x : Result ⊤ (Refusal × ℕ)) (m : Refusal) (q : ℕ) → is_vast m ≡ false → reading_of (rec s p ws) x ≡ refuse m q → commands_read x ≡ Err (m, q)
      refused (Ok tt) m q v h = absurd (let z : ◌≡◌ {A = ℕ} 0 1 = cc in omega arith)
      refused (Err (n, i)) m q v h = let y : n ≡ m = cc in let z : i ≡ q = cc in rw (y, z, v)

      go : (x : Parsed) → parsed Current (rec s p ws) ≡ x → reading_of (rec s p ws) o ≡ concluded (rec s p ws) true None x
          → commands_read o ≡ outcome_of x
      go (bad m q) f h = refused o m q (placed s p (length s + 1) start m q f).command h
      go (ok ps) f h = vasts o (find (vast (schema_from (rec s p ws) ps)) (opened s p ps)) ps h

  pub addition-shaped : (ws : List Scalar) (o c r : Result ⊤ (Refusal × ℕ)) → Read Current (rec s p ws) o → c ≡ commands_read o → Shaped s c r
      → r ≡ outcome_of (addition (rec s p []))
  unfolding parsed_from parsed
  addition-shaped ws o c r h i k =
      let z : length s + 1 ≡ length s + 1 - 0 = omega arith in
      let f = ap (λ (m : ℕ). outcome_of (parse m Current s p start)) z in
      addition-whole s p a b l e g r (k.so p (i ∙ commands-only ws o h.answer ∙ f))
