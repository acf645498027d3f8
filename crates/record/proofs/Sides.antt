-- A record that can be read as current reads the same as released. Assumes nothing.
use Rattle.std.specs.Prelude.{Option, Some, None, Ok, Err}
use mathlib.Core.Path.{◌≡◌, refl, sym, ◌∙◌, ap}
use mathlib.Core.List.{List, [], ◌∷◌}
use mathlib.Core.Bool.{Bool, true, false, cond}
use Prim.Native.Nat.{ℕ, zero, suc, ◌+◌, ◌-◌}
use native.Mathlib.Omega.{arith}
use lib.Dec.{eqb}
use lib.ListN.{length, get_or, drop}
use borrow.Author.Tests.{lt-ltb, le-ltb}
use Rattle.record.specs.Base.{Str}
use Rattle.record.specs.Schema.{Schema}
use Rattle.record.specs.Operands.{flag_at, opt_text_at}
use Rattle.record.specs.Commands.{wide, widths, start}
use Rattle.record.specs.Judge.{worse_of, missing_in, if_absent, text_fault, flag_fault, operand_fault, faults_from, judged_with, judged_at}
use Rattle.record.specs.Reading.{Rec, read, ok, continued, onto, parse, parsed, concluded, reading}
use Rattle.record.specs.declared.command.Cursor.{Cursor}
use Rattle.record.specs.declared.refusal.Side.TheVariants.{Current, Released}
use Rattle.record.specs.declared.judge.Fault.{Fault}
use Rattle.record.specs.declared.judge.Fault.TheVariants.{Fine, Outside, Missing, Flag}
use Rattle.record.proofs.Accepted.{Lets, passed, onto-ok, accepting}
use Rattle.record.specs.declared.text.Text.{Text}
use Rattle.record.specs.Judge.{Judged}

pub worse-both : (a b : Fault) → worse_of a b ≡ Fine → (a ≡ Fine) × (b ≡ Fine)
worse-both Fine b e = (refl, e)
worse-both Outside b e = absurd (let z : ◌≡◌ {A = ℕ} 0 1 = cc in omega arith)
worse-both Missing Fine e = absurd (let z : ◌≡◌ {A = ℕ} 0 1 = cc in omega arith)
worse-both Missing Outside e = absurd (let z : ◌≡◌ {A = ℕ} 0 1 = cc in omega arith)
worse-both Missing Missing e = absurd (let z : ◌≡◌ {A = ℕ} 0 1 = cc in omega arith)
worse-both Missing Flag e = absurd (let z : ◌≡◌ {A = ℕ} 0 1 = cc in omega arith)
worse-both Flag Fine e = absurd (let z : ◌≡◌ {A = ℕ} 0 1 = cc in omega arith)
worse-both Flag Outside e = absurd (let z : ◌≡◌ {A = ℕ} 0 1 = cc in omega arith)
worse-both Flag Missing e = absurd (let z : ◌≡◌ {A = ℕ} 0 1 = cc in omega arith)
worse-both Flag Flag e = absurd (let z : ◌≡◌ {A = ℕ} 0 1 = cc in omega arith)

-- only the "!" of an absent text tells the sides apart
absent-side : (x : Str) (o : ℕ) → if_absent Current x o ≡ Fine → if_absent Released x o ≡ Fine
unfolding if_absent
absent-side x o e = go (eqb o 79) (eqb o 33) e
  where
    go : (a b : Bool) → cond a Fine (cond b (missing_in Current) (cond (eqb o 63) (cond (flag_at x 4) Missing Fine) Outside)) ≡ Fine
        → cond a Fine (cond b (missing_in Released) (cond (eqb o 63) (cond (flag_at x 4) Missing Fine) Outside)) ≡ Fine
    go true b e = refl
    go false true e = refl
    go false false e = e

text-side : (pool : Str) (a b : Fault) (t : Option Text) → (a ≡ Fine → b ≡ Fine) → text_fault pool a t ≡ Fine → text_fault pool b t ≡ Fine
text-side pool a b None f e = f e
text-side pool a b (Some t) f e = e

module _ (pool : Str) (x : Str) where
  operand-side : (i o : ℕ) → operand_fault Current pool x i o ≡ Fine → operand_fault Released pool x i o ≡ Fine
  unfolding operand_fault
  operand-side i o e = go (eqb o 70) (eqb o 78) (eqb o 87) (eqb o 86) e
    where
      go : (a b c d : Bool) → cond a (flag_fault (get_or x i 0)) (cond b (flag_fault (get_or x i 0)) (cond c Fine (cond d Fine (text_fault pool (if_absent Current x o) (opt_text_at x i))))) ≡ Fine
          → cond a (flag_fault (get_or x i 0)) (cond b (flag_fault (get_or x i 0)) (cond c Fine (cond d Fine (text_fault pool (if_absent Released x o) (opt_text_at x i))))) ≡ Fine
      go true b c d e = e
      go false true c d e = e
      go false false true d e = e
      go false false false true e = e
      go false false false false e = text-side pool (if_absent Current x o) (if_absent Released x o) (opt_text_at x i) (absent-side x o) e

  faults-side : (i : ℕ) (os : Str) → faults_from Current pool x i os ≡ Fine → faults_from Released pool x i os ≡ Fine
  unfolding faults_from
  faults-side i [] e = e
  faults-side i (o ∷ os) e =
      let h = worse-both (operand_fault Current pool x i o) (faults_from Current pool x (i + wide o) os) e in
      rw (operand-side i o h.0, faults-side (i + wide o) os h.1)

judged-side : (s : Str) (pool : Str) (c : Cursor) (j : Judged) → Lets j → judged_at Current s pool c ≡ j → judged_at Released s pool c ≡ j
unfolding judged_at judged_with
judged-side s pool c j l e =
    let p = passed Current s pool c j l e in
    let w = p.whole in
    rw (lt-ltb c.at (length s) p.inside, p.has-row, le-ltb (length s - c.at) (1 + widths p.row) w, p.stands, faults-side pool (drop c.at s) 1 p.row p.fine) p.is-ready

parse-side : (k : ℕ) (s : Str) (pool : Str) (c : Cursor) (ps : List ℕ) → parse k Current s pool c ≡ ok ps → parse k Released s pool c ≡ ok ps
unfolding parse continued onto
parse-side zero s pool c ps h = h
parse-side (suc k) s pool c ps h = go (judged_at Current s pool c) refl (λ d qs e. parse-side k s pool d qs e) h
  where
    go : (j : Judged) → judged_at Current s pool c ≡ j → ((d : Cursor) (qs : List ℕ) → parse k Current s pool d ≡ ok qs → parse k Released s pool d ≡ ok qs)
        → continued c.at (parse k Current s pool) j ≡ ok ps → continued c.at (parse k Released s pool) (judged_at Released s pool c) ≡ ok ps
    go (Ok (Some (d, k2))) e ih t =
        let i = onto-ok c.at (parse k Current s pool k2) ps t in
        rw (judged-side s pool c (Ok (Some (d, k2))) tt e) (rw (ih k2 i.more i.parsed-so) (ap ok i.whole))
    go (Ok None) e ih t = rw (judged-side s pool c (Ok None) tt e) t
    go (Err (m, p)) e ih t = absurd (let z : ◌≡◌ {A = ℕ} 0 1 = cc in omega arith)

pub one-reading : (r : Rec) (t : Schema) → reading Current r ≡ read t → reading Released r ≡ read t
unfolding reading parsed
one-reading r t h =
    let a = accepting Current r t h in
    let e : parsed Released r ≡ parsed Current r = parse-side _ r.stream r.pool start _ a.parsed-all ∙ sym a.parsed-all in
    ap (concluded r _ _) e ∙ h
