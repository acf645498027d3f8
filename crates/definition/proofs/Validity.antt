-- A stream of whole commands is judged without a refusal exactly if each command may stand where it does and has no fault. Assumes nothing.
use Rattle.std.specs.Prelude.{Option, Some, None, Ok, Err}
use mathlib.Core.Path.{◌≡◌, refl, sym, ◌∙◌, ap, ap₂}
use mathlib.Core.List.Memᴰ
use mathlib.Core.List.{List, [], ◌∷◌, ◌++◌}
use mathlib.Core.Bool.{Bool, true, false, ◌&&◌, not, cond, false≢true}
use Prim.Native.Nat.{ℕ, zero, suc, ◌+◌, ◌-◌, ◌≤◌}
use native.Mathlib.Omega.{arith}
use lib.Dec.{eqb}
use lib.ListN.{length, get_or, drop, length-drop}
use lib.Seq.{get_or-drop}
use borrow.Author.Tests.{eqb-true, ne_eqb, eq-eqb, lt-ltb, le-ltb}
use Rattle.record.specs.Base.{Str, bytes}
use Rattle.record.specs.Commands.{operands, wide, widths, width_with, width_of, command_of}
use Rattle.record.specs.Le.{u16_at}
use Rattle.record.specs.Operands.{text_at, opt_text, opt_text_at, flag_at}
use Rattle.record.specs.Judge.{may_stand, follows, parent_after, advanced, if_absent, operand_fault, faults_from, faults_of, ready, judged_with, judged_at}
use Rattle.record.specs.Reading.{ok, onto, continued, parse}
use Rattle.record.specs.declared.command.Command.{Command}
use Rattle.record.specs.declared.command.Cursor.{Cursor}
use Rattle.record.specs.declared.command.Parent.{Parent}
use Rattle.record.specs.declared.refusal.Side.{Side}
use Rattle.record.specs.declared.refusal.Refusal.TheVariants as R
use Rattle.record.specs.declared.judge.Fault.{Fault}
use Rattle.record.specs.declared.judge.Fault.TheVariants.{Fine, Outside, Missing, Flag}
use Rattle.record.proofs.Basics.{both, same-parts}
use Rattle.record.proofs.Accepted.{Passed, passed, onto-ok}
use Rattle.definition.specs.Sections.{number, stream_of}
use Rattle.definition.proofs.CommandStreams.{EachNumber, no_number, and_one, each-one, command_numbers, Whole, AllWhole, some_bytes, no_end, command_places, CommandsFrom, number-here, next_here, length-here, cells, own-bytes}
use Rattle.record.specs.Judge.{Judged}

-- faults --------------------------------------------------------------------------------------------------------------------------

abbrev pub is_fine : Fault → Bool
is_fine Fine = true
is_fine Outside = false
is_fine Missing = false
is_fine Flag = false

fine-is : (f : Fault) → is_fine f ≡ true → f ≡ Fine
fine-is Fine h = refl
fine-is Outside h = absurd (false≢true h)
fine-is Missing h = absurd (false≢true h)
fine-is Flag h = absurd (false≢true h)

-- the operands of a command have no fault
unfoldable pub faultless : Side → Str → Str → Bool
faultless side pool x = is_fine (faults_of side pool x (operands (number x)))

pub end_row : operands 15 ≡ Some []
unfolding operands bytes
end_row = refl

-- a number that has a width has a row
row_of : (b : ℕ) → 1 ≤ width_of b → (os : Str) × (operands b ≡ Some os) × (1 + widths os ≡ width_of b)
unfolding width_of width_with
row_of b h = go (operands b) refl h
  where
    go : (o : Option Str) → operands b ≡ o → 1 ≤ width_with o → (os : Str) × (operands b ≡ Some os) × (1 + widths os ≡ width_with (operands b))
    go None e k = absurd (omega arith)
    go (Some os) e k = (os, e, sym (ap width_with e))

module _ (side : Side) (pool : Str) (s : Str) (at : ℕ) (x : Str) (xs : List Str) (h : CommandsFrom s at (x ∷ xs)) (c : Whole x) where
  -- the operands of a command of this number are judged by its own bytes
  abbrev OwnFaults : ℕ → Type 0
  OwnFaults b = number x ≡ b → faults_of side pool (drop at s) (operands b) ≡ faults_of side pool x (operands b)

  -- so it is for one more number, where it is computed on as many cells
  own : (b w : ℕ) {bs : List ℕ} → width_of b ≡ w
      → ((f : ℕ → ℕ) (t : Str) → faults_of side pool (cells w f ++ t) (operands b) ≡ faults_of side pool (cells w f) (operands b))
      → EachNumber OwnFaults bs → EachNumber OwnFaults (b ∷ bs)
  own b w e f rest = and_one (own-bytes b w e (λ (y : Str). faults_of side pool y (operands b)) f s at x xs h c) rest

  faults-own : faults_of side pool (drop at s) (operands (number x)) ≡ faults_of side pool x (operands (number x))
  unfolding command_numbers operands faults_of faults_from operand_fault if_absent cells text_at opt_text opt_text_at flag_at u16_at width_of width_with
      widths wide bytes
  faults-own = each-one OwnFaults command_numbers every (number x) c.known refl
    where
      every : EachNumber OwnFaults command_numbers
      every =
          own 1 5 refl (λ f t. refl) (own 2 20 refl (λ f t. refl) (own 3 7 refl (λ f t. refl)
          (own 4 12 refl (λ f t. refl) (own 5 15 refl (λ f t. refl) (own 6 11 refl (λ f t. refl)
          (own 7 16 refl (λ f t. refl) (own 8 10 refl (λ f t. refl) (own 9 17 refl (λ f t. refl)
          (own 10 4 refl (λ f t. refl) (own 11 33 refl (λ f t. refl) (own 12 7 refl (λ f t. refl)
          (own 13 7 refl (λ f t. refl) (own 14 8 refl (λ f t. refl) no_number)))))))))))))

-- valid commands ----------------------------------------------------------------------------------------------------------------

abbrev pub cursor_after : ℕ → Parent → Cursor
cursor_after l p = record { at = 0; last = l; parent = p }

-- after a command of number l, within p: these commands and the end may stand so, and have no fault
unfoldable pub valid : Side → Str → ℕ → Parent → List Str → Bool
valid side pool l p [] = not (eqb l 0)
valid side pool l p (x ∷ xs) = may_stand (cursor_after l p) (number x) && (faultless side pool x && valid side pool (number x) (parent_after p (number x)) xs)

pub stands_after : (c : Cursor) (b : ℕ) → may_stand c b ≡ may_stand (cursor_after c.last c.parent) b
unfolding may_stand follows
stands_after c b = refl

and-true : {a b : Bool} → a ≡ true → b ≡ true → (a && b) ≡ true
and-true e f = rw (e, f)

module _ (side : Side) (pool : Str) (s : Str) where
  -- a judgement that lets a command pass
  pub taken_next : (c : Cursor) (b w : ℕ) (d : Command) (k : Cursor) → (b ≡ 15 → ⊥) → ready s c b w ≡ Ok (Some (d, k)) → advanced c b w ≡ k
  unfolding ready
  taken_next c b w d k g e = go (eqb b 15) refl e
    where
      go : (t : Bool) → eqb b 15 ≡ t
          → cond {A = Judged} t (cond (eqb (c.at + w) (length s)) (Ok None) (Err (R.Misplaced, c.at + w))) (Ok (Some (command_of b (drop c.at s), advanced c b w))) ≡ Ok (Some (d, k)) → advanced c b w ≡ k
      go true q h = absurd (g (eqb-true b 15 q))
      go false q h =
          let z : ◌≡◌ {A = Option (Command × Cursor)} (Some (command_of b (drop c.at s), advanced c b w)) (Some (d, k)) = cc in
          (same-parts z).1

  not_done : (c : Cursor) (b w : ℕ) → (b ≡ 15 → ⊥) → ready s c b w ≡ Ok None → ⊥
  unfolding ready
  not_done c b w g e = go (eqb b 15) refl e
    where
      go : (t : Bool) → eqb b 15 ≡ t
          → cond {A = Judged} t (cond (eqb (c.at + w) (length s)) (Ok None) (Err (R.Misplaced, c.at + w))) (Ok (Some (command_of b (drop c.at s), advanced c b w))) ≡ Ok None → ⊥
      go true q h = g (eqb-true b 15 q)
      go false q h = let z : ◌≡◌ {A = ℕ} 0 1 = cc in omega arith

  -- what the passed judgement of a command says of it
  pass-here : (c : Cursor) (x : Str) (xs : List Str) → CommandsFrom s c.at (x ∷ xs) → Whole x → (j : Judged) → Passed side s pool c j
      → (may_stand (cursor_after c.last c.parent) (number x) ≡ true) × (faultless side pool x ≡ true) × (ready s c (number x) (length x) ≡ j)
  unfolding faultless faults_of width_of width_with
  pass-here c x xs h m j p =
      let e = number-here s c.at x xs h m in
      let row : operands (number x) ≡ Some p.row = ap operands (sym e) ∙ p.has-row in
      let w : 1 + widths p.row ≡ length x = sym (ap width_with row) ∙ sym m.wide in (
        sym (stands_after c (number x)) ∙ ap (may_stand c) (sym e) ∙ p.stands,
        ap is_fine (sym (faults-own side pool s c.at x xs h m) ∙ ap (faults_of side pool (drop c.at s)) row ∙ p.fine),
        ap₂ (ready s c) (sym e) (sym w) ∙ p.is-ready,
      )

  -- what is parsed is valid
  pub parsed-valid : (k : ℕ) (c : Cursor) (xs : List Str) (ps : List ℕ) → CommandsFrom s c.at xs → AllWhole xs → parse k side s pool c ≡ ok ps
      → valid side pool c.last c.parent xs ≡ true
  unfolding parse valid
  parsed-valid zero c xs ps h m e = absurd (let z : ◌≡◌ {A = ℕ} 0 1 = cc in omega arith)
  parsed-valid (suc k) c [] ps h m e = end (judged_at side s pool c) refl e
    where
      number-end : get_or s c.at 0 ≡ 15
      number-end =
          unfold stream_of in
          let z : c.at + 0 ≡ c.at = omega arith in
          sym (ap (λ (i : ℕ). get_or s i 0) z) ∙ sym (get_or-drop c.at s 0 0) ∙ ap (λ (y : Str). get_or y 0 0) h

      stood : may_stand c 15 ≡ true → not (eqb c.last 0) ≡ true
      stood t = unfold may_stand in t

      end : (j : Judged) → judged_at side s pool c ≡ j → continued c.at (parse k side s pool) j ≡ ok ps → not (eqb c.last 0) ≡ true
      end (Ok (Some (d, i))) f g = stood (ap (may_stand c) (sym number-end) ∙ (passed side s pool c (Ok (Some (d, i))) tt f).stands)
      end (Ok None) f g = stood (ap (may_stand c) (sym number-end) ∙ (passed side s pool c (Ok None) tt f).stands)
      end (Err (r, q)) f g = unfold continued in absurd (let z : ◌≡◌ {A = ℕ} 0 1 = cc in omega arith)
  parsed-valid (suc k) c (x ∷ xs) ps h m e =
      go (λ d ps' i q. parsed-valid k d xs ps' i (λ z y. m z (Memᴰ.tail y)) q) (judged_at side s pool c) refl e
    where
      here-cmd : Whole x
      here-cmd = m x (Memᴰ.head refl)

      on : (d : Cursor) → advanced c (number x) (length x) ≡ d
          → ((d : Cursor) (qs : List ℕ) → CommandsFrom s d.at xs → parse k side s pool d ≡ ok qs → valid side pool d.last d.parent xs ≡ true)
          → (qs : List ℕ) → parse k side s pool d ≡ ok qs → valid side pool (number x) (parent_after c.parent (number x)) xs ≡ true
      on d f ih qs g = ih (advanced c (number x) (length x)) qs (next_here s c.at x xs h here-cmd) (ap (parse k side s pool) f ∙ g)

      go : ((d : Cursor) (qs : List ℕ) → CommandsFrom s d.at xs → parse k side s pool d ≡ ok qs → valid side pool d.last d.parent xs ≡ true)
          → (j : Judged) → judged_at side s pool c ≡ j
          → continued c.at (parse k side s pool) j ≡ ok ps
          → (may_stand (cursor_after c.last c.parent) (number x) && (faultless side pool x && valid side pool (number x) (parent_after c.parent (number x)) xs)) ≡ true
      go ih (Ok (Some (d, i))) f g =
          let w = pass-here c x xs h here-cmd (Ok (Some (d, i))) (passed side s pool c (Ok (Some (d, i))) tt f) in
          let t = onto-ok c.at (parse k side s pool i) ps (unfold continued in g) in
          and-true w.0 (and-true w.1 (on i (taken_next c (number x) (length x) d i (no_end here-cmd) w.2) ih t.more t.parsed-so))
      go ih (Ok None) f g = absurd (not_done c (number x) (length x) (no_end here-cmd) (pass-here c x xs h here-cmd (Ok None) (passed side s pool c (Ok None) tt f)).2)
      go ih (Err (r, q)) f g = unfold continued in absurd (let z : ◌≡◌ {A = ℕ} 0 1 = cc in omega arith)

  -- what is valid is parsed
  judged-end : (c : Cursor) → CommandsFrom s c.at [] → not (eqb c.last 0) ≡ true → judged_at side s pool c ≡ Ok None
  unfolding judged_at judged_with stream_of may_stand ready widths faults_from
  judged-end c h t =
      let l : length s - c.at ≡ 1 = sym (length-drop c.at s) ∙ ap (λ (y : Str). length y) h in
      let z : c.at + 0 ≡ c.at = omega arith in
      let b : get_or s c.at 0 ≡ 15 = sym (ap (λ (i : ℕ). get_or s i 0) z) ∙ sym (get_or-drop c.at s 0 0) ∙ ap (λ (y : Str). get_or y 0 0) h in
      rw (lt-ltb c.at (length s) (omega arith), b, end_row, le-ltb (length s - c.at) 1 (omega arith), t, eq-eqb (c.at + 1) (length s) (omega arith), b)

  judged-next : (c : Cursor) (x : Str) (xs : List Str) → CommandsFrom s c.at (x ∷ xs) → Whole x
      → may_stand (cursor_after c.last c.parent) (number x) ≡ true → faultless side pool x ≡ true
      → judged_at side s pool c ≡ Ok (Some (command_of (number x) (drop c.at s), advanced c (number x) (length x)))
  unfolding judged_at judged_with ready faultless faults_of
  judged-next c x xs h m t f =
      let l = length-here s c.at x xs h m in
      let y = some_bytes m in
      let w = m.wide in
      let r = row_of (number x) (omega arith) in
      let e : 1 + widths r.0 ≡ length x = r.2 ∙ sym w in
      let q : faults_from side pool (drop c.at s) 1 r.0 ≡ Fine =
      sym (ap (faults_of side pool (drop c.at s)) r.1) ∙ faults-own side pool s c.at x xs h m ∙ fine-is _ f in
      rw (
        lt-ltb c.at (length s) (omega arith),
        number-here s c.at x xs h m,
        r.1,
        e,
        le-ltb (length s - c.at) (length x) (omega arith),
        stands_after c (number x) ∙ t,
        q,
        number-here s c.at x xs h m,
        ne_eqb (number x) 15 (no_end m),
      )

  pub valid-parsed : (k : ℕ) (c : Cursor) (xs : List Str) → CommandsFrom s c.at xs → AllWhole xs → length xs + 1 ≤ k
      → valid side pool c.last c.parent xs ≡ true
      → parse k side s pool c ≡ ok (command_places c.at xs)
  unfolding parse valid continued command_places onto
  valid-parsed zero c xs h m l e = absurd (omega arith)
  valid-parsed (suc k) c [] h m l e = rw (judged-end c h e)
  valid-parsed (suc k) c (x ∷ xs) h m l e =
      let a = both (may_stand (cursor_after c.last c.parent) (number x)) _ e in
      let b = both (faultless side pool x) _ a.1 in
      let y = m x (Memᴰ.head refl) in
      rw (judged-next c x xs h y a.0 b.0)
      (rw (valid-parsed k (advanced c (number x) (length x)) xs (next_here s c.at x xs h y) (λ z i. m z (Memᴰ.tail i)) (omega arith) b.1) refl)
