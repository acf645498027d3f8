-- One command judged: refusals 2, 1, 3, 4, 5, 6 in this order, each at the command's place, after the order in 01, What a check returns, and the
-- operands and places in 01, Record commands. Assumes nothing.
use Rattle.std.specs.Prelude.{ℕ, ◌+◌, ◌-◌, [], ◌∷◌, Bool, true, false, ◌&&◌, ◌||◌, not, cond, get_or, length, drop, eqb, ltb, leb, Option, Some, None, Result, Ok, Err}
use Rattle.texts.specs.Utf8.{no_tail}
use Rattle.record.specs.Base.{Str}
use Rattle.record.specs.Operands.{flag_at, opt_text_at}
use Rattle.record.specs.Commands.{operands, wide, widths, width_of, command_of}
use Rattle.record.specs.declared.command.Parent.{Parent}
use Rattle.record.specs.declared.command.Parent.TheVariants.{NoParent, InStruct, InFamily}
use Rattle.record.specs.declared.command.Cursor.{Cursor}
use Rattle.record.specs.declared.refusal.Side.{Side}
use Rattle.record.specs.declared.refusal.Side.TheVariants.{Current, Released}
use Rattle.record.specs.declared.refusal.Refusal.TheVariants as R
use Rattle.record.specs.declared.judge.Fault.{Fault}
use Rattle.record.specs.declared.judge.Fault.TheVariants.{Fine, Outside, Missing, Flag}
use Rattle.record.specs.declared.judge.Row.{Row}
use Rattle.record.specs.declared.text.Text.{Text}
use Rattle.record.specs.declared.refusal.Refusal.{Refusal}
use Rattle.record.specs.declared.command.Command.{Command}

-- the command at a place with the cursor after it, or none at the end command; or why it is refused, and its place
abbrev pub Judged : Type 0
Judged = Result (Option (Command × Cursor)) (Refusal × ℕ)

-- operands. 01: 4, 5, 6, so any 4 goes before any 5, and that before any 6 ------------------------------------------------------------------

abbrev pub worse_of : Fault → Fault → Fault
worse_of Fine b = b
worse_of Outside b = Outside
worse_of Missing Fine = Missing
worse_of Missing Outside = Outside
worse_of Missing Missing = Missing
worse_of Missing Flag = Missing
worse_of Flag Fine = Flag
worse_of Flag Outside = Outside
worse_of Flag Missing = Missing
worse_of Flag Flag = Flag

abbrev pub missing_in : Side → Fault
missing_in Current = Missing
missing_in Released = Fine

-- 01: what an absent text comes to, by the operand's letter: 4 in a plain T, nothing in an O, 5 at "!" in a current record and at "?" where
-- is-text, the flag at 4, is 1
unfoldable pub if_absent : Side → Str → ℕ → Fault
if_absent side x o =
    cond (eqb o 79) Fine
    (cond (eqb o 33) (missing_in side)
    (cond (eqb o 63) (cond (flag_at x 4) Missing Fine) Outside))

-- 01 and 02, W-206: a text that is there lies in the pool and neither begins nor ends inside a sequence, or it is 4. In a pool without fault,
-- and that is judged first, no tail stands at a place exactly if it is not inside a sequence (texts, proofs/EdgeLaws, `edge-no-tail`)
abbrev pub text_fault : Str → Fault → Option Text → Fault
text_fault p absent None = absent
text_fault p absent (Some t) =
    cond (leb (t.start + t.len) (length p) && (no_tail p t.start && no_tail p (t.start + t.len))) Fine Outside

-- 01: a flag byte above 1 is 6
unfoldable pub flag_fault : ℕ → Fault
flag_fault b = cond (ltb b 2) Fine Flag

-- the fault of an operand at a place of the command's bytes, by its letter (F, N, W, V, or a text's)
unfoldable pub operand_fault : Side → Str → Str → ℕ → ℕ → Fault
operand_fault side p x i o =
    cond (eqb o 70) (flag_fault (get_or x i 0))
    (cond (eqb o 78) (flag_fault (get_or x i 0))
    (cond (eqb o 87) Fine
    (cond (eqb o 86) Fine (text_fault p (if_absent side x o) (opt_text_at x i)))))

unfoldable pub faults_from : Side → Str → Str → ℕ → Str → Fault
faults_from side p x i [] = Fine
faults_from side p x i (o ∷ os) = worse_of (operand_fault side p x i o) (faults_from side p x (i + wide o) os)

-- the fault of a command's operands, which begin at its second byte; nothing where there is no such command
unfoldable pub faults_of : Side → Str → Str → Option Str → Fault
faults_of side p x None = Fine
faults_of side p x (Some os) = faults_from side p x 1 os

-- places ------------------------------------------------------------------------------------------------------------------

abbrev pub is_open : Parent → Bool
is_open NoParent = false
is_open InStruct = true
is_open InFamily = true

abbrev pub in_family : Parent → Bool
in_family NoParent = false
in_family InStruct = false
in_family InFamily = true

unfoldable pub follows : Cursor → ℕ → ℕ → Bool
follows c a b = eqb c.last a || eqb c.last b

-- 01's rules of place: 01 first and once; 05 after 04 or 05; 07 after 06 or 07; 0A while a family is open; 0B while a type is; 0C right after 0B;
-- all others anywhere after the head
unfoldable pub may_stand : Cursor → ℕ → Bool
may_stand c b =
    cond (eqb b 1) (eqb c.last 0)
    (cond (eqb b 5) (follows c 4 5)
    (cond (eqb b 7) (follows c 6 7)
    (cond (eqb b 10) (in_family c.parent)
    (cond (eqb b 11) (is_open c.parent)
    (cond (eqb b 12) (follows c 11 11) (not (eqb c.last 0)))))))

-- the width of a number's command, and whether it may stand at a cursor
abbrev pub row_of : ℕ → Bool → Row
row_of w t = record { width = w; stands = t }

unfoldable pub row_at : Cursor → ℕ → Row
row_at c b = row_of (width_of b) (may_stand c b)

-- 01: only 0A, 0B and 0C leave a structure or a family open
unfoldable pub parent_after : Parent → ℕ → Parent
parent_after p b =
    cond (eqb b 8) InStruct
    (cond (eqb b 9) InFamily
    (cond (eqb b 10) p
    (cond (eqb b 11) p
    (cond (eqb b 12) p NoParent))))

-- the whole judgement -----------------------------------------------------------------------------------------------------

abbrev pub advanced : Cursor → ℕ → ℕ → Cursor
advanced c b w = record { at = c.at + w; last = b; parent = parent_after c.parent b }

-- a command without fault. 01: any byte after 0F is 3, at its own place
unfoldable pub ready : Str → Cursor → ℕ → ℕ → Judged
ready s c b w =
    cond (eqb b 15) (cond (eqb (c.at + w) (length s)) (Ok None) (Err (R.Misplaced, c.at + w)))
    (Ok (Some (command_of b (drop c.at s), advanced c b w)))

abbrev pub faulted : ℕ → Judged → Fault → Judged
faulted at j Fine = j
faulted at j Outside = Err (R.Outside, at)
faulted at j Missing = Err (R.Missing, at)
faulted at j Flag = Err (R.Flag, at)

-- by a command's operands, its width, and whether it may stand here
unfoldable pub judged_with : Side → Str → Str → Cursor → Str → ℕ → Bool → Judged
judged_with side s p c os w stands =
    cond (ltb (length s - c.at) w) (Err (R.Cut, c.at))
    (cond stands (faulted c.at (ready s c (get_or s c.at 0) w) (faults_from side p (drop c.at s) 1 os)) (Err (R.Misplaced, c.at)))

abbrev pub judged_as : Side → Str → Str → Cursor → ℕ → Option Str → Judged
judged_as side s p c b None = Err (R.Unknown, c.at)
judged_as side s p c b (Some os) = judged_with side s p c os (1 + widths os) (may_stand c b)

-- the command at a cursor, of a stream beside a pool. 01: with 0F lacking, 1 at the stream's length
unfoldable pub judged_at : Side → Str → Str → Cursor → Judged
judged_at side s p c =
    cond (ltb c.at (length s)) (judged_as side s p c (get_or s c.at 0) (operands (get_or s c.at 0))) (Err (R.Cut, c.at))
