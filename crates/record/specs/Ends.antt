-- Where the lists of a record end, as the code keeps it. Assumes nothing.
use Rattle.std.specs.Prelude.{◌≡◌, List, [], Bool, true, ◌||◌, cond, ℕ, eqb, Some}
use Rattle.record.specs.Base.{Str}
use Rattle.record.specs.Commands.{step_at}
use Rattle.record.specs.Seek.{places_of}
use Rattle.record.specs.Index.{Indexed}
use Rattle.record.specs.declared.command.Command.{Command}
use Rattle.record.specs.declared.command.Cursor.{Cursor}
use Rattle.record.specs.declared.seek.Between.TheVariants.{Anything}
use Rattle.record.specs.declared.ends.Ends.{Ends}

-- the commands from a place on lead to another
pub data Reached (s : Str) (to : ℕ) : ℕ → Type 0 where
  there : {at : ℕ} → at ≡ to → Reached s to at
  onward : {at : ℕ} {c : Command} {k : Cursor} → step_at s at ≡ Some (c, k) → Reached s to k.at → Reached s to at

-- the numbers of the commands of each list
abbrev pub in_constants : ℕ → Bool
in_constants b = eqb b 2

abbrev pub in_enums : ℕ → Bool
in_enums b = eqb b 4 || eqb b 5

abbrev pub in_bitfields : ℕ → Bool
in_bitfields b = eqb b 6 || eqb b 7

abbrev pub in_keys : ℕ → Bool
in_keys b = eqb b 12 || eqb b 13

-- the commands of some numbers all stand before a place, and no command begins before it and ends after it
pub record Before (s : Str) (is : ℕ → Bool) (e : ℕ) : Type 0 where
  pub reached : Reached s e 0
  pub none : (b : ℕ) → is b ≡ true → places_of s Anything b e ≡ []

-- where each list of a record ends
pub record EndsOf (s : Str) (r : Ends) : Type 0 where
  pub constants : Before s in_constants r.constants
  pub enums : Before s in_enums r.enums
  pub bitfields : Before s in_bitfields r.bitfields
  pub keys : Before s in_keys r.keys

-- the ends once one more command is seen
unfoldable pub noted : Ends → ℕ → ℕ → Ends
noted r b k = record {
  constants = cond (in_constants b) k r.constants;
  enums = cond (in_enums b) k r.enums;
  bitfields = cond (in_bitfields b) k r.bitfields;
  keys = cond (in_keys b) k r.keys;
}

-- the ends where no command is seen
abbrev pub no_ends : Ends
no_ends = record { constants = 0; enums = 0; bitfields = 0; keys = 0 }

-- the index of a record and the ends of its lists
pub record IndexedTo (s p : Str) (x : List ℕ) (r : Ends) : Type 0 where
  pub index : Indexed s p x
  pub ends : EndsOf s r
