-- How a pass is put together. 01, What a check returns: the first violation is the verdict. Assumes nothing.
use Rattle.std.specs.Prelude.{List, [], ◌∷◌, Bool, true, false, ◌&&◌, Option, Some, None}
use Rattle.record.specs.Base.{Str, or_else}
use Rattle.definition.specs.Verdicts.{Verdict, pass, stop}

infixl 40 ◌then◌
unfoldable pub ◌then◌ : Verdict → Verdict → Verdict
pass then v = v
stop w m then v = stop w m

-- the test holds, or this verdict
unfoldable pub ensure : Bool → Verdict → Verdict
ensure true v = pass
ensure false v = v

-- 01's "!": a text that a current record must have
unfoldable pub required : Option Str → Str
required t = or_else t []

module _ {A : Type 0} where
  -- the first violation over a list
  unfoldable pub each : (A → Verdict) → List A → Verdict
  each f [] = pass
  each f (x ∷ xs) = f x then each f xs

  -- this verdict where nothing is found, else that of what is
  unfoldable pub on_found : Option A → Verdict → (A → Verdict) → Verdict
  on_found None v f = v
  on_found (Some a) v f = f a

  unfoldable pub empty : List A → Bool
  empty [] = true
  empty (x ∷ xs) = false

  -- a test that all elements pass
  unfoldable pub all_of : (A → Bool) → List A → Bool
  all_of p [] = true
  all_of p (x ∷ xs) = p x && all_of p xs
