-- What a match on an enum says of the tag. Assumes nothing.
use Prim.Native.Nat.{ℕ}
use mathlib.Core.List.{List, [], ◌∷◌}
use mathlib.Core.Bool.{Bool, true, false, cond}
use mathlib.Core.Path.{sym}
use mathlib.Core.Logic.{⊎_elim}
use borrow.Author.Tests.{eq-eqb}
use lib.Dec.{T, eqb}
use types.Run.{OneOf}

-- a tag that is none of some is not among them
abbrev pub absent : List ℕ → ℕ → Bool
absent [] x = true
absent (k ∷ ks) x = cond (eqb k x) false (absent ks x)

rest : (b y : Bool) → T (cond b false y) → T y
rest true y t = absurd t
rest false y t = t

pub not-one-of : (ks : List ℕ) (x : ℕ) → T (absent ks x) → OneOf ks x → ⊥
not-one-of [] x t h = h
not-one-of (k ∷ []) x t h = rw (eq-eqb k x (sym h)) at t
not-one-of (k ∷ j ∷ ks) x t h =
    ⊎_elim (λ e. rw (eq-eqb k x (sym e)) at t) (λ g. not-one-of (j ∷ ks) x (rest (eqb k x) (absent (j ∷ ks) x) t) g) h
