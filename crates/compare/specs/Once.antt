-- That an index is a record's can be seen in one way alone, so a struct may carry it. Assumes nothing.
use Rattle.std.specs.Prelude.{List, [], ◌∷◌, ℕ}
use Rattle.std.specs.Coded.{Unit-prop}
use denote.Struct.Props.{props}
use Rattle.record.specs.Base.{Str}
use Rattle.record.specs.Index.{Linked, Indexed}

linked-once : (x : List ℕ) (key : ℕ → ℕ) (top : ℕ) (l : List ℕ) → IsProp (Linked x key top l)
unfolding Linked
linked-once x key top [] = Unit-prop
linked-once x key top (q ∷ l) = Prim.hlevel (linked-once x key q l, props)

pub indexed-once : (s p : Str) (x : List ℕ) → IsProp (Indexed s p x)
indexed-once s p x = Prim.hlevel (linked-once, props)
