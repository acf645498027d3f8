-- A map by name, the BTreeMap of layout.rs: a list in byte order of names. 01, Flattening: of two of one name the later stays. Assumes nothing.
use Rattle.std.specs.Prelude.{List, [], ◌∷◌, cond}
use Rattle.record.specs.Base.{Str, eqs, before}

module _ {A : Type 0} (name : A → Str) where
  -- into such a list: one of the same name gives way
  unfoldable pub insert : A → List A → List A
  insert x [] = x ∷ []
  insert x (y ∷ ys) =
      cond (eqs (name x) (name y)) (x ∷ ys)
      (cond (before (name x) (name y)) (x ∷ y ∷ ys) (y ∷ insert x ys))

  unfoldable pub insert_all : List A → List A → List A
  insert_all [] acc = acc
  insert_all (x ∷ xs) acc = insert_all xs (insert x acc)

  unfoldable pub sorted : List A → List A
  sorted xs = insert_all xs []
