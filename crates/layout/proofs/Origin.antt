-- Where a layout comes from. Assumes nothing.
use mathlib.Core.Path.{◌≡◌, refl, sym}
use mathlib.Core.List.Memᴰ
use mathlib.Core.List.{List, [], ◌∷◌, map, Memᴰ}
use mathlib.Core.Bool.{Bool, true, false, cond}
use mathlib.Core.Logic.{◌⊎◌, inl, inr}
use Rattle.record.specs.Base.{Str, eqs, before}
use Rattle.record.specs.Schema.{Schema, Struct, Family, Variant}
use Rattle.layout.specs.Sorted.{insert, insert_all, sorted}
use Rattle.layout.specs.Layout.{TypeLayout, lay_struct, lay_family, lay_variant, lay_families, flattened, types}

-- what stands in a map was put in
module _ {A : Type 0} (name : A → Str) where
  pub insert-mem : (x : A) (l : List A) {u : A} → Memᴰ u (insert name x l) → (u ≡ x) ⊎ Memᴰ u l
  unfolding insert
  insert-mem x [] (Memᴰ.head e) = inl e
  insert-mem x [] (Memᴰ.tail m) = inr m
  insert-mem x (y ∷ ys) {u} m = go (eqs (name x) (name y)) (before (name x) (name y)) (λ n. insert-mem x ys n) m
    where
      later : (u ≡ x) ⊎ Memᴰ u ys → (u ≡ x) ⊎ Memᴰ u (y ∷ ys)
      later (inl e) = inl e
      later (inr n) = inr (Memᴰ.tail n)

      go : (b c : Bool) → (Memᴰ u (insert name x ys) → (u ≡ x) ⊎ Memᴰ u ys)
          → Memᴰ u (cond b (x ∷ ys) (cond c (x ∷ y ∷ ys) (y ∷ insert name x ys))) → (u ≡ x) ⊎ Memᴰ u (y ∷ ys)
      go true c r (Memᴰ.head e) = inl e
      go true c r (Memᴰ.tail n) = inr (Memᴰ.tail n)
      go false true r (Memᴰ.head e) = inl e
      go false true r (Memᴰ.tail n) = inr n
      go false false r (Memᴰ.head e) = inr (Memᴰ.head e)
      go false false r (Memᴰ.tail n) = later (r n)

  insert_all-mem : (xs acc : List A) {u : A} → Memᴰ u (insert_all name xs acc) → Memᴰ u xs ⊎ Memᴰ u acc
  unfolding insert_all
  insert_all-mem [] acc m = inr m
  insert_all-mem (x ∷ xs) acc {u} m = go (insert_all-mem xs (insert name x acc) m)
    where
      now : (u ≡ x) ⊎ Memᴰ u acc → Memᴰ u (x ∷ xs) ⊎ Memᴰ u acc
      now (inl e) = inl (Memᴰ.head e)
      now (inr n) = inr n

      go : Memᴰ u xs ⊎ Memᴰ u (insert name x acc) → Memᴰ u (x ∷ xs) ⊎ Memᴰ u acc
      go (inl n) = inl (Memᴰ.tail n)
      go (inr n) = now (insert-mem x acc n)

  pub sorted-mem : (xs : List A) {u : A} → Memᴰ u (sorted name xs) → Memᴰ u xs
  unfolding sorted
  sorted-mem xs {u} m = go (insert_all-mem xs [] m)
    where
      go : Memᴰ u xs ⊎ Memᴰ u [] → Memᴰ u xs
      go (inl n) = n
      go (inr n) = absurd (Memᴰ.not-nil n)

pub data From (s : Schema) (t : TypeLayout) : Type 0 where
  of-struct : (x : Struct) → Memᴰ x s.structs → t ≡ lay_struct s x → From s t
  of-family : (m : Family) → Memᴰ m s.families → t ≡ lay_family s m → From s t
  of-variant : (m : Family) → Memᴰ m s.families → (v : Variant) → Memᴰ v m.variants → t ≡ lay_variant s m v → From s t

from-families : (s : Schema) (ms : List Family) → ((m : Family) → Memᴰ m ms → Memᴰ m s.families)
    → {t : TypeLayout} → Memᴰ t (lay_families s ms) → From s t
unfolding lay_families
from-families s [] inc m = absurd (Memᴰ.not-nil m)
from-families s (x ∷ ms) inc (Memᴰ.head e) = of-family x (inc x (Memᴰ.head refl)) e
from-families s (x ∷ ms) inc {t} (Memᴰ.tail m) =
    go (λ n. from-families s ms (λ y l. inc y (Memᴰ.tail l)) n) (Memᴰ.append_cases (map (lay_variant s x) x.variants) m)
  where
    go : (Memᴰ t (lay_families s ms) → From s t) → Memᴰ t (map (lay_variant s x) x.variants) ⊎ Memᴰ t (lay_families s ms) → From s t
    go r (inl n) = let v = Memᴰ.of_map (lay_variant s x) x.variants n in of-variant x (inc x (Memᴰ.head refl)) v.0 v.1 (sym v.2)
    go r (inr n) = r n

from-flattened : (s : Schema) {t : TypeLayout} → Memᴰ t (flattened s) → From s t
unfolding flattened
from-flattened s {t} m = go (Memᴰ.append_cases (map (lay_struct s) s.structs) m)
  where
    go : Memᴰ t (map (lay_struct s) s.structs) ⊎ Memᴰ t (lay_families s s.families) → From s t
    go (inl n) = let v = Memᴰ.of_map (lay_struct s) s.structs n in of-struct v.0 v.1 (sym v.2)
    go (inr n) = from-families s s.families (λ y l. l) n

-- a layout is a structure's, a family's or a variant's
pub from-types : (s : Schema) {t : TypeLayout} → Memᴰ t (types s) → From s t
unfolding types
from-types s m = from-flattened s (sorted-mem _ (flattened s) m)
