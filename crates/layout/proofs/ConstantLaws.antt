-- The table of constants is the map by name of those at the places of their commands. Assumes nothing.
use Prim.Native.Nat.{ℕ, ◌≤◌, ◌<◌}
use mathlib.Core.List.{List, [], ◌∷◌, ◌++◌, map, map-id, Memᴰ}
use mathlib.Core.Path.{◌≡◌, refl, sym, ap, ap₂, subst, ◌∙◌}
use lib.ListN.{length, take, drop}
use Rattle.record.specs.Base.{Str}
use Rattle.record.specs.Schema.{Const}
use Rattle.record.specs.Commands.{constant_at, commands_at}
use Rattle.record.specs.Lists.{anything, constant_of, constants}
use Rattle.record.specs.Steps.{constants_at}
use Rattle.layout.specs.Sorted.{sorted}
use Rattle.layout.specs.Sort.{arranged, lasts}
use Rattle.record.specs.Fill.{fronted}
use Rattle.layout.specs.Handles.{name_at, type_name}
use Rattle.record.specs.Seek.{places_of}
use Rattle.record.specs.declared.seek.Between.TheVariants.{Anything}
use Rattle.layout.specs.Constants.{placed_constant, ConstantsTable}
use Rattle.record.proofs.ListLaws.{listed_same}
use Rattle.layout.proofs.Origin.{sorted-mem}
use Rattle.layout.proofs.Runs.{map-sorted}
use Rattle.layout.proofs.Along.{listed-element}
use Rattle.layout.proofs.Flattened.{plain-name, below}
use Rattle.layout.proofs.TableLaws.{kept-are}

-- functions that agree on the elements of a list
map-agree : {A B : Type 0} (f g : A → B) (l : List A) → ((x : A) → Memᴰ x l → f x ≡ g x) → map f l ≡ map g l
map-agree f g [] h = refl
map-agree {A} {B} f g (x ∷ l) h = ap₂ (λ (y : B) (m : List B). y ∷ m) (h x (Memᴰ.head refl)) (map-agree f g l (λ y n. h y (Memᴰ.tail n)))

module _ (s p : Str) (small : length s ≤ 32768) where
  abbrev key : ℕ → Str
  key = type_name s p

  -- the constant at a place, by the name that the sort goes by
  named : ℕ → Const
  named at = let c = placed_constant s p at in record { name = key at; value = c.value; api = c.api; since = c.since }

  named-is : (at : ℕ) → at < 65536 → placed_constant s p at ≡ named at
  unfolding placed_constant name_at named
  named-is at h =
      let c = placed_constant s p at in
      ap (λ (n : Str). record { name = n; value = c.value; api = c.api; since = c.since }) (sym (plain-name s p [] small at h))

  places-small : (at : ℕ) → Memᴰ at (places_of s Anything 2 0) → at < 65536
  unfolding places_of
  places-small at m = let x = listed-element s anything 2 (λ a rest. a) at 0 m in subst (λ (n : ℕ). n < 65536) (sym x.is) (below s small x.where-from x.in-stream)

  abbrev agree : (l : List ℕ) → ((at : ℕ) → Memᴰ at l → Memᴰ at (places_of s Anything 2 0)) → map (placed_constant s p) l ≡ map named l
  agree l h = map-agree (placed_constant s p) named l (λ at m. named-is at (places-small at (h at m)))

  -- the constants in their order, by their places
  places-are : map (placed_constant s p) (places_of s Anything 2 0) ≡ constants_at s p 0
  unfolding places_of constants_at constants placed_constant
  places-are =
      listed_same s anything 2 (λ a rest. a) (λ a rest. constant_of p (constant_at (drop a s))) (placed_constant s p) (λ (c : Const). c) (λ at c k e b. refl) 0
      ∙ map-id (constants s p (commands_at s 0))

  sorted-are : map (placed_constant s p) (sorted key (places_of s Anything 2 0)) ≡ sorted (λ (c : Const). c.name) (constants_at s p 0)
  unfolding named
  sorted-are =
      agree (sorted key (places_of s Anything 2 0)) (λ at m. sorted-mem key (places_of s Anything 2 0) m)
      ∙ map-sorted named (λ (c : Const). c.name) (places_of s Anything 2 0)
      ∙ ap (sorted (λ (c : Const). c.name)) (sym (agree (places_of s Anything 2 0) (λ at m. m)) ∙ places-are)

  -- from what was filled, sorted and kept
  pub constants-kept : (o t x : List ℕ) (n r : ℕ) → n ≡ length (places_of s Anything 2 0) → t ≡ fronted o (places_of s Anything 2 0) → take r x ≡ lasts key (arranged key (take n t)) → r ≤ length x
      → ConstantsTable s p (take r (x ++ drop n t))
  constants-kept o t x n r i f g h =
      subst (λ (l : List ℕ). ConstantsTable s p l) (sym (kept-are key (places_of s Anything 2 0) o t x n r i f g h)) (record { constants = sorted-are })
