-- The lists of a stream section by section, and those of a section with its parts moved. Assumes nothing.
use mathlib.Core.Path.{◌≡◌, refl, sym, ◌∙◌, ap, ap₂, subst}
use mathlib.Core.List.Memᴰ
use mathlib.Core.List.Permᴰ
use mathlib.Core.List.{List, [], ◌∷◌, ◌++◌, flatten, flat_map, Memᴰ, Forall₂, Permᴰ}
use mathlib.Core.Bool.{Bool, true, false, ◌&&◌, ◌||◌, not, cond, false≢true, or-true}
use mathlib.Core.Logic.{◌⊎◌, inl, inr}
use Prim.Native.Nat.{ℕ}
use lib.Dec.{eqb}
use lib.ListN.{length}
use borrow.Author.Tests.{eq-eqb, not-true}
use Rattle.record.specs.Base.{Str, any, first}
use Rattle.record.specs.Schema.{Key, Field, Family}
use Rattle.record.specs.Commands.{width_of, enum_at, bitfield_at, struct_at, family_at, variant_at, field_at}
use Rattle.record.specs.Lists.{enum_of, bitfield_of, struct_of, family_of, variant_of, field_of, anything, nothing, a_key, a_field}
use Rattle.record.specs.Shapes.{fam_prefix}
use Rattle.record.proofs.Basics.{both}
use Rattle.definition.specs.Pass.{all_of}
use Rattle.definition.specs.Sections.{number, is_command, are_commands, is_group, openers, insiders, is_section, Part, value, member, variant, section_number, part_number, field_numbers, is_part, PartsMoved, as-it-is, parts-moved}
use Rattle.definition.proofs.Lists.{all-of, of-all, mem-flatten, all-perm, perm-eq, perm-by, perm-append, perm-flat_map, related-refl, related-by}
use Rattle.definition.proofs.PermutedSchemas.{PermutedEnum, PermutedBits, PermutedFamily}
use Rattle.definition.proofs.CommandStreams.{one_of, its-number, is_number, listed_in, the_constants, the_aliases, the_values, the_enums, the_members, the_bitfields, the_keys, the_fields, the_structs, the_variants, the_families, the_unstored, the_versions}

-- tests of commands -------------------------------------------------------------------------------------------------------

-- these numbers are among those
abbrev Among : List ℕ → List ℕ → Type 0
Among l k = all_of (λ (b : ℕ). any (eqb b) k) l ≡ true

-- a command, of which the number is one of others too
pub again : (l k : List ℕ) (x : Str) → is_command l x ≡ true → any (eqb (number x)) k ≡ true → is_command k x ≡ true
unfolding is_command
again l k x e h = rw ((both (eqb (length x) (width_of (number x))) _ e).0, h)

command-more : (l k : List ℕ) → Among l k → (x : Str) → is_command l x ≡ true → is_command k x ≡ true
command-more l k h x e = again l k x e (one_of (λ (b : ℕ). any (eqb b) k) l h (number x) (its-number l x e))

commands-more : (l k : List ℕ) → Among l k → (xs : List Str) → are_commands l xs ≡ true → are_commands k xs ≡ true
unfolding are_commands
commands-more l k h xs e = of-all (is_command k) xs (λ x m. command-more l k h x (all-of (is_command l) xs e m))

-- none of these numbers is that one
abbrev pub Without : ℕ → List ℕ → Type 0
Without b l = all_of (λ (k : ℕ). not (eqb k b)) l ≡ true

pub differs : (l : List ℕ) (b : ℕ) → Without b l → (k : ℕ) → any (eqb k) l ≡ true → eqb k b ≡ false
differs l b h k e = not-true (eqb k b) (one_of (λ (j : ℕ). not (eqb j b)) l h k e)

-- the parts of a section --------------------------------------------------------------------------------------------------

pub each_part : (P : Part → Type 0) → P value → P member → P variant → (k : Part) → P k
each_part P v m w value = v
each_part P v m w member = m
each_part P v m w variant = w

-- the numbers inside a section with such parts, and of all its commands
unfoldable pub body_numbers : Part → List ℕ
body_numbers k = part_number k ∷ field_numbers k

unfoldable pub own_numbers : Part → List ℕ
own_numbers k = section_number k ∷ part_number k ∷ field_numbers k

fields-among : (k : Part) → Among (field_numbers k) (body_numbers k)
unfolding field_numbers part_number body_numbers all_of any
fields-among = each_part (λ (k : Part). Among (field_numbers k) (body_numbers k)) refl refl refl

body-among : (k : Part) → Among (body_numbers k) (own_numbers k)
unfolding field_numbers part_number section_number body_numbers own_numbers all_of any
body-among = each_part (λ (k : Part). Among (body_numbers k) (own_numbers k)) refl refl refl

body-inside : (k : Part) → Among (body_numbers k) insiders
unfolding field_numbers part_number body_numbers insiders all_of any
body-inside = each_part (λ (k : Part). Among (body_numbers k) insiders) refl refl refl

pub own-commands : (k : Part) (fs : List Str) → are_commands (field_numbers k) fs ≡ true → are_commands (body_numbers k) fs ≡ true
own-commands k = commands-more (field_numbers k) (body_numbers k) (fields-among k)

pub part-commands : (k : Part) (v : List Str) → is_part k v ≡ true → are_commands (body_numbers k) v ≡ true
unfolding is_part are_commands all_of body_numbers any
part-commands k [] h = absurd (false≢true h)
part-commands k (x ∷ xs) h =
    let w = both (is_command (part_number k ∷ []) x) _ h in
    rw (command-more (part_number k ∷ []) (part_number k ∷ field_numbers k) (rw (eq-eqb (part_number k) (part_number k) refl)) x w.0)
    (commands-more (field_numbers k) (part_number k ∷ field_numbers k) (fields-among k) xs w.1)

-- the commands behind the one that begins the section
body-commands : (k : Part) (fs : List Str) (ps : List (List Str)) → are_commands (field_numbers k) fs ≡ true → all_of (is_part k) ps ≡ true
    → are_commands (body_numbers k) (fs ++ flatten ps) ≡ true
unfolding are_commands
body-commands k fs ps i j = of-all (is_command (body_numbers k)) (fs ++ flatten ps) (λ x m. go x (Memᴰ.append_cases fs m))
  where
    go : (x : Str) → Memᴰ x fs ⊎ Memᴰ x (flatten ps) → is_command (body_numbers k) x ≡ true
    go x (inl m) = command-more (field_numbers k) (body_numbers k) (fields-among k) x (all-of (is_command (field_numbers k)) fs i m)
    go x (inr m) = let w = mem-flatten ps m in all-of (is_command (body_numbers k)) w.0 (part-commands k w.0 (all-of (is_part k) ps j w.1)) w.2

moved-commands : (k : Part) (x : Str) (ys : List Str) → is_command (section_number k ∷ []) x ≡ true → are_commands (body_numbers k) ys ≡ true
    → are_commands (own_numbers k) (x ∷ ys) ≡ true
unfolding are_commands all_of own_numbers any
moved-commands k x ys i j =
    rw (command-more (section_number k ∷ []) (own_numbers k) (rw (eq-eqb (section_number k) (section_number k) refl)) x i)
    (commands-more (body_numbers k) (own_numbers k) (body-among k) ys j)

-- a section with its parts moved is a section
moved-section : (s t : List Str) → PartsMoved s t → is_section s ≡ true → is_section t ≡ true
unfolding is_section
moved-section s t (as-it-is e) h = sym (ap is_section e) ∙ h
moved-section s t (parts-moved k x fs ps qs i j l p) h =
    rw (both (is_command openers x) _ h).0
    (commands-more (body_numbers k) insiders (body-inside k) (fs ++ flatten qs) (body-commands k fs qs j (all-perm (is_part k) p l)))

pub moved-sections : {a b : List (List Str)} → Forall₂ PartsMoved a b → all_of is_section a ≡ true → all_of is_section b ≡ true
unfolding all_of
moved-sections Forall₂.nil h = refl
moved-sections (Forall₂.cons {a = x} {b = y} {l₁ = a} r p) h =
    let w = both (is_section x) (all_of is_section a) h in
    rw (moved-section x y r w.0) (moved-sections p w.1)

-- how a stretch of commands begins ----------------------------------------------------------------------------------------

-- nothing, or a command of one of these numbers first
abbrev pub StartsWith : List ℕ → List Str → Type 0
StartsWith l [] = Unit {0}
StartsWith l (x ∷ xs) = any (eqb (number x)) l ≡ true

-- nothing, or a command first that ends the list
abbrev Ends : (ℕ → Bool) → ℕ → List Str → Type 0
Ends over b [] = Unit {0}
Ends over b (x ∷ xs) = (eqb (number x) b ≡ false) × (over (number x) ≡ false)

-- each of these numbers ends the list
abbrev Closes : (ℕ → Bool) → ℕ → List ℕ → Type 0
Closes over b l = all_of (λ (k : ℕ). not (eqb k b) && not (over k)) l ≡ true

starts-ends : (over : ℕ → Bool) (b : ℕ) (l : List ℕ) → Closes over b l → (t : List Str) → StartsWith l t → Ends over b t
starts-ends over b l h [] s = tt
starts-ends over b l h (x ∷ xs) s =
    let w = both (not (eqb (number x) b)) (not (over (number x))) (one_of (λ (k : ℕ). not (eqb k b) && not (over k)) l h (number x) s) in
    (not-true (eqb (number x) b) w.0, not-true (over (number x)) w.1)

groups-start : (begin inside : List ℕ) (gs : List (List Str)) → all_of (is_group begin inside) gs ≡ true → StartsWith begin (flatten gs)
unfolding flatten all_of
groups-start begin inside [] h = tt
groups-start begin inside ([] ∷ gs) h = absurd (false≢true h)
groups-start begin inside ((x ∷ xs) ∷ gs) h =
    its-number begin x (both (is_command begin x) _ (both (is_group begin inside (x ∷ xs)) (all_of (is_group begin inside) gs) h).0).0

pub sections-start : (secs : List (List Str)) → all_of is_section secs ≡ true → StartsWith openers (flatten secs)
unfolding is_section
sections-start = groups-start openers insiders

pub parts-start : (k : Part) (ps : List (List Str)) → all_of (is_part k) ps ≡ true → StartsWith (part_number k ∷ []) (flatten ps)
unfolding is_part
parts-start k = groups-start (part_number k ∷ []) (field_numbers k)

-- lists -------------------------------------------------------------------------------------------------------------------

module _ {A : Type 0} (over : ℕ → Bool) (b : ℕ) (g : Str → List Str → A) where
  pub listed-hit : (x : Str) (xs : List Str) → number x ≡ b → listed_in over b g (x ∷ xs) ≡ g x xs ∷ listed_in over b g xs
  unfolding listed_in
  listed-hit x xs e = rw (eq-eqb (number x) b e)

  module _ (t : List Str) (same : (x : Str) (xs : List Str) → g x (xs ++ t) ≡ g x xs) where
    -- a list that ends where the next stretch begins
    listed-closed : Ends over b t → (s : List Str) → listed_in over b g (s ++ t) ≡ listed_in over b g s
    unfolding listed_in
    listed-closed e [] = go t e
      where
        go : (u : List Str) → Ends over b u → listed_in over b g u ≡ []
        go [] k = refl
        go (x ∷ xs) k = rw (k.0, k.1)
    listed-closed e (x ∷ xs) =
        ap₂ (λ (h : A) (l : List A). cond (eqb (number x) b) (h ∷ l) (cond (over (number x)) l [])) (same x xs) (listed-closed e xs)

    -- a list that no command of the first stretch ends
    listed-through : (s : List Str) → ((x : Str) → Memᴰ x s → (eqb (number x) b || over (number x)) ≡ true)
        → listed_in over b g (s ++ t) ≡ listed_in over b g s ++ listed_in over b g t
    unfolding listed_in
    listed-through [] h = refl
    listed-through (x ∷ xs) h =
        go (eqb (number x) b) (over (number x)) (h x (Memᴰ.head refl)) (listed-through xs (λ y m. h y (Memᴰ.tail m)))
      where
        go : (u v : Bool) → (u || v) ≡ true → listed_in over b g (xs ++ t) ≡ listed_in over b g xs ++ listed_in over b g t
            → cond u (g x (xs ++ t) ∷ listed_in over b g (xs ++ t)) (cond v (listed_in over b g (xs ++ t)) [])
            ≡ cond u (g x xs ∷ listed_in over b g xs) (cond v (listed_in over b g xs) []) ++ listed_in over b g t
        go true v k r = ap₂ ◌∷◌ (same x xs) r
        go false true k r = r
        go false false k r = absurd (false≢true k)

  -- what a list holds of a section is what it holds of the fields and of each part
  module _ (k : Part) (part : part_number k ≡ b) (on : all_of (λ (n : ℕ). eqb n b || over n) (body_numbers k) ≡ true)
      (same : (t : List Str) → StartsWith (part_number k ∷ []) t → (x : Str) (xs : List Str) → g x (xs ++ t) ≡ g x xs) where
    goes_on : (s : List Str) → are_commands (body_numbers k) s ≡ true → (x : Str) → Memᴰ x s → (eqb (number x) b || over (number x)) ≡ true
    unfolding are_commands
    goes_on s h x m =
        one_of (λ (n : ℕ). eqb n b || over n) (body_numbers k) on (number x) (its-number (body_numbers k) x (all-of (is_command (body_numbers k)) s h m))

    listed-parts : (ps : List (List Str)) → all_of (is_part k) ps ≡ true → listed_in over b g (flatten ps) ≡ flat_map (listed_in over b g) ps
    unfolding flatten flat_map all_of listed_in
    listed-parts [] h = refl
    listed-parts (p ∷ ps) h =
        let w = both (is_part k p) (all_of (is_part k) ps) h in
        listed-through (flatten ps) (same (flatten ps) (parts-start k ps w.1)) p (goes_on p (part-commands k p w.0))
        ∙ ap (λ (l : List A). listed_in over b g p ++ l) (listed-parts ps w.1)

    listed-body : (fs : List Str) (ps : List (List Str)) → are_commands (field_numbers k) fs ≡ true → all_of (is_part k) ps ≡ true
        → listed_in over b g (fs ++ flatten ps) ≡ listed_in over b g fs ++ flat_map (listed_in over b g) ps
    listed-body fs ps i j =
        listed-through (flatten ps) (same (flatten ps) (parts-start k ps j)) fs (goes_on fs (own-commands k fs i))
        ∙ ap (λ (l : List A). listed_in over b g fs ++ l) (listed-parts ps j)

    -- in another order they are a permutation
    parts-perm : (fs : List Str) (ps qs : List (List Str)) → are_commands (field_numbers k) fs ≡ true → all_of (is_part k) ps ≡ true → Permᴰ ps qs
        → Permᴰ (listed_in over b g (fs ++ flatten ps)) (listed_in over b g (fs ++ flatten qs))
    parts-perm fs ps qs i j p =
        perm-by (listed-body fs ps i j) (listed-body fs qs i (all-perm (is_part k) p j))
        (perm-append (Permᴰ.refl (listed_in over b g fs)) (perm-flat_map (listed_in over b g) p))

module _ {A : Type 0} (b : ℕ) (g : Str → List Str → A) where
  listed-append : (t : List Str) → ((x : Str) (xs : List Str) → g x (xs ++ t) ≡ g x xs) → (s : List Str)
      → listed_in anything b g (s ++ t) ≡ listed_in anything b g s ++ listed_in anything b g t
  listed-append t same s = listed-through anything b g t same s (λ x m. or-true (eqb (number x) b))

  -- another command first
  pub listed-skip : (x : Str) (xs : List Str) → eqb (number x) b ≡ false → listed_in anything b g (x ∷ xs) ≡ listed_in anything b g xs
  unfolding listed_in
  listed-skip x xs e = rw e

  -- none of this number is there
  listed-none : (l : List ℕ) → Without b l → (xs : List Str) → are_commands l xs ≡ true → listed_in anything b g xs ≡ []
  unfolding listed_in are_commands all_of
  listed-none l h [] c = refl
  listed-none l h (x ∷ xs) c =
      let w = both (is_command l x) _ c in
      rw (differs l b h (number x) (its-number l x w.0)) (listed-none l h xs w.1)

  -- nor in a section with its parts moved
  none-moved : (k : Part) → Without b (own_numbers k) → (x : Str) (fs : List Str) (ps : List (List Str)) → is_command (section_number k ∷ []) x ≡ true
      → are_commands (field_numbers k) fs ≡ true → all_of (is_part k) ps ≡ true → listed_in anything b g (x ∷ fs ++ flatten ps) ≡ []
  none-moved k h x fs ps i j l =
      listed-none (own_numbers k) h (x ∷ fs ++ flatten ps) (moved-commands k x (fs ++ flatten ps) i (body-commands k fs ps j l))

  -- the one element of a section that such a command begins
  one-section : (k : Part) → section_number k ≡ b → Without b (body_numbers k) → (x : Str) (fs : List Str) (ps : List (List Str))
      → is_command (section_number k ∷ []) x ≡ true
      → are_commands (field_numbers k) fs ≡ true → all_of (is_part k) ps ≡ true
      → listed_in anything b g (x ∷ fs ++ flatten ps) ≡ g x (fs ++ flatten ps) ∷ []
  one-section k e h x fs ps i j l =
      listed-hit anything b g x (fs ++ flatten ps) (is_number (section_number k) x i ∙ e)
      ∙ ap (λ (r : List A). g x (fs ++ flatten ps) ∷ r) (listed-none (body_numbers k) h (fs ++ flatten ps) (body-commands k fs ps j l))

  -- a list that no part is in
  pub moved-equal : ((k : Part) → Without b (own_numbers k)) → (s t : List Str) → PartsMoved s t → listed_in anything b g s ≡ listed_in anything b g t
  moved-equal h s t (as-it-is e) = ap (listed_in anything b g) e
  moved-equal h s t (parts-moved k x fs ps qs i j l p) =
      none-moved k (h k) x fs ps i j l ∙ sym (none-moved k (h k) x fs qs i j (all-perm (is_part k) p l))

  -- a list whose elements have parts: they are related, whatever the order of the parts
  module _ (R : A → A → Type 0) (same : (x : A) → R x x) (k : Part) (its : section_number k ≡ b) (alone : Without b (body_numbers k))
      (others : (j : Part) → (j ≡ k) ⊎ Without b (own_numbers j))
      (moved : (x : Str) (fs : List Str) (ps qs : List (List Str)) → are_commands (field_numbers k) fs ≡ true → all_of (is_part k) ps ≡ true → Permᴰ ps qs
      → R (g x (fs ++ flatten ps)) (g x (fs ++ flatten qs))) where
    moved_listed : (s t : List Str) → PartsMoved s t → Forall₂ R (listed_in anything b g s) (listed_in anything b g t)
    moved_listed s t (as-it-is e) = related-by (ap (listed_in anything b g) e) refl (related-refl same (listed_in anything b g t))
    moved_listed s t (parts-moved j x fs ps qs i f l p) = go (others j)
      where
        l' : all_of (is_part j) qs ≡ true
        l' = all-perm (is_part j) p l

        go : (j ≡ k) ⊎ Without b (own_numbers j)
            → Forall₂ R (listed_in anything b g (x ∷ fs ++ flatten ps)) (listed_in anything b g (x ∷ fs ++ flatten qs))
        go (inr h) = related-by (none-moved j h x fs ps i f l) (none-moved j h x fs qs i f l') Forall₂.nil
        go (inl e) =
            let its' : section_number j ≡ b = ap section_number e ∙ its in
            let alone' : Without b (body_numbers j) = subst (λ (u : Part). Without b (body_numbers u)) (sym e) alone in
            related-by (one-section j its' alone' x fs ps i f l) (one-section j its' alone' x fs qs i f l')
            (Forall₂.cons (moved x fs ps qs (subst (λ (u : Part). are_commands (field_numbers u) fs ≡ true) e f)
            (subst (λ (u : Part). all_of (is_part u) ps ≡ true) e l) p) Forall₂.nil)

-- the lists of a record ---------------------------------------------------------------------------------------------------

module _ (p : Str) where
  values-closed : (t : List Str) → StartsWith openers t → (s : List Str) → the_values p (s ++ t) ≡ the_values p s
  unfolding the_values openers all_of
  values-closed t h s = listed-closed nothing 5 _ t (λ x xs. refl) (starts-ends nothing 5 openers refl t h) s

  members-closed : (t : List Str) → StartsWith openers t → (s : List Str) → the_members p (s ++ t) ≡ the_members p s
  unfolding the_members openers all_of
  members-closed t h s = listed-closed nothing 7 _ t (λ x xs. refl) (starts-ends nothing 7 openers refl t h) s

  fields-closed : (l : List ℕ) → Closes nothing 12 l → Closes a_key 11 l → (t : List Str) → StartsWith l t → (s : List Str)
      → the_fields p (s ++ t) ≡ the_fields p s
  unfolding the_fields the_keys
  fields-closed l e f t h s =
      listed-closed a_key 11 _ t (λ x xs.
      ap (λ (k : List Key). field_of p (field_at x) (first k)) (listed-closed nothing 12 _ t (λ y ys. refl) (starts-ends nothing 12 l e t h) xs))
      (starts-ends a_key 11 l f t h) s

  fields_open : (t : List Str) → StartsWith openers t → (s : List Str) → the_fields p (s ++ t) ≡ the_fields p s
  unfolding openers all_of
  fields_open t h s = fields-closed openers refl refl t h s

  fields-variant : (t : List Str) → StartsWith (part_number variant ∷ []) t → (s : List Str) → the_fields p (s ++ t) ≡ the_fields p s
  unfolding all_of part_number
  fields-variant t h s = fields-closed (10 ∷ []) refl refl t h s

  variants-closed : (t : List Str) → StartsWith openers t → (s : List Str) → the_variants p (s ++ t) ≡ the_variants p s
  unfolding the_variants openers all_of
  variants-closed t h s =
      listed-closed a_field 10 _ t (λ x xs. ap (variant_of p (variant_at x)) (fields_open t h xs)) (starts-ends a_field 10 openers refl t h) s

  -- section by section ----------------------------------------------------------------------------------------------------

  -- what a list of commands holds is what two stretches hold, the second of which begins with a section
  abbrev pub Splits : {A : Type 0} → (List Str → List A) → Type 0
  Splits f = (s t : List Str) → StartsWith openers t → f (s ++ t) ≡ f s ++ f t

  pub constants-split : Splits (the_constants p)
  unfolding the_constants
  constants-split s t h = listed-append 2 _ t (λ x xs. refl) s

  pub aliases-split : Splits (the_aliases p)
  unfolding the_aliases
  aliases-split s t h = listed-append 3 _ t (λ x xs. refl) s

  pub enums-split : Splits (the_enums p)
  unfolding the_enums
  enums-split s t h = listed-append 4 _ t (λ x xs. ap (enum_of p (enum_at x)) (values-closed t h xs)) s

  pub bitfields-split : Splits (the_bitfields p)
  unfolding the_bitfields
  bitfields-split s t h = listed-append 6 _ t (λ x xs. ap (bitfield_of p (bitfield_at x)) (members-closed t h xs)) s

  pub structs-split : Splits (the_structs p)
  unfolding the_structs
  structs-split s t h = listed-append 8 _ t (λ x xs. ap (struct_of p (struct_at x)) (fields_open t h xs)) s

  pub families-split : Splits (the_families p)
  unfolding the_families
  families-split s t h = listed-append 9 _ t (λ x xs. ap₂ (family_of p (family_at x)) (fields_open t h xs) (variants-closed t h xs)) s

  pub unstored-split : Splits (the_unstored p)
  unfolding the_unstored
  unstored-split s t h = listed-append 13 _ t (λ x xs. refl) s

  pub versions-split : Splits (the_versions p)
  unfolding the_versions
  versions-split s t h = listed-append 14 _ t (λ x xs. refl) s

  pub by-section : {A : Type 0} (f : List Str → List A) → f [] ≡ [] → Splits f → (secs : List (List Str)) → all_of is_section secs ≡ true
      → f (flatten secs) ≡ flat_map f secs
  unfolding flatten flat_map all_of
  by-section f e split [] h = e
  by-section f e split (s ∷ secs) h =
      let w = both (is_section s) (all_of is_section secs) h in
      split s (flatten secs) (sections-start secs w.1) ∙ ap (λ (l : List _). f s ++ l) (by-section f e split secs w.1)

  -- with parts moved ------------------------------------------------------------------------------------------------------

  pub moved-enums : (s t : List Str) → PartsMoved s t → Forall₂ PermutedEnum (the_enums p s) (the_enums p t)
  unfolding the_enums the_values all_of any section_number part_number field_numbers body_numbers own_numbers
  moved-enums =
      moved_listed 4 _ PermutedEnum (λ e. record { name = refl; size = refl; api = refl; since = refl; values = Permᴰ.refl e.values }) value refl refl
      (each_part (λ (j : Part). (j ≡ value) ⊎ Without 4 (own_numbers j)) (inl refl) (inr refl) (inr refl)) (λ x fs ps qs i j q.
      record { name = refl; size = refl; api = refl; since = refl; values = parts-perm nothing 5 _ value refl refl (λ t h y ys. refl) fs ps qs i j q })

  pub moved-bitfields : (s t : List Str) → PartsMoved s t → Forall₂ PermutedBits (the_bitfields p s) (the_bitfields p t)
  unfolding the_bitfields the_members all_of any section_number part_number field_numbers body_numbers own_numbers
  moved-bitfields =
      moved_listed 6 _ PermutedBits (λ e. record { name = refl; size = refl; since = refl; members = Permᴰ.refl e.members }) member refl refl
      (each_part (λ (j : Part). (j ≡ member) ⊎ Without 6 (own_numbers j)) (inr refl) (inl refl) (inr refl)) (λ x fs ps qs i j q.
      record { name = refl; size = refl; since = refl; members = parts-perm nothing 7 _ member refl refl (λ t h y ys. refl) fs ps qs i j q })

  -- what the variants give, in another order
  variants-perm : (fs : List Str) (ps qs : List (List Str)) → are_commands (field_numbers variant) fs ≡ true → all_of (is_part variant) ps ≡ true
      → Permᴰ ps qs
      → Permᴰ (the_variants p (fs ++ flatten ps)) (the_variants p (fs ++ flatten qs))
  unfolding the_variants all_of any part_number field_numbers body_numbers
  variants-perm = parts-perm a_field 10 _ variant refl refl (λ t h x xs. ap (variant_of p (variant_at x)) (fields-variant t h xs))

  -- a family's own fields come before its variants
  common-fields : (fs : List Str) (ps : List (List Str)) → all_of (is_part variant) ps ≡ true → the_fields p (fs ++ flatten ps) ≡ the_fields p fs
  common-fields fs ps h = fields-variant (flatten ps) (parts-start variant ps h) fs

  pub moved-families : (s t : List Str) → PartsMoved s t → Forall₂ PermutedFamily (the_families p s) (the_families p t)
  unfolding the_families all_of any section_number part_number field_numbers body_numbers own_numbers
  moved-families =
      moved_listed 9 _ PermutedFamily (λ m. same m refl (Permᴰ.refl m.variants)) variant refl refl
      (each_part (λ (j : Part). (j ≡ variant) ⊎ Without 9 (own_numbers j)) (inr refl) (inr refl) (inl refl)) (λ x fs ps qs i j q. record {
        name = refl;
        disc_field = refl;
        disc_type = refl;
        len_field = refl;
        len_type = refl;
        standalone = refl;
        common = common-fields fs ps j ∙ sym (common-fields fs qs (all-perm (is_part variant) q j));
        variants = variants-perm fs ps qs i j q;
      })
    where
      same : (m : Family) → m.common ≡ m.common → Permᴰ m.variants m.variants → PermutedFamily m m
      same m e v = record { name = refl; disc_field = refl; disc_type = refl; len_field = refl; len_type = refl; standalone = refl; common = e; variants = v }

  -- the types that commands open, each with its fields --------------------------------------------------------------------

  unfoldable pub the_opened : List Str → List (List Field)
  the_opened [] = []
  the_opened (x ∷ xs) =
      cond (eqb (number x) 9) ((fam_prefix (family_of p (family_at x) [] []) ++ the_fields p xs) ∷ the_opened xs)
      (cond (eqb (number x) 8 || eqb (number x) 10) (the_fields p xs ∷ the_opened xs) (the_opened xs))

  opened-append : (t : List Str) → ((s : List Str) → the_fields p (s ++ t) ≡ the_fields p s) → (s : List Str)
      → the_opened (s ++ t) ≡ the_opened s ++ the_opened t
  unfolding the_opened
  opened-append t same [] = refl
  opened-append t same (x ∷ xs) = go (eqb (number x) 9) (eqb (number x) 8 || eqb (number x) 10) (same xs) (opened-append t same xs)
    where
      front : List Field
      front = fam_prefix (family_of p (family_at x) [] [])

      go : (u v : Bool) → the_fields p (xs ++ t) ≡ the_fields p xs → the_opened (xs ++ t) ≡ the_opened xs ++ the_opened t
          → cond u ((front ++ the_fields p (xs ++ t)) ∷ the_opened (xs ++ t)) (cond v (the_fields p (xs ++ t) ∷ the_opened (xs ++ t)) (the_opened (xs ++ t)))
          ≡ cond u ((front ++ the_fields p xs) ∷ the_opened xs) (cond v (the_fields p xs ∷ the_opened xs) (the_opened xs)) ++ the_opened t
      go true v e r = ap₂ (λ (f : List Field) (l : List (List Field)). (front ++ f) ∷ l) e r
      go false true e r = ap₂ (λ (f : List Field) (l : List (List Field)). f ∷ l) e r
      go false false e r = r

  pub opened-split : Splits the_opened
  opened-split s t h = opened-append t (fields_open t h) s

  opened-parts : (ps : List (List Str)) → all_of (is_part variant) ps ≡ true → the_opened (flatten ps) ≡ flat_map the_opened ps
  unfolding all_of flatten flat_map the_opened
  opened-parts [] h = refl
  opened-parts (v ∷ ps) h =
      let w = both (is_part variant v) (all_of (is_part variant) ps) h in
      opened-append (flatten ps) (fields-variant (flatten ps) (parts-start variant ps w.1)) v
      ∙ ap (λ (l : List (List Field)). the_opened v ++ l) (opened-parts ps w.1)

  opened-none : (l : List ℕ) → Without 8 l → Without 9 l → Without 10 l → (xs : List Str) → are_commands l xs ≡ true → the_opened xs ≡ []
  unfolding the_opened are_commands all_of
  opened-none l h i j [] c = refl
  opened-none l h i j (x ∷ xs) c =
      let w = both (is_command l x) _ c in
      let k = its-number l x w.0 in
      rw (differs l 9 i (number x) k, differs l 8 h (number x) k, differs l 10 j (number x) k) (opened-none l h i j xs w.1)

  none-opened : (k : Part) → Without 8 (own_numbers k) → Without 9 (own_numbers k) → Without 10 (own_numbers k) → (x : Str) (fs : List Str)
      (ps qs : List (List Str)) → is_command (section_number k ∷ []) x ≡ true → are_commands (field_numbers k) fs ≡ true → all_of (is_part k) ps ≡ true → Permᴰ ps qs
      → the_opened (x ∷ fs ++ flatten ps) ≡ the_opened (x ∷ fs ++ flatten qs)
  none-opened k a b c x fs ps qs i j l q = none ps l ∙ sym (none qs (all-perm (is_part k) q l))
    where
      none : (rs : List (List Str)) → all_of (is_part k) rs ≡ true → the_opened (x ∷ fs ++ flatten rs) ≡ []
      none rs m = opened-none (own_numbers k) a b c (x ∷ fs ++ flatten rs) (moved-commands k x (fs ++ flatten rs) i (body-commands k fs rs j m))

  opened-body : (x : Str) (fs : List Str) (ps : List (List Str)) → number x ≡ 9 → all_of (is_part variant) ps ≡ true
      → the_opened (x ∷ fs ++ flatten ps) ≡ (fam_prefix (family_of p (family_at x) [] []) ++ the_fields p fs) ∷ (the_opened fs ++ flat_map the_opened ps)
  unfolding the_opened
  opened-body x fs ps e k =
      let closed = fields-variant (flatten ps) (parts-start variant ps k) in
      rw (eq-eqb (number x) 9 e)
      (ap₂ (λ (f : List Field) (l : List (List Field)). (fam_prefix (family_of p (family_at x) [] []) ++ f) ∷ l) (closed fs)
      (opened-append (flatten ps) closed fs ∙ ap (λ (l : List (List Field)). the_opened fs ++ l) (opened-parts ps k)))

  pub moved-opened : (s t : List Str) → PartsMoved s t → Permᴰ (the_opened s) (the_opened t)
  unfolding all_of any section_number part_number field_numbers own_numbers
  moved-opened s t (as-it-is e) = perm-eq (ap the_opened e)
  moved-opened s t (parts-moved value x fs ps qs i j l q) = perm-eq (none-opened value refl refl refl x fs ps qs i j l q)
  moved-opened s t (parts-moved member x fs ps qs i j l q) = perm-eq (none-opened member refl refl refl x fs ps qs i j l q)
  moved-opened s t (parts-moved variant x fs ps qs i j l q) =
      let n = is_number 9 x i in
      perm-by (opened-body x fs ps n l) (opened-body x fs qs n (all-perm (is_part variant) q l))
      (Permᴰ.cons refl (perm-append (Permᴰ.refl (the_opened fs)) (perm-flat_map the_opened q)))
