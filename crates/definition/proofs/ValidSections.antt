-- Sections are valid in any order, and so are the parts of a section. Assumes nothing.
use mathlib.Core.Path.{◌≡◌, refl, sym, ◌∙◌, ap, ap₂}
use mathlib.Core.List.{List, [], ◌∷◌, ◌++◌, flatten, Memᴰ, Forall₂, Permᴰ}
use mathlib.Core.Bool.{Bool, true, false, ◌&&◌, ◌||◌, not, and_assoc, or-true}
use Prim.Native.Nat.{ℕ}
use lib.Dec.{eqb}
use borrow.Author.Tests.{eq-eqb}
use Rattle.record.specs.Base.{Str, any}
use Rattle.record.specs.Judge.{may_stand, follows, parent_after}
use Rattle.record.specs.declared.command.Parent.{Parent}
use Rattle.record.specs.declared.command.Parent.TheVariants.{NoParent, InFamily}
use Rattle.record.specs.declared.refusal.Side.{Side}
use Rattle.record.proofs.Basics.{both}
use Rattle.definition.specs.Pass.{all_of}
use Rattle.definition.specs.Sections.{number, is_command, are_commands, openers, insiders, is_section, Part, value, member, variant, section_number, part_number, field_numbers, is_part, PartsMoved, as-it-is, parts-moved, Shuffled}
use Rattle.definition.proofs.Lists.{all-of, all-perm}
use Rattle.definition.proofs.CommandStreams.{one_of, only, its-number, is_number, not-zero, section-whole, EachNumber, no_number, and_one, each-one}
use Rattle.definition.proofs.Validity.{cursor_after, faultless, valid}
use Rattle.definition.proofs.SectionLists.{again, differs, each_part, body_numbers, own_numbers, own-commands, part-commands, StartsWith, sections-start, parts-start}

module _ (side : Side) (pool : Str) where
  -- a stretch and what stands behind it, where that is as valid as it is after a given command within a given parent
  module _ (Inv : ℕ → Parent → Type 0) (t : List Str) (l₀ : ℕ) (p₀ : Parent) (going : (l : ℕ) (p : Parent) → Inv l p → eqb l 0 ≡ false)
      (same : (l : ℕ) (p : Parent) → Inv l p → valid side pool l p t ≡ valid side pool l₀ p₀ t) where
    valid-append : (s : List Str) → ((x : Str) → Memᴰ x s → (l : ℕ) (p : Parent) → Inv l p → Inv (number x) (parent_after p (number x)))
        → (l : ℕ) (p : Parent) → Inv l p → valid side pool l p (s ++ t) ≡ (valid side pool l p s && valid side pool l₀ p₀ t)
    unfolding valid
    valid-append [] keep l p i = same l p i ∙ sym (ap (λ (b : Bool). not b && valid side pool l₀ p₀ t) (going l p i))
    valid-append (x ∷ xs) keep l p i =
        ap (λ (b : Bool). may_stand (cursor_after l p) (number x) && (faultless side pool x && b))
        (valid-append xs (λ y m. keep y (Memᴰ.tail m)) (number x) (parent_after p (number x)) (keep x (Memᴰ.head refl) l p i))
        ∙ ap (λ (b : Bool). may_stand (cursor_after l p) (number x) && b) (sym (and_assoc (faultless side pool x) _ _))
        ∙ sym (and_assoc (may_stand (cursor_after l p) (number x)) _ _)

  -- sections --------------------------------------------------------------------------------------------------------------

  -- a command that begins a section may stand after any other, and what comes behind it goes by it alone
  opener-stands : (b : ℕ) → any (eqb b) openers ≡ true → (l : ℕ) (p : Parent) → eqb l 0 ≡ false → may_stand (cursor_after l p) b ≡ true
  unfolding may_stand openers all_of
  opener-stands b h l p z =
      rw (
        differs openers 1 refl b h,
        differs openers 5 refl b h,
        differs openers 7 refl b h,
        differs openers 10 refl b h,
        differs openers 11 refl b h,
        differs openers 12 refl b h,
        z,
      )

  opener-parent : (b : ℕ) → any (eqb b) openers ≡ true → (p q : Parent) → parent_after p b ≡ parent_after q b
  unfolding parent_after openers all_of
  opener-parent b h p q = rw (differs openers 10 refl b h, differs openers 11 refl b h, differs openers 12 refl b h)

  valid-anywhere : (t : List Str) → StartsWith openers t → (l : ℕ) (p : Parent) → eqb l 0 ≡ false → valid side pool l p t ≡ valid side pool 1 NoParent t
  unfolding valid
  valid-anywhere [] h l p z = ap not z
  valid-anywhere (x ∷ xs) h l p z =
      ap₂ (λ (a : Bool) (q : Parent). a && (faultless side pool x && valid side pool (number x) q xs))
      (opener-stands (number x) h l p z ∙ sym (opener-stands (number x) h 1 NoParent refl)) (opener-parent (number x) h p NoParent)

  -- a section by itself
  abbrev pub valid_alone : List Str → Bool
  valid_alone s = valid side pool 1 NoParent s

  pub valid-sections : (secs : List (List Str)) → all_of is_section secs ≡ true → valid_alone (flatten secs) ≡ all_of valid_alone secs
  unfolding all_of flatten valid
  valid-sections [] h = refl
  valid-sections (s ∷ secs) h =
      let w = both (is_section s) (all_of is_section secs) h in
      valid-append (λ (l : ℕ) (p : Parent). eqb l 0 ≡ false) (flatten secs) 1 NoParent (λ l p i. i) (valid-anywhere (flatten secs) (sections-start secs w.1))
      s (λ x m l p i. not-zero (section-whole s w.0 x m)) 1 NoParent refl ∙ ap (λ (b : Bool). valid_alone s && b) (valid-sections secs w.1)

  -- the parts of a section ------------------------------------------------------------------------------------------------

  -- what is open inside such a section
  parent_of : Part → Parent
  parent_of value = NoParent
  parent_of member = NoParent
  parent_of variant = InFamily

  section-parent : (k : Part) → parent_after NoParent (section_number k) ≡ parent_of k
  unfolding parent_after section_number parent_of
  section-parent = each_part (λ (k : Part). parent_after NoParent (section_number k) ≡ parent_of k) refl refl refl

  stays_open : (k : Part) → EachNumber (λ (b : ℕ). parent_after (parent_of k) b ≡ parent_of k) (body_numbers k)
  unfolding parent_after part_number field_numbers body_numbers parent_of
  stays_open =
      each_part (λ (k : Part). EachNumber (λ (b : ℕ). parent_after (parent_of k) b ≡ parent_of k) (body_numbers k))
      (and_one refl no_number) (and_one refl no_number) (and_one refl (and_one refl (and_one refl no_number)))

  part-stands : (k : Part) → all_of (λ (l : ℕ). may_stand (cursor_after l (parent_of k)) (part_number k)) (own_numbers k) ≡ true
  unfolding may_stand follows section_number part_number field_numbers own_numbers parent_of all_of
  part-stands = each_part (λ (k : Part). all_of (λ (l : ℕ). may_stand (cursor_after l (parent_of k)) (part_number k)) (own_numbers k) ≡ true) refl refl refl

  only-body : (k : Part)
      → all_of (λ (l : ℕ). all_of (λ (b : ℕ). not (may_stand (cursor_after l (parent_of k)) b) || any (eqb b) (body_numbers k)) insiders) (own_numbers k) ≡ true
  unfolding may_stand follows section_number part_number field_numbers body_numbers own_numbers parent_of insiders all_of any
  only-body =
      each_part (λ (k : Part).
      all_of (λ (l : ℕ). all_of (λ (b : ℕ). not (may_stand (cursor_after l (parent_of k)) b) || any (eqb b) (body_numbers k)) insiders) (own_numbers k) ≡ true)
      refl refl refl

  all-going : (k : Part) → all_of (λ (l : ℕ). not (eqb l 0)) (own_numbers k) ≡ true
  unfolding section_number part_number field_numbers own_numbers all_of
  all-going = each_part (λ (k : Part). all_of (λ (l : ℕ). not (eqb l 0)) (own_numbers k) ≡ true) refl refl refl

  module _ (k : Part) where
    -- inside the section: after one of its commands
    Inside : ℕ → Parent → Type 0
    Inside l p = (any (eqb l) (own_numbers k) ≡ true) × (p ≡ parent_of k)

    inside-going : (l : ℕ) (p : Parent) → Inside l p → eqb l 0 ≡ false
    unfolding Inside
    inside-going l p i = differs (own_numbers k) 0 (all-going k) l i.0

    at-section : any (eqb (section_number k)) (own_numbers k) ≡ true
    unfolding any own_numbers
    at-section = rw (eq-eqb (section_number k) (section_number k) refl)

    inside-next : (x : Str) → any (eqb (number x)) (body_numbers k) ≡ true → (l : ℕ) (p : Parent) → Inside l p → Inside (number x) (parent_after p (number x))
    unfolding Inside any own_numbers body_numbers
    inside-next x b l p i = (
      ap (λ (i : Bool). eqb (number x) (section_number k) || i) b ∙ or-true (eqb (number x) (section_number k)),
      ap (λ (q : Parent). parent_after q (number x)) i.1
          ∙ each-one (λ (j : ℕ). parent_after (parent_of k) j ≡ parent_of k) (body_numbers k) (stays_open k) (number x) b,
    )

    inside_on : (s : List Str) → are_commands (body_numbers k) s ≡ true → (x : Str) → Memᴰ x s → (l : ℕ) (p : Parent) → Inside l p
        → Inside (number x) (parent_after p (number x))
    unfolding are_commands
    inside_on s c x m = inside-next x (its-number (body_numbers k) x (all-of (is_command (body_numbers k)) s c m))

    -- parts, after any command of the section
    valid-inside : (t : List Str) → StartsWith (part_number k ∷ []) t → (l : ℕ) (p : Parent) → Inside l p
        → valid side pool l p t ≡ valid side pool (section_number k) (parent_of k) t
    unfolding valid Inside
    valid-inside [] h l p i = ap not (inside-going l p i) ∙ sym (ap not (inside-going (section_number k) (parent_of k) (at-section, refl)))
    valid-inside (x ∷ xs) h l p i =
        ap₂ (λ (a : Bool) (q : Parent). a && (faultless side pool x && valid side pool (number x) (parent_after q (number x)) xs))
        (ap (λ (q : Parent). may_stand (cursor_after l q) (number x)) i.1 ∙ stands l i.0 ∙ sym (stands (section_number k) at-section)) i.1
      where
        stands : (j : ℕ) → any (eqb j) (own_numbers k) ≡ true → may_stand (cursor_after j (parent_of k)) (number x) ≡ true
        stands j e =
            ap (may_stand (cursor_after j (parent_of k))) (only (part_number k) (number x) h)
            ∙ one_of (λ (i : ℕ). may_stand (cursor_after i (parent_of k)) (part_number k)) (own_numbers k) (part-stands k) j e

    -- only commands of the section may stand in it
    body-valid : (l : ℕ) (xs : List Str) → any (eqb l) (own_numbers k) ≡ true → are_commands insiders xs ≡ true → valid side pool l (parent_of k) xs ≡ true
        → are_commands (body_numbers k) xs ≡ true
    unfolding are_commands all_of valid Inside
    body-valid l [] h c v = refl
    body-valid l (x ∷ xs) h c v =
        let i = both (is_command insiders x) _ c in
        let m = both (may_stand (cursor_after l (parent_of k)) (number x)) _ v in
        let o = one_of (λ (b : ℕ). not (may_stand (cursor_after l (parent_of k)) b) || any (eqb b) (body_numbers k)) insiders
        (one_of (λ (j : ℕ). all_of (λ (b : ℕ). not (may_stand (cursor_after j (parent_of k)) b) || any (eqb b) (body_numbers k)) insiders) (own_numbers k) (only-body k) l h)
        (number x) (its-number insiders x i.0) in
        let b : any (eqb (number x)) (body_numbers k) ≡ true = sym (ap (λ (t : Bool). not t || any (eqb (number x)) (body_numbers k)) m.0) ∙ o in
        let next = inside-next x b l (parent_of k) (h, refl) in
        rw (again insiders (body_numbers k) x i.0 b)
        (body-valid (number x) xs next.0 i.1
        (sym (ap (λ (q : Parent). valid side pool (number x) q xs) next.1) ∙ (both (faultless side pool x) _ m.1).1))

    -- after the section's first command
    abbrev valid_within : List Str → Bool
    valid_within s = valid side pool (section_number k) (parent_of k) s

    valid-body : (s : List Str) (ps : List (List Str)) → are_commands (body_numbers k) s ≡ true → all_of (is_part k) ps ≡ true
        → valid_within (s ++ flatten ps) ≡ (valid_within s && valid_within (flatten ps))
    unfolding Inside
    valid-body s ps c h =
        valid-append Inside (flatten ps) (section_number k) (parent_of k) inside-going (valid-inside (flatten ps) (parts-start k ps h)) s (inside_on s c)
        (section_number k) (parent_of k) (at-section, refl)

    valid-parts : (ps : List (List Str)) → all_of (is_part k) ps ≡ true → valid_within (flatten ps) ≡ all_of valid_within ps
    unfolding all_of flatten valid
    valid-parts [] h = ap not (differs (own_numbers k) 0 (all-going k) (section_number k) at-section)
    valid-parts (v ∷ ps) h =
        let w = both (is_part k v) (all_of (is_part k) ps) h in
        valid-body v ps (part-commands k v w.0) w.1 ∙ ap (λ (b : Bool). valid_within v && b) (valid-parts ps w.1)

    parts-valid : (fs : List Str) (ps qs : List (List Str)) → are_commands (field_numbers k) fs ≡ true → all_of (is_part k) ps ≡ true → Permᴰ ps qs
        → valid_within (fs ++ flatten ps) ≡ true → valid_within (fs ++ flatten qs) ≡ true
    parts-valid fs ps qs j l q h =
        let w = both (valid_within fs) _ (sym (split ps l) ∙ h) in
        split qs (all-perm (is_part k) q l) ∙ ap (λ (b : Bool). b && all_of valid_within qs) w.0 ∙ all-perm valid_within q w.1
      where
        split : (rs : List (List Str)) → all_of (is_part k) rs ≡ true → valid_within (fs ++ flatten rs) ≡ (valid_within fs && all_of valid_within rs)
        split rs h = valid-body fs rs (own-commands k fs j) h ∙ ap (λ (b : Bool). valid_within fs && b) (valid-parts rs h)

  -- what stands in a valid section with parts
  pub section-body : (k : Part) (x : Str) (xs : List Str) → is_section (x ∷ xs) ≡ true → number x ≡ section_number k → valid_alone (x ∷ xs) ≡ true
      → are_commands (body_numbers k) xs ≡ true
  unfolding is_section valid
  section-body k x xs h e v =
      let u = both (may_stand (cursor_after 1 NoParent) (number x)) _ v in
      let w = both (faultless side pool x) _ u.1 in
      body-valid k (section_number k) xs (at-section k) (both (is_command openers x) _ h).1
      (sym (ap (λ (j : ℕ). valid side pool j (parent_after NoParent j) xs) e ∙ ap (λ (p : Parent). valid side pool (section_number k) p xs) (section-parent k)) ∙ w.1)

  -- after a command of a known number, within what it opens
  valid-after : (b : ℕ) (q : Parent) → parent_after NoParent b ≡ q → (x : Str) (xs ys : List Str) → number x ≡ b
      → (valid side pool b q xs ≡ true → valid side pool b q ys ≡ true)
      → (l : ℕ) → valid side pool l NoParent (x ∷ xs) ≡ true → valid side pool l NoParent (x ∷ ys) ≡ true
  unfolding valid
  valid-after b q o x xs ys e f l h =
      let u = both (may_stand (cursor_after l NoParent) (number x)) _ h in
      let v = both (faultless side pool x) _ u.1 in
      let g : (zs : List Str) → valid side pool (number x) (parent_after NoParent (number x)) zs ≡ valid side pool b q zs
      = λ zs. ap (λ (j : ℕ). valid side pool j (parent_after NoParent j) zs) e ∙ ap (λ (p : Parent). valid side pool b p zs) o in
      rw (u.0, v.0) (g ys ∙ f (sym (g xs) ∙ v.1))

  moved-valid : (s t : List Str) → PartsMoved s t → valid_alone s ≡ true → valid_alone t ≡ true
  moved-valid s t (as-it-is e) h = sym (ap valid_alone e) ∙ h
  moved-valid s t (parts-moved k x fs ps qs i j l q) h =
      valid-after (section_number k) (parent_of k) (section-parent k) x (fs ++ flatten ps) (fs ++ flatten qs)
      (is_number (section_number k) x i) (parts-valid k fs ps qs j l q) 1 h

  all_valid : {a b : List (List Str)} → Forall₂ PartsMoved a b → all_of valid_alone a ≡ true → all_of valid_alone b ≡ true
  unfolding all_of
  all_valid Forall₂.nil h = refl
  all_valid (Forall₂.cons {a = x} {b = y} {l₁ = a} r p) h =
      let w = both (valid_alone x) (all_of valid_alone a) h in
      rw (moved-valid x y r w.0) (all_valid p w.1)

  -- the whole stream
  pub reordered-valid : (head : Str) (secs others : List (List Str)) → is_command (1 ∷ []) head ≡ true → all_of is_section secs ≡ true
      → all_of is_section others ≡ true
      → Shuffled PartsMoved secs others → valid side pool 0 NoParent (head ∷ flatten secs) ≡ true
      → valid side pool 0 NoParent (head ∷ flatten others) ≡ true
  unfolding parent_after
  reordered-valid head secs others i j k s h =
      valid-after 1 NoParent refl head (flatten secs) (flatten others) (is_number 1 head i) (λ a.
      valid-sections others k ∙ all_valid s.related (all-perm valid_alone s.permuted (sym (valid-sections secs j) ∙ a))) 0 h
