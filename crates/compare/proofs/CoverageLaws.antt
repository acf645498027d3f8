-- What covers a type: its name before the first "::", the families that stand alone, and the entry that is found. Assumes nothing.
use Rattle.std.specs.Prelude.{Option, Some, None}
use Prim.Native.Nat.{ℕ, suc, ◌+◌, ◌-◌, ◌*◌, ◌≤◌, ◌<◌, ◌/◌, ◌%◌}
use mathlib.Core.Path.{◌≡◌, refl, sym, ap, ap₂, subst, ◌∙◌}
use mathlib.Core.List.{List, [], ◌∷◌, ◌++◌, append-nil}
use mathlib.Core.Bool.{Bool, true, false, ◌&&◌, not, cond, false≢true}
use native.Mathlib.Numerals.{add-one}
use native.Mathlib.Omega.{arith}
use lib.Dec.{eqb}
use lib.ListN.{length, take, drop, get_or, drop_of_length-le}
use lib.Seq.{take_all, take-suc, drop-cons, append_snoc}
use borrow.Author.Tests.{eqb-true, not-true, le-ltb}
use Rattle.record.specs.Base.{Str, eqs}
use Rattle.record.specs.Write.{Puts}
use Rattle.record.specs.Steps.{families_at}
use Rattle.record.specs.Index.{Alone}
use Rattle.record.specs.Owner.{owner_of}
use Rattle.record.specs.Leads.{LeadTable}
use Rattle.record.specs.Versioned.{InSlots}
use Rattle.record.specs.References.{types_at}
use Rattle.record.specs.Ownership.{Known, IsOwner}
use Rattle.record.specs.declared.text.Text.{Text}
use Rattle.record.specs.declared.versioned.Versioned.{Versioned}
use Rattle.record.proofs.Basics.{both, eqs→eq, eqs-refl}
use Rattle.layout.specs.Layout.{variant_name}
use Rattle.layout.specs.Handles.{family_part, place_part, name_at, type_name}
use Rattle.layout.specs.Names.{name_of, stretches_of}
use Rattle.layout.specs.declared.names.TypeName.{TypeName}
use Rattle.layout.proofs.NameLaws.{stretches-read}
use Rattle.definition.specs.Coverage.{owning, stands_alone}
use Rattle.compare.specs.CoverTable.{colons_first, one_family, cover_in, stretch_in, cover_meant, Packed, Owners, Knows}
use Rattle.compare.proofs.LayoutLaws.{read_back}
use Rattle.record.specs.Lists.{opt_of}

-- the name before its first two colons ------------------------------------------------------------------------------------

colons-owning : (x : Str) → colons_first x ≡ true → owning x ≡ []
unfolding colons_first owning
colons-owning [] h = absurd (false≢true h)
colons-owning (a ∷ []) h = absurd (false≢true (both (eqb a 58) false h).1)
colons-owning (a ∷ b ∷ s) h = rw h

other-owning : (a : ℕ) (x : Str) → colons_first (a ∷ x) ≡ false → owning (a ∷ x) ≡ a ∷ owning x
unfolding colons_first owning
other-owning a [] h = refl
other-owning a (b ∷ s) h = rw h

module _ (s : Str) (i : ℕ) (e : owning s ≡ take i s ++ owning (drop i s)) where
  pub cut-here : (x y : Str) (b : Bool) → x ≡ drop i s → b ≡ colons_first x → b ≡ true → y ≡ take i s → y ≡ owning s
  cut-here x y b f g h k =
      k ∙ sym (e ∙ ap (λ (z : Str). take i s ++ z) (colons-owning (drop i s) (ap colons_first (sym f) ∙ sym g ∙ h)) ∙ append-nil (take i s))

  pub cut_on : (x : Str) (b : Bool) → i < length s → x ≡ drop i s → b ≡ colons_first x → b ≡ false → owning s ≡ take (i + 1) s ++ owning (drop (i + 1) s)
  cut_on x b l f g h =
      let d : drop i s ≡ get_or s i 0 ∷ drop (suc i) s = drop-cons s i 0 l in
      let o : owning (drop i s) ≡ get_or s i 0 ∷ owning (drop (suc i) s) =
      ap owning d ∙ other-owning (get_or s i 0) (drop (suc i) s) (ap colons_first (sym d ∙ sym f) ∙ sym g ∙ h) in
      rw add-one
      (e ∙ ap (λ (z : Str). take i s ++ z) o ∙ sym (append_snoc (take i s) (get_or s i 0) (owning (drop (suc i) s)))
      ∙ ap (λ (z : Str). z ++ owning (drop (suc i) s)) (sym (take-suc s i 0 l)))

  pub cut-end : length s ≤ i → s ≡ owning s
  unfolding owning
  cut-end h =
      sym (e ∙ ap (λ (z : Str). take i s ++ owning z) (drop_of_length-le s {i = i} h) ∙ append-nil (take i s) ∙ take_all i s h)

pub ruleset cut-laws = (cut-here, cut-end)

-- variants of one family have one such name -------------------------------------------------------------------------------

variant-owning : (f a b : Str) → owning (variant_name f a) ≡ owning (variant_name f b)
unfolding owning variant_name
variant-owning [] a b = refl
variant-owning (x ∷ []) a b = refl
variant-owning (x ∷ y ∷ f) a b = ap (λ (z : Str). cond (eqb x 58 && eqb y 58) [] (x ∷ z)) (variant-owning (y ∷ f) a b)

one-owning : (s p : Str) (g h : ℕ) → one_family g h ≡ true → owning (type_name s p g) ≡ owning (type_name s p h)
unfolding one_family type_name
one-owning s p g h e =
    let t = both (not (eqb (family_part g) 0)) (eqb (family_part g) (family_part h)) e in
    let z : eqb (family_part g) 0 ≡ false = not-true (eqb (family_part g) 0) t.0 in
    let q : family_part h ≡ family_part g = sym (eqb-true (family_part g) (family_part h) t.1) in
    rw (q, z) (variant-owning (name_at s p (family_part g - 1)) (name_at s p (place_part g)) (name_at s p (place_part h)))

-- names that are put into buffers ------------------------------------------------------------------------------------------

module _ (s p : Str) where
  owning-read : (h : ℕ) (n : TypeName) {a a' : Str} {m : ℕ} (x : Str) → n ≡ stretches_of s h → Puts a 0 (name_of p n) a' m → m ≤ 0 + 512 → length a ≡ 512
      → x ≡ owning (take m a') → x ≡ owning (type_name s p h)
  owning-read h n x e f k l g = g ∙ ap owning (read_back f (omega arith) l (omega arith) ∙ ap (name_of p) e ∙ stretches-read s p h)

  pub owning-family : (g h : ℕ) (b : Bool) → b ≡ one_family g h → b ≡ true → true ≡ eqs (owning (type_name s p g)) (owning (type_name s p h))
  owning-family g h b e t = sym (ap (λ (x : Str). eqs x (owning (type_name s p h))) (one-owning s p g h (sym e ∙ t)) ∙ eqs-refl (owning (type_name s p h)))

  pub owning-same : (g h : ℕ) (n o : TypeName) {a a' b b' : Str} {m k : ℕ} (x y : Str) (t : Bool) → n ≡ stretches_of s g → Puts a 0 (name_of p n) a' m → m ≤ 0 + 512 → length a ≡ 512
      → o ≡ stretches_of s h → Puts b 0 (name_of p o) b' k → k ≤ 0 + 512 → length b ≡ 512 → x ≡ owning (take m a') → y ≡ owning (take k b') → t ≡ eqs x y
      → t ≡ eqs (owning (type_name s p g)) (owning (type_name s p h))
  owning-same g h n o x y t e f i l e₂ f₂ i₂ l₂ u v z = z ∙ ap₂ eqs (owning-read g n x e f i l u) (owning-read h o y e₂ f₂ i₂ l₂ v)

  pub entry_read : (h : ℕ) (n : TypeName) {a a' : Str} {m : ℕ} (x : Str) (roots : Versioned) (marks index leads : List ℕ) (r : ℕ) → n ≡ stretches_of s h → Puts a 0 (name_of p n) a' m → m ≤ 0 + 512 → length a ≡ 512
      → x ≡ owning (take m a') → (Owners s p roots marks index leads → cover_meant p r ≡ cover_in (types_at s p) x) → Owners s p roots marks index leads → cover_meant p r ≡ cover_in (types_at s p) (owning (type_name s p h))
  entry_read h n x roots marks index leads r e f k l g c o = c o ∙ ap (cover_in (types_at s p)) (owning-read h n x e f k l g)

-- entries --------------------------------------------------------------------------------------------------------------------

pub packed-is : (t : Text) → t.start < 65536 → t.len < 256 → Packed t (t.start * 256 + t.len + 2)
unfolding stretch_in
packed-is t h k =
    let a : (t.start * 256 + t.len + 2 - 2) / 256 % 65536 ≡ t.start = omega arith in
    let b : (t.start * 256 + t.len + 2 - 2) % 256 ≡ t.len = omega arith in
    record { owned = omega arith; stretch = λ i. record { start = a i; len = b i } }

module _ (s p n : Str) (roots : Versioned) (marks index leads : List ℕ) (o : Owners s p roots marks index leads) (b : Bool) (alone : Alone s p index n b) where
  e : b ≡ stands_alone (families_at s p 0) n
  unfolding stands_alone
  e = alone.is o.known.index

  pub entry-alone : b ≡ true → cover_meant p 0 ≡ cover_in (types_at s p) n
  unfolding cover_meant cover_in
  entry-alone t = rw (← e, t)

  module _ (t : b ≡ false) (r : Option Text) (a : Known s p marks index → InSlots s p roots → LeadTable s p marks leads → IsOwner s p n r) where
    owner-is : opt_of p r ≡ owner_of (types_at s p) n
    owner-is = (a o.known o.slots o.leads).owner

    pub entry-nobody : r ≡ None → cover_meant p 1 ≡ cover_in (types_at s p) n
    unfolding cover_meant cover_in
    entry-nobody m = rw (← e, t) (ap Some (ap (opt_of p) (sym m) ∙ owner-is))

    pub entry-owned : (x : Text) (k : ℕ) → r ≡ Some x → Packed x k → cover_meant p k ≡ cover_in (types_at s p) n
    unfolding cover_meant cover_in
    entry-owned x k m q = rw (← e, t, le-ltb k 2 q.owned, q.stretch) (ap Some (ap (opt_of p) (sym m) ∙ owner-is))

pub ruleset named-laws = (entry-alone, entry-nobody, entry-owned)

module _ (s p : Str) (last : Option (ℕ × ℕ)) (h : ℕ) where
  pub after-other : (roots : Versioned) (marks index leads : List ℕ) (r : ℕ) → (Owners s p roots marks index leads → cover_meant p r ≡ cover_in (types_at s p) (owning (type_name s p h))) → Owners s p roots marks index leads
      → cover_meant p r ≡ cover_in (types_at s p) (owning (type_name s p h))
  after-other roots marks index leads r f o = f o

  pub after_same : (g n : ℕ) (b : Bool) → last ≡ Some (g, n) → Knows s p last → b ≡ eqs (owning (type_name s p g)) (owning (type_name s p h)) → b ≡ true
      → cover_meant p n ≡ cover_in (types_at s p) (owning (type_name s p h))
  after_same g n b m k e t =
      subst (λ (l : Option (ℕ × ℕ)). Knows s p l) m k ∙ ap (cover_in (types_at s p)) (eqs→eq (owning (type_name s p g)) (owning (type_name s p h)) (sym e ∙ t))

pub ruleset after-laws = (after-other, after_same)
