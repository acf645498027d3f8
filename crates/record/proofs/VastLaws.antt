-- The laws of the types in the order of the stream, and of the ends of their fields. Assumes nothing.
use Rattle.std.specs.Prelude.{Option, Some, None}
use mathlib.Core.Path.{◌≡◌, refl, sym, ap, ap₂, subst, ◌∙◌}
use mathlib.Core.List.{List, [], ◌∷◌, ◌++◌}
use mathlib.Core.Bool.{Bool, true, false, ◌||◌}
use Prim.Native.Nat.{ℕ, suc, ◌+◌, ◌-◌, ◌≤◌, ◌<◌}
use native.Mathlib.Omega.{arith}
use lib.ListN.{length, get_or, drop}
use lib.Dec.{eqb, ltb, leb}
use borrow.Author.Tests.{lt-ltb, le-ltb, ne_eqb, leb-true, leb-false}
use Rattle.record.specs.Base.{Str, bytes, eqs, any, or_else}
use Rattle.record.specs.Scalars.{Scalar, prim_size}
use Rattle.record.specs.Schema.{Schema, Field, Family}
use Rattle.record.specs.Commands.{family_at, field_at, place, commands_at}
use Rattle.record.specs.Seek.{after_at, SoughtFrom}
use Rattle.record.specs.Lists.{opt_of, field_of, family_of, fields}
use Rattle.record.specs.Steps.{enums_at, fields_at, field_key_at}
use Rattle.record.specs.Kind.{kind_of, kind_among, words}
use Rattle.record.specs.Shapes.{enum_size, sized, scalar_size, size_as, shape_size, FieldLayout, place_of, places, plain, fam_prefix, limit, capped}
use Rattle.record.specs.Reading.{rec, schema_from, schema_of, opened_at, opened, large, vast}
use Rattle.record.specs.Vast.{opened_from, opened_of, opened_left, OpenedFrom, disc_size, len_size, front_end, vast_at, first_vast}
use Rattle.record.specs.declared.command as D
use Rattle.record.specs.declared.command.Cursor.{Cursor}
use Rattle.record.specs.declared.seek.Between.TheVariants.{Keys}
use Rattle.record.specs.declared.vast.TypeStep.{TypeStep}
use Rattle.record.specs.declared.vast.TypeStep.TheVariants.{NoType, Plain, Fronted}
use Rattle.record.proofs.Stream.{commands-stop, commands-next}
use Rattle.record.proofs.ListLaws.{find_none, find-hit, find-miss}
use Rattle.record.proofs.SeekLaws.{Stepped, stepped, ended-there, after-nearer}
use Rattle.record.specs.Listings.{field_list}
use Rattle.record.proofs.ListingLaws.{listing-over, listing-next}
use Rattle.record.proofs.StepLaws.{fields-over-now, fields-now}
use Rattle.record.proofs.SizeLaws.{cap-low, cap-high, keyless}
use Rattle.record.specs.declared.text.Text.{Text}

-- one step along the types ------------------------------------------------------------------------------------------------

-- the types from a place on are those from a later one
pub record Onward (s : Str) (a at : ℕ) : Type 0 where
  pub same : (p : Str) → opened_from s p a ≡ opened_from s p at
  pub on : length s - at ≤ length s - a

pub onward-here : (s : Str) (a : ℕ) → Onward s a a
onward-here s a = record { same = λ p. refl; on = omega arith }

module _ (s : Str) (a at n : ℕ) (o : Onward s a at) (e : n ≡ after_at s at) where
  pub types-end : n ≡ 0 → OpenedFrom s a NoType
  unfolding opened_from opened
  types-end z = record { list = λ p. o.same p ∙ rw (commands-stop s at (ended-there s at n e z)); left = omega arith }

  module _ (z : n ≡ 0 → ⊥) (b : ℕ) (i : b ≡ get_or s at 0) where
    t : Stepped s at n
    t = stepped s at n e z

    -- the list from here, by the command's number
    types-at : (p : Str) → opened_from s p at ≡ opened_at s p at (commands_at s n) (opened_from s p n)
    unfolding opened_from opened
    types-at p = rw (commands-next s at t.command t.cursor t.step, t.to)

    near : suc (length s - n) ≤ length s - a
    near = let h = after-nearer s at n e z in let g = o.on in omega arith

    pub types-family : (c : Cursor) (y : Str) (x : D.Family.Family) → b ≡ 9 → y ≡ drop at s → x ≡ family_at y → c ≡ place n → OpenedFrom s a (Fronted at x c)
    unfolding opened_at fields_at
    types-family c y x h d f g =
        let l = near in
        let q : c.at ≡ n = ap (λ (k : Cursor). k.at) g in
        record {
          list = λ p.
              o.same p ∙ types-at p ∙ (rw (sym i ∙ h) refl)
              ∙ ap₂ (λ (v : D.Family.Family) (j : ℕ). record { place = at; fields = fam_prefix (family_of p v [] []) ++ fields s p (commands_at s j) } ∷ opened_from s p j) (sym (f ∙ ap family_at d)) (sym q);
          left = omega arith;
        }

    module _ (w : b ≡ 9 → ⊥) (q : Bool) (v : q ≡ (eqb b 8 || eqb b 10)) where
      pub types-plain : (c : Cursor) → q ≡ true → c ≡ place n → OpenedFrom s a (Plain at c)
      unfolding opened_at fields_at
      types-plain c h g =
          let l = near in
          let k : c.at ≡ n = ap (λ (x : Cursor). x.at) g in
          record {
            list = λ p.
                o.same p ∙ types-at p ∙ (rw (← i, ne_eqb b 9 w, ← v, h) refl)
                ∙ ap (λ (j : ℕ). record { place = at; fields = fields s p (commands_at s j) } ∷ opened_from s p j) (sym k);
            left = omega arith;
          }

      pub types-skip : q ≡ false → Onward s a n
      unfolding opened_at
      types-skip h = let l = near in record { same = λ p. o.same p ∙ types-at p ∙ rw (← i, ne_eqb b 9 w, ← v, h); on = omega arith }

pub ruleset type-laws = (types-end, types-family, types-plain, types-skip)

-- the ends of fields ------------------------------------------------------------------------------------------------------

-- a sum as far as the limit: past it, or exact
module _ (a x z e : ℕ) (l : a ≤ limit) (u : z ≡ capped x) (v : e ≡ capped (a + z)) where
  pub end-past : limit < e → limit < a + x
  end-past h = go (leb x limit) refl
    where
      go : (t : Bool) → leb x limit ≡ t → limit < a + x
      go false q = let g = leb-false x limit q in omega arith
      go true q = more (leb (a + x) limit) refl
        where
          same : z ≡ x
          same = u ∙ sym (cap-low x (leb-true x limit q))

          more : (t : Bool) → leb (a + x) limit ≡ t → limit < a + x
          more false q2 = leb-false (a + x) limit q2
          more true q2 =
              let b = leb-true (a + x) limit q2 in
              let w : e ≡ a + x = v ∙ ap (λ (n : ℕ). capped (a + n)) same ∙ sym (cap-low (a + x) b) in
              absurd (omega arith)

  pub end-exact : e ≤ limit → e ≡ a + x
  end-exact h = go (leb x limit) refl
    where
      go : (t : Bool) → leb x limit ≡ t → e ≡ a + x
      go false q =
          let g = leb-false x limit q in
          let w : z ≡ limit + 1 = u ∙ sym (cap-high x g) in
          let y : e ≡ limit + 1 = v ∙ sym (cap-high (a + z) (omega arith)) in
          absurd (omega arith)
      go true q = more (leb (a + x) limit) refl
        where
          same : z ≡ x
          same = u ∙ sym (cap-low x (leb-true x limit q))

          more : (t : Bool) → leb (a + x) limit ≡ t → e ≡ a + x
          more true q2 = v ∙ ap (λ (n : ℕ). capped (a + n)) same ∙ sym (cap-low (a + x) (leb-true (a + x) limit q2))
          more false q2 =
              let w : e ≡ limit + 1 = v ∙ ap (λ (n : ℕ). capped (a + n)) same ∙ sym (cap-high (a + x) (leb-false (a + x) limit q2)) in
              absurd (omega arith)

module _ (s p : Str) (w : List Scalar) where
  -- what is left to judge: the fields at a place, the first of them at an offset
  pub record Ending (fs : List FieldLayout) (offset at : ℕ) : Type 0 where
    pub so_far : any large fs ≡ any large (places (schema_of (rec s p w)) offset (fields_at s p at))
    pub low : offset ≤ limit

  pub ending-begin : (offset at : ℕ) → offset ≤ limit → Ending (places (schema_of (rec s p w)) offset (fields_at s p at)) offset at
  ending-begin offset at h = record { so_far = refl; low = h }

  module _ (fs : List FieldLayout) (offset at : ℕ) (i : Ending fs offset at) (r : Option (ℕ × ℕ)) (f : SoughtFrom s Keys 11 at r) where
    pub ending-none : r ≡ None → false ≡ any large fs
    unfolding places any
    ending-none m = sym (i.so_far ∙ rw (fields-over-now s at None (listing-over field_list s at r f m) p refl))

    module _ (a k : ℕ) (m : r ≡ Some (a, k)) (y : Str) (d : y ≡ drop a s) (z end : ℕ) (u : z ≡ capped (shape_size (schema_of (rec s p w)) (field_of p (field_at y) None))) (v : end ≡ capped (offset + z)) where
      here : fields_at s p at ≡ field_of p (field_at y) (field_key_at s p k) ∷ fields_at s p k
      here = fields-now s at (Some (field_at y, place k)) (listing-next field_list s at r f a k m y (field_at y) (place k) d refl refl) p (field_at y) (place k) refl

      size_is : shape_size (schema_of (rec s p w)) (field_of p (field_at y) (field_key_at s p k)) ≡ shape_size (schema_of (rec s p w)) (field_of p (field_at y) None)
      unfolding shape_size
      size_is = keyless (kind_of (field_of p (field_at y) None).kind) (schema_of (rec s p w)) p (field_at y) (field_key_at s p k)

      ending_at : any large fs ≡ (ltb limit (offset + shape_size (schema_of (rec s p w)) (field_of p (field_at y) None)) || any large (places (schema_of (rec s p w)) (offset + shape_size (schema_of (rec s p w)) (field_of p (field_at y) None)) (fields_at s p k)))
      unfolding places place_of any large
      ending_at = i.so_far ∙ rw (here, size_is)

      pub ending-past : limit < end → true ≡ any large fs
      ending-past h =
          let g = end-past offset (shape_size (schema_of (rec s p w)) (field_of p (field_at y) None)) z end i.low u v h in
          sym (ending_at ∙ rw (lt-ltb limit (offset + shape_size (schema_of (rec s p w)) (field_of p (field_at y) None)) g))

      pub ending-more : end ≤ limit → Ending fs end k
      ending-more h =
          let x = end-exact offset (shape_size (schema_of (rec s p w)) (field_of p (field_at y) None)) z end i.low u v h in
          record {
            so_far = ending_at ∙ rw (← x, le-ltb limit end h);
            low = h;
          }

pub ruleset ending-laws = (ending-none, ending-past, ending-more)

-- fronts of families ------------------------------------------------------------------------------------------------------

module _ (s p : Str) (w : List Scalar) (f : D.Family.Family) where
  pub front-is : (t : Option Text) (a b x y r : ℕ) → t ≡ Some f.discriminant_type → a ≡ sized (opt_of p t) (enum_size (enums_at s p 0)) 1
      → b ≡ prim_size w (or_else (opt_of p f.param_len_type) (bytes "u8")) → x ≡ a → y ≡ b → r ≡ capped (x + y)
      → r ≡ capped (front_end (schema_of (rec s p w)) (family_of p f [] []))
  unfolding front_end disc_size len_size scalar_size schema_of schema_from enums_at
  front-is t a b x y r e g h i j q = q ∙ rw (i, j, g, h, e)

module _ (t : Schema) (m : Family) where
  front-as-it-stands : (fs : List Field) → any large (places t 0 (fam_prefix m ++ fs))
      ≡ (ltb limit (0 + disc_size t m) || (ltb limit (0 + disc_size t m + len_size t m) || any large (places t (0 + disc_size t m + len_size t m) fs)))
  unfolding any large places place_of fam_prefix plain shape_size kind_of kind_among words eqs bytes size_as scalar_size or_else disc_size len_size
  front-as-it-stands fs = refl

  -- the front's second field ends where the front does, and the fields after it begin there
  pub front-places : (fs : List Field) → any large (places t 0 (fam_prefix m ++ fs)) ≡ (ltb limit (disc_size t m) || (ltb limit (front_end t m) || any large (places t (front_end t m) fs)))
  unfolding front_end
  front-places fs =
      let e : 0 + disc_size t m ≡ disc_size t m = omega arith in
      front-as-it-stands fs ∙ rw e

  disc-first : disc_size t m ≤ front_end t m
  unfolding front_end
  disc-first = omega arith

  or-true : (b : Bool) → (b || true) ≡ true
  or-true true = refl
  or-true false = refl

  module _ (n : ℕ) (e : n ≡ capped (front_end t m)) (fs : List Field) where
    pub front-past : limit < n → true ≡ any large (places t 0 (fam_prefix m ++ fs))
    front-past h = sym (front-places fs ∙ rw (lt-ltb limit (front_end t m) past) (or-true (ltb limit (disc_size t m))))
      where
        past : limit < front_end t m
        past = go (leb (front_end t m) limit) refl
          where
            go : (b : Bool) → leb (front_end t m) limit ≡ b → limit < front_end t m
            go false q = leb-false (front_end t m) limit q
            go true q =
                let g = leb-true (front_end t m) limit q in
                let x : n ≡ front_end t m = e ∙ sym (cap-low (front_end t m) g) in
                absurd (omega arith)

    pub front-on : (r : Bool) → n ≤ limit → r ≡ any large (places t n fs) → r ≡ any large (places t 0 (fam_prefix m ++ fs))
    front-on r h q =
        let g = disc-first in
        let x = exact in
        q ∙ sym (front-places fs ∙ rw (le-ltb limit (disc_size t m) (omega arith), ← x, le-ltb limit n h))
      where
        exact : n ≡ front_end t m
        exact = go (leb (front_end t m) limit) refl
          where
            go : (b : Bool) → leb (front_end t m) limit ≡ b → n ≡ front_end t m
            go true q = e ∙ sym (cap-low (front_end t m) (leb-true (front_end t m) limit q))
            go false q =
                let x : n ≡ limit + 1 = e ∙ sym (cap-high (front_end t m) (leb-false (front_end t m) limit q)) in
                absurd (omega arith)

pub ruleset front-laws = (front-past, front-on)

-- the first vast type -----------------------------------------------------------------------------------------------------

module _ (s p : Str) (w : List Scalar) (at : ℕ) (r : TypeStep) (f : OpenedFrom s at r) where
  pub vast-end : r ≡ NoType → first_vast (rec s p w) at ≡ None
  unfolding first_vast
  vast-end m = ap vast_at (find_none (vast (schema_of (rec s p w))) _ (f.list p ∙ ap (opened_of s p) m))

  module _ (q : ℕ) (k : Cursor) (m : r ≡ Plain q k) (b : Bool) (e : b ≡ any large (places (schema_of (rec s p w)) 0 (fields_at s p k.at))) where
    pub vast-plain : b ≡ true → first_vast (rec s p w) at ≡ Some q
    unfolding first_vast vast
    vast-plain t = ap vast_at (find-hit (vast (schema_of (rec s p w))) _ _ _ (f.list p ∙ ap (opened_of s p) m) (sym e ∙ t))

    pub vast-plain-on : b ≡ false → first_vast (rec s p w) at ≡ first_vast (rec s p w) k.at
    unfolding first_vast vast
    vast-plain-on t = ap vast_at (find-miss (vast (schema_of (rec s p w))) _ _ _ (f.list p ∙ ap (opened_of s p) m) (sym e ∙ t))

    pub plain-nearer : length s - k.at < length s - at
    plain-nearer = let h : suc (length s - k.at) ≤ length s - at = subst (λ x. opened_left s x ≤ length s - at) m f.left in omega arith

  module _ (q : ℕ) (x : D.Family.Family) (k : Cursor) (m : r ≡ Fronted q x k) (b : Bool) (e : b ≡ any large (places (schema_of (rec s p w)) 0 (fam_prefix (family_of p x [] []) ++ fields_at s p k.at))) where
    pub vast-front : b ≡ true → first_vast (rec s p w) at ≡ Some q
    unfolding first_vast vast
    vast-front t = ap vast_at (find-hit (vast (schema_of (rec s p w))) _ _ _ (f.list p ∙ ap (opened_of s p) m) (sym e ∙ t))

    pub vast-front-on : b ≡ false → first_vast (rec s p w) at ≡ first_vast (rec s p w) k.at
    unfolding first_vast vast
    vast-front-on t = ap vast_at (find-miss (vast (schema_of (rec s p w))) _ _ _ (f.list p ∙ ap (opened_of s p) m) (sym e ∙ t))

    pub front-nearer : length s - k.at < length s - at
    front-nearer = let h : suc (length s - k.at) ≤ length s - at = subst (λ y. opened_left s y ≤ length s - at) m f.left in omega arith

pub ruleset vast-laws = (vast-end, vast-plain, vast-plain-on, vast-front, vast-front-on)
