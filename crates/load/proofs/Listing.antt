-- The lists and the schema of a stream of commands are those of the commands. Assumes nothing.
use Rattle.std.specs.Prelude.{None}
use mathlib.Core.Path.{◌≡◌, refl, sym, ◌∙◌, ap, subst}
use mathlib.Core.List.{List, [], ◌∷◌, ◌++◌, append_assoc}
use mathlib.Core.Bool.{Bool, true, false, ◌||◌, ◌&&◌, not, cond}
use Prim.Native.Nat.{ℕ, ◌+◌}
use native.Mathlib.Omega.{arith}
use lib.Dec.{eqb}
use lib.ListN.{length, get_or, drop, length-append}
use lib.Seq.{drop-append_seam, get_or-append-add}
use borrow.Author.Tests.{not-true}
use Rattle.record.specs.Base.{Str, first, find, any}
use Rattle.record.specs.Scalars.{built_in}
use Rattle.record.specs.Schema.{Schema, Field}
use Rattle.record.specs.Shapes.{places, fam_prefix}
use Rattle.record.specs.Commands.{head_at, constant_at, alias_at, enum_at, value_at, bitfield_at, member_at, struct_at, family_at, variant_at, field_at, key_at, version_at}
use Rattle.record.specs.Lists.{head_of, constant_of, alias_of, enum_of, value_of, bitfield_of, member_of, struct_of, family_of, variant_of, field_of, key_of, version_of, listed, anything, nothing, a_key, a_field, heads, constants, aliases, values, enums, members, bitfields, keys, fields, structs, variants, families, unstored, versions}
use Rattle.record.specs.Reading.{rec, release_of, unreleased_of, schema_from, Opened, opened_at, opened, large, vast}
use Rattle.record.proofs.Basics.{both}
use Rattle.load.specs.Generator.{stream_of}
use Rattle.load.specs.Written.{places_from, listed_in, heads_in, constants_in, aliases_in, values_in, enums_in, members_in, bitfields_in, keys_in, fields_in, structs_in, variants_in, families_in, unstored_in, versions_in, schema_in, opened_in}

module _ (s : Str) where
  -- at a command's place
  pub at-seam : (pre c : Str) (cs : List Str) → s ≡ pre ++ (c ++ stream_of cs) → drop (length pre) s ≡ c ++ stream_of cs
  at-seam pre c cs e = ap (drop (length pre)) e ∙ drop-append_seam pre (c ++ stream_of cs)

  byte-seam : (pre c : Str) (cs : List Str) → s ≡ pre ++ (c ++ stream_of cs) → get_or s (length pre) 0 ≡ get_or (c ++ stream_of cs) 0 0
  byte-seam pre c cs e =
      ap (λ (x : Str). get_or x (length pre) 0) e ∙ subst (λ (n : ℕ). get_or (pre ++ (c ++ stream_of cs)) n 0 ≡ get_or (c ++ stream_of cs) 0 0) (omega arith) (get_or-append-add pre (c ++ stream_of cs) 0 0)

  -- and after it
  next-seam : (pre c : Str) (cs : List Str) → s ≡ pre ++ (c ++ stream_of cs) → s ≡ (pre ++ c) ++ stream_of cs
  next-seam pre c cs e = e ∙ sym (append_assoc pre c (stream_of cs))

  next_place : (pre c : Str) → length (pre ++ c) ≡ length pre + length c
  next_place pre c = length-append pre c

  pub after-seam : {A : Type 0} (f : List ℕ → A) (h : List Str → A) → ((pre : Str) (cs : List Str) → s ≡ pre ++ stream_of cs → f (places_from (length pre) cs) ≡ h cs)
      → (pre c : Str) (cs : List Str) → s ≡ pre ++ (c ++ stream_of cs) → f (places_from (length pre + length c) cs) ≡ h cs
  after-seam f h r pre c cs e = subst (λ (n : ℕ). f (places_from n cs) ≡ h cs) (next_place pre c) (r (pre ++ c) cs (next-seam pre c cs e))

  pub listed-written : {A : Type 0} (over : ℕ → Bool) (b : ℕ) (f : ℕ → List ℕ → A) (h : Str → List Str → A)
      → ((pre c : Str) (cs : List Str) → s ≡ pre ++ (c ++ stream_of cs) → f (length pre) (places_from (length pre + length c) cs) ≡ h (c ++ stream_of cs) cs)
      → (pre : Str) (cs : List Str) → s ≡ pre ++ stream_of cs → listed s over b f (places_from (length pre) cs) ≡ listed_in over b h cs
  unfolding listed listed_in places_from stream_of
  listed-written over b f h q pre [] e = refl
  listed-written {A} over b f h q pre (c ∷ cs) e = go (subst (λ (n : ℕ). listed s over b f (places_from n cs) ≡ listed_in over b h cs) (next_place pre c) (listed-written over b f h q (pre ++ c) cs (next-seam pre c cs e)))
    where
      go : listed s over b f (places_from (length pre + length c) cs) ≡ listed_in over b h cs → listed s over b f (places_from (length pre) (c ∷ cs)) ≡ listed_in over b h (c ∷ cs)
      go rest = λ i. cond (eqb (byte-seam pre c cs e i) b) (q pre c cs e i ∷ rest i) (cond (over (byte-seam pre c cs e i)) (rest i) [])

-- no field of any type ends above the limit
unfoldable pub slim : Schema → List (List Field) → Bool
slim t [] = true
slim t (fs ∷ l) = not (any large (places t 0 fs)) && slim t l

module _ (s p : Str) where
  pub heads-written : (pre : Str) (cs : List Str) → s ≡ pre ++ stream_of cs → heads s p (places_from (length pre) cs) ≡ heads_in p cs
  unfolding heads heads_in
  heads-written = listed-written s anything 1 (λ at rest. head_of p (head_at (drop at s))) (λ x cs. head_of p (head_at x)) (λ pre c cs e. λ i. head_of p (head_at (at-seam s pre c cs e i)))

  pub constants-written : (pre : Str) (cs : List Str) → s ≡ pre ++ stream_of cs → constants s p (places_from (length pre) cs) ≡ constants_in p cs
  unfolding constants constants_in
  constants-written = listed-written s anything 2 (λ at rest. constant_of p (constant_at (drop at s))) (λ x cs. constant_of p (constant_at x)) (λ pre c cs e. λ i. constant_of p (constant_at (at-seam s pre c cs e i)))

  pub aliases-written : (pre : Str) (cs : List Str) → s ≡ pre ++ stream_of cs → aliases s p (places_from (length pre) cs) ≡ aliases_in p cs
  unfolding aliases aliases_in
  aliases-written = listed-written s anything 3 (λ at rest. alias_of p (alias_at (drop at s))) (λ x cs. alias_of p (alias_at x)) (λ pre c cs e. λ i. alias_of p (alias_at (at-seam s pre c cs e i)))

  pub values-written : (pre : Str) (cs : List Str) → s ≡ pre ++ stream_of cs → values s p (places_from (length pre) cs) ≡ values_in p cs
  unfolding values values_in
  values-written = listed-written s nothing 5 (λ at rest. value_of p (value_at (drop at s))) (λ x cs. value_of p (value_at x)) (λ pre c cs e. λ i. value_of p (value_at (at-seam s pre c cs e i)))

  pub members-written : (pre : Str) (cs : List Str) → s ≡ pre ++ stream_of cs → members s p (places_from (length pre) cs) ≡ members_in p cs
  unfolding members members_in
  members-written = listed-written s nothing 7 (λ at rest. member_of p (member_at (drop at s))) (λ x cs. member_of p (member_at x)) (λ pre c cs e. λ i. member_of p (member_at (at-seam s pre c cs e i)))

  pub keys-written : (pre : Str) (cs : List Str) → s ≡ pre ++ stream_of cs → keys s p (places_from (length pre) cs) ≡ keys_in p cs
  unfolding keys keys_in
  keys-written = listed-written s nothing 12 (λ at rest. key_of p (key_at (drop at s))) (λ x cs. key_of p (key_at x)) (λ pre c cs e. λ i. key_of p (key_at (at-seam s pre c cs e i)))

  pub unstored-written : (pre : Str) (cs : List Str) → s ≡ pre ++ stream_of cs → unstored s p (places_from (length pre) cs) ≡ unstored_in p cs
  unfolding unstored unstored_in
  unstored-written = listed-written s anything 13 (λ at rest. key_of p (key_at (drop at s))) (λ x cs. key_of p (key_at x)) (λ pre c cs e. λ i. key_of p (key_at (at-seam s pre c cs e i)))

  pub versions-written : (pre : Str) (cs : List Str) → s ≡ pre ++ stream_of cs → versions s p (places_from (length pre) cs) ≡ versions_in p cs
  unfolding versions versions_in
  versions-written = listed-written s anything 14 (λ at rest. version_of p (version_at (drop at s))) (λ x cs. version_of p (version_at x)) (λ pre c cs e. λ i. version_of p (version_at (at-seam s pre c cs e i)))

  pub enums-written : (pre : Str) (cs : List Str) → s ≡ pre ++ stream_of cs → enums s p (places_from (length pre) cs) ≡ enums_in p cs
  unfolding enums enums_in
  enums-written = listed-written s anything 4 (λ at rest. enum_of p (enum_at (drop at s)) (values s p rest)) (λ x cs. enum_of p (enum_at x) (values_in p cs)) (λ pre c cs e. λ i. enum_of p (enum_at (at-seam s pre c cs e i)) (after-seam s (values s p) (values_in p) values-written pre c cs e i))

  pub bitfields-written : (pre : Str) (cs : List Str) → s ≡ pre ++ stream_of cs → bitfields s p (places_from (length pre) cs) ≡ bitfields_in p cs
  unfolding bitfields bitfields_in
  bitfields-written = listed-written s anything 6 (λ at rest. bitfield_of p (bitfield_at (drop at s)) (members s p rest)) (λ x cs. bitfield_of p (bitfield_at x) (members_in p cs)) (λ pre c cs e. λ i. bitfield_of p (bitfield_at (at-seam s pre c cs e i)) (after-seam s (members s p) (members_in p) members-written pre c cs e i))

  pub fields-written : (pre : Str) (cs : List Str) → s ≡ pre ++ stream_of cs → fields s p (places_from (length pre) cs) ≡ fields_in p cs
  unfolding fields fields_in
  fields-written = listed-written s a_key 11 (λ at rest. field_of p (field_at (drop at s)) (first (keys s p rest))) (λ x cs. field_of p (field_at x) (first (keys_in p cs))) (λ pre c cs e. λ i. field_of p (field_at (at-seam s pre c cs e i)) (first (after-seam s (keys s p) (keys_in p) keys-written pre c cs e i)))

  pub structs-written : (pre : Str) (cs : List Str) → s ≡ pre ++ stream_of cs → structs s p (places_from (length pre) cs) ≡ structs_in p cs
  unfolding structs structs_in
  structs-written = listed-written s anything 8 (λ at rest. struct_of p (struct_at (drop at s)) (fields s p rest)) (λ x cs. struct_of p (struct_at x) (fields_in p cs)) (λ pre c cs e. λ i. struct_of p (struct_at (at-seam s pre c cs e i)) (after-seam s (fields s p) (fields_in p) fields-written pre c cs e i))

  pub variants-written : (pre : Str) (cs : List Str) → s ≡ pre ++ stream_of cs → variants s p (places_from (length pre) cs) ≡ variants_in p cs
  unfolding variants variants_in
  variants-written = listed-written s a_field 10 (λ at rest. variant_of p (variant_at (drop at s)) (fields s p rest)) (λ x cs. variant_of p (variant_at x) (fields_in p cs)) (λ pre c cs e. λ i. variant_of p (variant_at (at-seam s pre c cs e i)) (after-seam s (fields s p) (fields_in p) fields-written pre c cs e i))

  pub families-written : (pre : Str) (cs : List Str) → s ≡ pre ++ stream_of cs → families s p (places_from (length pre) cs) ≡ families_in p cs
  unfolding families families_in
  families-written = listed-written s anything 9 (λ at rest. family_of p (family_at (drop at s)) (fields s p rest) (variants s p rest)) (λ x cs. family_of p (family_at x) (fields_in p cs) (variants_in p cs)) (λ pre c cs e. λ i. family_of p (family_at (at-seam s pre c cs e i)) (after-seam s (fields s p) (fields_in p) fields-written pre c cs e i) (after-seam s (variants s p) (variants_in p) variants-written pre c cs e i))

  -- the whole schema
  pub schema-written : (cs : List Str) → s ≡ stream_of cs → schema_from (rec s p built_in) (places_from 0 cs) ≡ schema_in p cs
  unfolding schema_from schema_in
  schema-written cs e = λ i. record {
    scalars = built_in;
    release = release_of (first (heads-written [] cs e i));
    unreleased = unreleased_of (first (heads-written [] cs e i));
    constants = constants-written [] cs e i;
    aliases = aliases-written [] cs e i;
    enums = enums-written [] cs e i;
    bitfields = bitfields-written [] cs e i;
    structs = structs-written [] cs e i;
    families = families-written [] cs e i;
    unstored = unstored-written [] cs e i;
    versions = versions-written [] cs e i;
  }

  fields_of : List Opened → List (List Field)
  fields_of [] = []
  fields_of (o ∷ l) = o.fields ∷ fields_of l

  -- no type is vast, if none of the commands' is
  opened-written : (pre : Str) (cs : List Str) → s ≡ pre ++ stream_of cs → fields_of (opened s p (places_from (length pre) cs)) ≡ opened_in p cs
  unfolding opened opened_at opened_in places_from stream_of fields_of
  opened-written pre [] e = refl
  opened-written pre (c ∷ cs) e =
      go (eqb (get_or s (length pre) 0) 9) (eqb (get_or s (length pre) 0) 8 || eqb (get_or s (length pre) 0) 10)
      (ap (λ (x : ℕ). eqb x 9) (byte-seam s pre c cs e)) (ap (λ (x : ℕ). eqb x 8 || eqb x 10) (byte-seam s pre c cs e))
      (subst (λ (n : ℕ). fields_of (opened s p (places_from n cs)) ≡ opened_in p cs) (next_place s pre c) (opened-written (pre ++ c) cs (next-seam s pre c cs e)))
      (after-seam s (fields s p) (fields_in p) fields-written pre c cs e)
    where
      go : (a b : Bool) → a ≡ eqb (get_or (c ++ stream_of cs) 0 0) 9 → b ≡ (eqb (get_or (c ++ stream_of cs) 0 0) 8 || eqb (get_or (c ++ stream_of cs) 0 0) 10)
          → fields_of (opened s p (places_from (length pre + length c) cs)) ≡ opened_in p cs → fields s p (places_from (length pre + length c) cs) ≡ fields_in p cs
          → fields_of (cond a (record { place = length pre; fields = fam_prefix (family_of p (family_at (drop (length pre) s)) [] []) ++ fields s p (places_from (length pre + length c) cs) } ∷ opened s p (places_from (length pre + length c) cs))
          (cond b (record { place = length pre; fields = fields s p (places_from (length pre + length c) cs) } ∷ opened s p (places_from (length pre + length c) cs)) (opened s p (places_from (length pre + length c) cs))))
          ≡ opened_in p (c ∷ cs)
      go true b q q2 r k = rw (← q) (λ i. (fam_prefix (family_of p (family_at (at-seam s pre c cs e i)) [] []) ++ k i) ∷ r i)
      go false true q q2 r k = rw (← q, ← q2) (λ i. k i ∷ r i)
      go false false q q2 r k = rw (← q, ← q2) r

  none-vast : (t : Schema) (l : List Opened) → slim t (fields_of l) ≡ true → find (vast t) l ≡ None
  unfolding slim fields_of find vast
  none-vast t [] h = refl
  none-vast t (o ∷ l) h =
      let k = both (not (any large (places t 0 o.fields))) (slim t (fields_of l)) h in
      rw (not-true (any large (places t 0 o.fields)) k.0) (none-vast t l k.1)

  pub slim-written : (t : Schema) (cs : List Str) → s ≡ stream_of cs → slim t (opened_in p cs) ≡ true → find (vast t) (opened s p (places_from 0 cs)) ≡ None
  slim-written t cs e h = none-vast t (opened s p (places_from 0 cs)) (ap (slim t) (opened-written [] cs e) ∙ h)
