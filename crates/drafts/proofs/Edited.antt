-- What an edit does to the schema: the type is appended, or the first of the name is taken out; all else stays. Assumes nothing.
use Rattle.std.specs.Prelude.{Some, None, Ok, Err}
use mathlib.Core.Path.{◌≡◌, refl, sym, ap, ap₂, ◌∙◌, subst}
use mathlib.Core.List.Memᴰ
use mathlib.Core.List.{List, [], ◌∷◌, ◌++◌, map, map-append, append-nil, Memᴰ}
use mathlib.Core.Bool.{Bool, true, false, ◌||◌, false≢true}
use Prim.Native.Nat.{ℕ, zero, suc, ◌+◌}
use native.Mathlib.Omega.{arith}
use lib.ListN.{length, get_or, drop}
use lib.Dec.{eqb}
use borrow.Author.Tests.{eqb-true, ne_eqb}
use Rattle.record.specs.Base.{Str, bytes, eqs, any}
use Rattle.record.specs.Schema.{Schema, Struct, Family}
use Rattle.record.specs.Stretch.{text_of}
use Rattle.record.specs.Operands.{text_at}
use Rattle.record.specs.Commands.{operands, wide, start, commands_at}
use Rattle.record.specs.Judge.{may_stand, follows, judged_at}
use Rattle.record.specs.Reading.{Rec, schema_of, read, reading, ok, continued, parse}
use Rattle.record.specs.declared.command.Cursor.{Cursor}
use Rattle.record.specs.declared.refusal.Side.{Side}
use Rattle.record.specs.declared.refusal.Side.TheVariants.{Current}
use Rattle.record.proofs.Basics.{both}
use Rattle.record.proofs.Accepted.{onto-ok}
use Rattle.record.specs.CommandTexts.{no_text}
use Rattle.drafts.specs.Content.{Content, operand_at, operands_at, operands_with, content_as, content_at, contents_of}
use Rattle.drafts.specs.Addition.{is_type, is_part, addition}
use Rattle.drafts.specs.Edits.{named, after_parts, without, removed, added}
use Rattle.drafts.specs.Effects.{SameRest, Appended, less_first, struct_named, family_named, TakenOut, struct, family}
use Rattle.drafts.proofs.Contents.{text_arg, listed_in, struct_in, family_in, fields_in, variants_in, structs_in, families_in, schema_in, schema-of}
use Rattle.drafts.proofs.Links.{Went, went}
use Rattle.drafts.proofs.Chains.{Quiet, no_part, part-quiet, type-quiet}
use Rattle.drafts.proofs.Results.{removed-result, parse-all}
use Rattle.drafts.proofs.Additions.{type-far, added-result, body, body-tail}
use Rattle.drafts.proofs.Sections.{Apart, Section, rest-same, types_of, OneType, a_struct, a-family, one_type}
use Rattle.record.specs.Judge.{Judged}

module _ (s p : Str) where
  number_is : (at : ℕ) → (content_at s p at).number ≡ get_or s at 0
  unfolding content_at content_as
  number_is at = refl

  section-at : (at : ℕ) (parts : List ℕ) → is_type (get_or s at 0) ≡ true → ((a : ℕ) → Memᴰ a parts → is_part (get_or s a 0) ≡ true)
      → Section (content_at s p at) (map (content_at s p) parts)
  section-at at parts t h = record {
    is-type = ap is_type (number_is at) ∙ t;
    are-parts = λ e m. let x = Memᴰ.of_map (content_at s p) parts m in ap (λ (d : Content). is_part d.number) (sym x.2) ∙ ap is_part (number_is x.0) ∙ h x.0 x.1;
  }

  pub type-apart : (at : ℕ) (l : List Content) → is_type (get_or s at 0) ≡ true → Apart (content_at s p at ∷ l)
  type-apart at l t =
      let f = type-far (get_or s at 0) t in
      let n = number_is at in
      let a = f.0 in
      let b = f.1 in
      (rw n (ne_eqb (get_or s at 0) 5 (λ q. omega arith)), rw n (ne_eqb (get_or s at 0) 7 (λ q. omega arith)), rw n (ne_eqb (get_or s at 0) 10 (λ q. omega arith)), rw n (ne_eqb (get_or s at 0) 11 (λ q. omega arith)), rw n (ne_eqb (get_or s at 0) 12 (λ q. omega arith)))

-- a head is no type
head-structs : (d : Content) (l : List Content) → d.number ≡ 1 → structs_in (d ∷ l) ≡ structs_in l
unfolding structs_in listed_in
head-structs d l e = rw e

head-families : (d : Content) (l : List Content) → d.number ≡ 1 → families_in (d ∷ l) ≡ families_in l
unfolding families_in listed_in
head-families d l e = rw e

-- adding ------------------------------------------------------------------------------------------------------------------------------

module _ (r : Rec) (t : Schema) (h : reading Current r ≡ read t) (a : Rec) (xs : List ℕ) (g : addition a ≡ ok xs) where
  scalars-stay : (added r a).scalars ≡ r.scalars
  unfolding added
  scalars-stay = refl

  abbrev part : ℕ → Content
  part = content_at a.stream a.pool

  abbrev section : List Content
  section = part (body r t h a xs g).type_at ∷ map part (body r t h a xs g).parts

  is-section : Section (part (body r t h a xs g).type_at) (map part (body r t h a xs g).parts)
  is-section = let b = body r t h a xs g in section-at a.stream a.pool b.type_at b.parts b.is-type b.are-parts

  starts_apart : Apart section
  starts_apart = let b = body r t h a xs g in type-apart a.stream a.pool b.type_at (map part b.parts) b.is-type

  says_all : contents_of (added r a) ≡ contents_of r ++ (section ++ [])
  says_all =
      (added-result r t h a xs g).says
      ∙ ap (λ (l : List ℕ). contents_of r ++ map part l) (sym (body-tail r t h a xs g))
      ∙ ap (λ (l : List Content). contents_of r ++ l) (sym (append-nil section))

  -- the addition's schema has its section's types alone
  own-contents : contents_of a ≡ part 0 ∷ section
  unfolding contents_of
  own-contents = ap (map part) (sym (body r t h a xs g).whole)

  own-structs : (schema_of a).structs ≡ structs_in section
  unfolding schema_in
  own-structs = ap (λ (x : Schema). x.structs) (schema-of a) ∙ ap structs_in own-contents ∙ head-structs (part 0) section (number_is a.stream a.pool 0 ∙ (body r t h a xs g).head)

  own-families : (schema_of a).families ≡ families_in section
  unfolding schema_in
  own-families = ap (λ (x : Schema). x.families) (schema-of a) ∙ ap families_in own-contents ∙ head-families (part 0) section (number_is a.stream a.pool 0 ∙ (body r t h a xs g).head)

  before-is : schema_in r.scalars (contents_of r ++ []) ≡ schema_of r
  before-is = ap (schema_in r.scalars) (append-nil (contents_of r)) ∙ sym (schema-of r)

  after_is : schema_of (added r a) ≡ schema_in r.scalars (contents_of r ++ (section ++ []))
  after_is = schema-of (added r a) ∙ ap₂ schema_in scalars-stay says_all

  -- 02: "added at the end": the structures and families are those of the draft and then the addition's
  pub added-schema : Appended (schema_of r) (schema_of a) (schema_of (added r a))
  unfolding schema_in structs_in families_in listed_in
  added-schema =
      let ty = types_of (contents_of r) [] (part (body r t h a xs g).type_at) (map part (body r t h a xs g).parts) is-section starts_apart tt in
      let same = rest-same (contents_of r) [] (part (body r t h a xs g).type_at) (map part (body r t h a xs g).parts) is-section starts_apart tt r.scalars in
      record {
        rest = subst (λ (x : Schema). SameRest (schema_of r) x) (sym after_is)
            (subst (λ (x : Schema). SameRest x (schema_in r.scalars (contents_of r ++ (section ++ [])))) before-is same);
        structs = ap (λ (x : Schema). x.structs) after_is ∙ ty.structs-with
            ∙ ap₂ (λ (x y : List Struct). x ++ y) (sym (ap (λ (x : Schema). x.structs) (schema-of r))) (append-nil (structs_in section) ∙ sym own-structs);
        families = ap (λ (x : Schema). x.families) after_is ∙ ty.families-with
            ∙ ap₂ (λ (x y : List Family). x ++ y) (sym (ap (λ (x : Schema). x.families) (schema-of r))) (append-nil (families_in section) ∙ sym own-families);
        one = ap₂ (λ (x : List Struct) (y : List Family). length x + length y) own-structs own-families ∙ one-long section-type;
      }
    where
      section-type : OneType (part (body r t h a xs g).type_at) (map part (body r t h a xs g).parts)
      section-type = one_type (part (body r t h a xs g).type_at) (map part (body r t h a xs g).parts) is-section

      one-long : OneType (part (body r t h a xs g).type_at) (map part (body r t h a xs g).parts) → length (structs_in section) + length (families_in section) ≡ 1
      one-long (a_struct n x y) = ap₂ (λ (l : List Struct) (m : List Family). length l + length m) x y
      one-long (a-family n x y) = ap₂ (λ (l : List Struct) (m : List Family). length l + length m) x y

-- removing ----------------------------------------------------------------------------------------------------------------------------

module _ (side : Side) (s p : Str) where
  -- parts, and what comes after them
  record Behind (ps : List ℕ) : Type 0 where
    parts : List ℕ
    whole : ps ≡ parts ++ after_parts s ps
    are-parts : (a : ℕ) → Memᴰ a parts → is_part (get_or s a 0) ≡ true
    apart : Apart (map (content_at s p) (after_parts s ps))

  -- what is no part of a type and stands after one is by itself
  by_itself : (at : ℕ) (c : Cursor) → is_part (get_or s at 0) ≡ false → may_stand c (get_or s at 0) ≡ true → Quiet c.last → (l : List Content) → Apart (content_at s p at ∷ l)
  unfolding may_stand follows
  by_itself at c q m u l =
      let n = number_is s p at in
      let x = no_part (get_or s at 0) q in (
        rw n (ne_eqb (get_or s at 0) 5 (λ e. false≢true (rw (e, ne_eqb c.last 4 u.not4, ne_eqb c.last 5 u.not5) at m))),
        rw n (ne_eqb (get_or s at 0) 7 (λ e. false≢true (rw (e, ne_eqb c.last 6 u.not6, ne_eqb c.last 7 u.not7) at m))),
        rw n x.not10,
        rw n x.not11,
        rw n x.not12,
      )

  behind : (k : ℕ) (c : Cursor) (ps : List ℕ) → parse k side s p c ≡ ok ps → Quiet c.last → Behind ps
  unfolding parse continued after_parts
  behind zero c ps h u = absurd (let z : ◌≡◌ {A = ℕ} 0 1 = cc in omega arith)
  behind (suc k) c ps h u = go (judged_at side s p c) refl h (λ j qs e q. behind k j qs e q)
    where
      tails : (at : ℕ) (qs : List ℕ) → is_part (get_or s at 0) ≡ true → (b : Behind qs) → (a : ℕ) → Memᴰ a (at ∷ b.parts) → is_part (get_or s a 0) ≡ true
      tails at qs q b a (Memᴰ.head e) = subst (λ (x : ℕ). is_part (get_or s x 0) ≡ true) (sym e) q
      tails at qs q b a (Memᴰ.tail m) = b.are-parts a m

      part : (j : Cursor) → Went side s p c j → (qs : List ℕ) → parse k side s p j ≡ ok qs → (t : Bool) → is_part (get_or s c.at 0) ≡ t
          → ((j : Cursor) (qs : List ℕ) → parse k side s p j ≡ ok qs → Quiet j.last → Behind qs) → Behind (c.at ∷ qs)
      part j w qs e true q ih =
          let b = ih j qs e (subst (λ (x : Cursor). Quiet x.last) w.next (part-quiet (get_or s c.at 0) q)) in
          record {
            parts = c.at ∷ b.parts;
            whole = rw q (ap (λ (l : List ℕ). c.at ∷ l) b.whole);
            are-parts = tails c.at qs q b;
            apart = rw q b.apart;
          }
      part j w qs e false q ih = record {
        parts = [];
        whole = rw q;
        are-parts = λ a m. absurd (Memᴰ.not-nil m);
        apart = rw q (by_itself c.at c q w.stands u (map (content_at s p) qs));
      }

      go : (j : Judged) → judged_at side s p c ≡ j → continued c.at (parse k side s p) j ≡ ok ps
          → ((j : Cursor) (qs : List ℕ) → parse k side s p j ≡ ok qs → Quiet j.last → Behind qs) → Behind ps
      go (Ok (Some (d, j))) e h ih =
          let t = onto-ok c.at (parse k side s p j) ps h in
          subst (λ (l : List ℕ). Behind l) t.whole (part j (went side s p c d j e) t.more t.parsed-so (is_part (get_or s c.at 0)) refl ih)
      go (Ok None) e h ih = let q : [] ≡ ps = cc in subst (λ (l : List ℕ). Behind l) q (record { parts = []; whole = refl; are-parts = λ a m. absurd (Memᴰ.not-nil m); apart = tt })
      go (Err (r, q)) e h ih = absurd (let z : ◌≡◌ {A = ℕ} 0 1 = cc in omega arith)

  -- the first type of a name, cut out
  pub record CutOut (v : Str) (ps : List ℕ) : Type 0 where
    pub front : List ℕ
    pub at : ℕ
    pub parts : List ℕ
    pub back : List ℕ
    pub whole : ps ≡ front ++ (at ∷ (parts ++ back))
    pub rest : without s p v ps ≡ front ++ back
    pub none_before : any (named s p v) front ≡ false
    pub is-named : named s p v at ≡ true
    pub is-type : is_type (get_or s at 0) ≡ true
    pub are-parts : (a : ℕ) → Memᴰ a parts → is_part (get_or s a 0) ≡ true
    pub apart : Apart (map (content_at s p) back)

  named-type : (v : Str) (at : ℕ) → named s p v at ≡ true → is_type (get_or s at 0) ≡ true
  unfolding named
  named-type v at h = (both (is_type (get_or s at 0)) _ h).0

  pub cut_out : (v : Str) (k : ℕ) (c : Cursor) (ps : List ℕ) → parse k side s p c ≡ ok ps → any (named s p v) ps ≡ true → CutOut v ps
  unfolding parse continued without any
  cut_out v zero c ps h y = absurd (let z : ◌≡◌ {A = ℕ} 0 1 = cc in omega arith)
  cut_out v (suc k) c ps h y = go (judged_at side s p c) refl h (λ j qs e z. cut_out v k j qs e z)
    where
      type : (j : Cursor) → Went side s p c j → (qs : List ℕ) → parse k side s p j ≡ ok qs → (t : Bool) → named s p v c.at ≡ t
          → (t || any (named s p v) qs) ≡ true → ((j : Cursor) (qs : List ℕ) → parse k side s p j ≡ ok qs → any (named s p v) qs ≡ true → CutOut v qs) → CutOut v (c.at ∷ qs)
      type j w qs e true q y ih =
          let z = named-type v c.at q in
          let b = behind k j qs e (subst (λ (x : Cursor). Quiet x.last) w.next (type-quiet (get_or s c.at 0) z)) in
          record {
            front = [];
            at = c.at;
            parts = b.parts;
            back = after_parts s qs;
            whole = ap (λ (l : List ℕ). c.at ∷ l) b.whole;
            rest = rw q;
            none_before = refl;
            is-named = q;
            is-type = z;
            are-parts = b.are-parts;
            apart = b.apart;
          }
      type j w qs e false q y ih =
          let b = ih j qs e y in
          record {
            front = c.at ∷ b.front;
            at = b.at;
            parts = b.parts;
            back = b.back;
            whole = ap (λ (l : List ℕ). c.at ∷ l) b.whole;
            rest = rw q (ap (λ (l : List ℕ). c.at ∷ l) b.rest);
            none_before = rw q b.none_before;
            is-named = b.is-named;
            is-type = b.is-type;
            are-parts = b.are-parts;
            apart = b.apart;
          }

      go : (j : Judged) → judged_at side s p c ≡ j → continued c.at (parse k side s p) j ≡ ok ps
          → ((j : Cursor) (qs : List ℕ) → parse k side s p j ≡ ok qs → any (named s p v) qs ≡ true → CutOut v qs) → CutOut v ps
      go (Ok (Some (d, j))) e h ih =
          let t = onto-ok c.at (parse k side s p j) ps h in
          subst (λ (l : List ℕ). CutOut v l) t.whole
          (type j (went side s p c d j e) t.more t.parsed-so (named s p v c.at) refl (subst (λ (l : List ℕ). any (named s p v) l ≡ true) (sym t.whole) y) ih)
      go (Ok None) e h ih = let q : [] ≡ ps = cc in absurd (false≢true (subst (λ (l : List ℕ). any (named s p v) l ≡ true) (sym q) y))
      go (Err (r, q)) e h ih = absurd (let z : ◌≡◌ {A = ℕ} 0 1 = cc in omega arith)

neither : (x y : Bool) → (x || y) ≡ false → (x ≡ false) × (y ≡ false)
neither true y h = absurd (false≢true (sym h))
neither false y h = (refl, h)

module _ {A : Type 0} (q : A → Bool) where
  less-between : (l m : List A) (t : A) → any q l ≡ false → q t ≡ true → less_first q (l ++ (t ∷ m)) ≡ l ++ m
  unfolding less_first any
  less-between [] m t h e = rw e
  less-between (x ∷ l) m t h e =
      let k = neither (q x) (any q l) h in
      rw k.0 (ap (λ (y : List A). x ∷ y) (less-between l m t k.1 e))

  any-between : (l m : List A) (t : A) → q t ≡ true → any q (l ++ (t ∷ m)) ≡ true
  unfolding any
  any-between [] m t e = rw e
  any-between (x ∷ l) m t e = go (q x) (any-between l m t e)
    where
      go : (b : Bool) → any q (l ++ (t ∷ m)) ≡ true → (b || any q (l ++ (t ∷ m))) ≡ true
      go true h = refl
      go false h = h

-- the names of types, as the search for one and as the schema has them
module _ (s p v : Str) where
  name-said : (at : ℕ) → is_type (get_or s at 0) ≡ true → text_arg 0 (content_at s p at) ≡ text_of p (text_at (drop at s) 1)
  unfolding is_type content_at content_as operands operands_with operands_at operand_at no_text wide bytes
  name-said at t = go (eqb (get_or s at 0) 8) refl (eqb (get_or s at 0) 9) refl t
    where
      go : (x : Bool) → eqb (get_or s at 0) 8 ≡ x → (y : Bool) → eqb (get_or s at 0) 9 ≡ y → (x || y) ≡ true → text_arg 0 (content_at s p at) ≡ text_of p (text_at (drop at s) 1)
      go true e y f h = ap (λ (k : ℕ). text_arg 0 (content_as p (drop at s) k)) (eqb-true (get_or s at 0) 8 e)
      go false e true f h = ap (λ (k : ℕ). text_arg 0 (content_as p (drop at s) k)) (eqb-true (get_or s at 0) 9 f)
      go false e false f h = absurd (false≢true h)

  named-said : (at : ℕ) → is_type (get_or s at 0) ≡ true → named s p v at ≡ eqs (text_arg 0 (content_at s p at)) v
  unfolding named
  named-said at t = rw t (ap (λ (x : Str). eqs x v) (sym (name-said at t)))

  none-structs : (ps : List ℕ) → any (named s p v) ps ≡ false → any (struct_named v) (structs_in (map (content_at s p) ps)) ≡ false
  unfolding any structs_in listed_in is_type
  none-structs [] h = refl
  none-structs (at ∷ ps) h =
      let k = neither (named s p v at) (any (named s p v) ps) h in
      go (eqb (get_or s at 0) 8) refl k.0 (none-structs ps k.1)
    where
      is-struct : eqb (get_or s at 0) 8 ≡ true → is_type (get_or s at 0) ≡ true
      is-struct e = rw (eqb-true (get_or s at 0) 8 e)

      go : (b : Bool) → eqb (get_or s at 0) 8 ≡ b → named s p v at ≡ false → any (struct_named v) (structs_in (map (content_at s p) ps)) ≡ false
          → any (struct_named v) (structs_in (content_at s p at ∷ map (content_at s p) ps)) ≡ false
      go true e n ih = rw (number_is s p at, e, sym (named-said at (is-struct e)) ∙ n) ih
      go false e n ih = rw (number_is s p at, e) ih

  none-families : (ps : List ℕ) → any (named s p v) ps ≡ false → any (family_named v) (families_in (map (content_at s p) ps)) ≡ false
  unfolding any families_in listed_in is_type
  none-families [] h = refl
  none-families (at ∷ ps) h =
      let k = neither (named s p v at) (any (named s p v) ps) h in
      go (eqb (get_or s at 0) 9) refl k.0 (none-families ps k.1)
    where
      is-family : eqb (get_or s at 0) 9 ≡ true → is_type (get_or s at 0) ≡ true
      is-family e = rw (eqb-true (get_or s at 0) 9 e)

      go : (b : Bool) → eqb (get_or s at 0) 9 ≡ b → named s p v at ≡ false → any (family_named v) (families_in (map (content_at s p) ps)) ≡ false
          → any (family_named v) (families_in (content_at s p at ∷ map (content_at s p) ps)) ≡ false
      go true e n ih = rw (number_is s p at, e, sym (named-said at (is-family e)) ∙ n) ih
      go false e n ih = rw (number_is s p at, e) ih

module _ (r : Rec) (t : Schema) (h : reading Current r ≡ read t) (v : Str) (y : any (named r.stream r.pool v) (commands_at r.stream 0) ≡ true) where
  same-table : (removed v r).scalars ≡ r.scalars
  unfolding removed
  same-table = refl

  -- 02: "the first of a name be taken out": a structure or a family, the first of its sort
  pub removed-schema : TakenOut v (schema_of r) (schema_of (removed v r))
  unfolding contents_of schema_in
  removed-schema = go (one_type (c u.at) (map c u.parts) sec)
    where
      u : CutOut Current r.stream r.pool v (commands_at r.stream 0)
      u = cut_out Current r.stream r.pool v (length r.stream + 1) start (commands_at r.stream 0) (parse-all Current r t h) y

      c : ℕ → Content
      c = content_at r.stream r.pool

      sec : Section (c u.at) (map c u.parts)
      sec = section-at r.stream r.pool u.at u.parts u.is-type u.are-parts

      begins : Apart (c u.at ∷ map c u.parts)
      begins = type-apart r.stream r.pool u.at (map c u.parts) u.is-type

      before-is : schema_of r ≡ schema_in r.scalars (map c u.front ++ ((c u.at ∷ map c u.parts) ++ map c u.back))
      before-is = schema-of r ∙ ap (schema_in r.scalars) (ap (map c) u.whole ∙ map-append c u.front (u.at ∷ (u.parts ++ u.back))
          ∙ ap (λ (l : List Content). map c u.front ++ (c u.at ∷ l)) (map-append c u.parts u.back))

      after_is : schema_of (removed v r) ≡ schema_in r.scalars (map c u.front ++ map c u.back)
      after_is = schema-of (removed v r) ∙ ap₂ schema_in same-table ((removed-result Current r t h v).says ∙ ap (map c) u.rest ∙ map-append c u.front u.back)

      same : SameRest (schema_of (removed v r)) (schema_of r)
      same = subst (λ (x : Schema). SameRest (schema_of (removed v r)) x) (sym before-is)
          (subst (λ (x : Schema). SameRest x (schema_in r.scalars (map c u.front ++ ((c u.at ∷ map c u.parts) ++ map c u.back)))) (sym after_is)
          (rest-same (map c u.front) (map c u.back) (c u.at) (map c u.parts) sec begins u.apart r.scalars))

      is-it : eqs (text_arg 0 (c u.at)) v ≡ true
      is-it = sym (named-said r.stream r.pool v u.at u.is-type) ∙ u.is-named

      go : OneType (c u.at) (map c u.parts) → TakenOut v (schema_of r) (schema_of (removed v r))
      go (a_struct n x z) =
          let ty = types_of (map c u.front) (map c u.back) (c u.at) (map c u.parts) sec begins u.apart in
          let front = structs_in (map c u.front) in
          let back = structs_in (map c u.back) in
          let one = struct_in (c u.at) (fields_in (map c u.parts)) in
          let was : (schema_of r).structs ≡ front ++ (one ∷ back) =
          ap (λ (w : Schema). w.structs) before-is ∙ ty.structs-with ∙ ap (λ (l : List Struct). front ++ (l ++ back)) x in
          let now : (schema_of (removed v r)).structs ≡ front ++ back = ap (λ (w : Schema). w.structs) after_is ∙ ty.structs-less in
          let none = none-structs r.stream r.pool v u.front u.none_before in
          struct same (ap (any (struct_named v)) was ∙ any-between (struct_named v) front back one is-it)
          (now ∙ sym (ap (less_first (struct_named v)) was ∙ less-between (struct_named v) front back one none is-it))
          (ap (λ (w : Schema). w.families) after_is ∙ ty.families-less
          ∙ sym (ap (λ (w : Schema). w.families) before-is ∙ ty.families-with
          ∙ ap (λ (l : List Family). families_in (map c u.front) ++ (l ++ families_in (map c u.back))) z))
      go (a-family n z x) =
          let ty = types_of (map c u.front) (map c u.back) (c u.at) (map c u.parts) sec begins u.apart in
          let front = families_in (map c u.front) in
          let back = families_in (map c u.back) in
          let one = family_in (c u.at) (fields_in (map c u.parts)) (variants_in (map c u.parts)) in
          let was : (schema_of r).families ≡ front ++ (one ∷ back) =
          ap (λ (w : Schema). w.families) before-is ∙ ty.families-with ∙ ap (λ (l : List Family). front ++ (l ++ back)) x in
          let now : (schema_of (removed v r)).families ≡ front ++ back = ap (λ (w : Schema). w.families) after_is ∙ ty.families-less in
          let none = none-families r.stream r.pool v u.front u.none_before in
          family same (ap (any (family_named v)) was ∙ any-between (family_named v) front back one is-it)
          (now ∙ sym (ap (less_first (family_named v)) was ∙ less-between (family_named v) front back one none is-it))
          (ap (λ (w : Schema). w.structs) after_is ∙ ty.structs-less
          ∙ sym (ap (λ (w : Schema). w.structs) before-is ∙ ty.structs-with
          ∙ ap (λ (l : List Struct). structs_in (map c u.front) ++ (l ++ structs_in (map c u.back))) z))
