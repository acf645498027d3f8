-- A type that is there can always be taken out: the result is neither too long nor vast. Assumes nothing.
use Rattle.std.specs.Prelude.{Option, Some, None}
use mathlib.Core.Path.{◌≡◌, refl, sym, ap, ◌∙◌}
use mathlib.Core.List.{List, [], ◌∷◌, ◌++◌, map, map-append}
use mathlib.Core.Bool.{Bool, true, false, ◌||◌, cond}
use Prim.Native.Nat.{ℕ, ◌+◌, ◌≤◌}
use native.Mathlib.Omega.{arith}
use lib.ListN.{length, get_or, length-append}
use lib.Dec.{eqb}
use Rattle.record.specs.Base.{Str, any, find}
use Rattle.record.specs.Fill.{joined}
use Rattle.record.specs.Schema.{Schema, Field}
use Rattle.record.specs.Shapes.{places, fam_prefix}
use Rattle.record.specs.Commands.{start, commands_at}
use Rattle.record.specs.Reading.{Rec, schema_of, large, read, reading}
use Rattle.record.specs.declared.refusal.Side.TheVariants.{Current}
use Rattle.record.proofs.Accepted.{accepting}
use Rattle.drafts.specs.Content.{Content, content_at, contents_of}
use Rattle.drafts.specs.Packing.{texts_of, written_at, written, moved_to, packed_commands, stream_of}
use Rattle.drafts.specs.Addition.{is_part}
use Rattle.drafts.specs.Edits.{named, after_parts, without, removed}
use Rattle.drafts.specs.Effects.{SameRest, TakenOut, struct, family}
use Rattle.drafts.proofs.Contents.{family_in, fields_in, opened_fields}
use Rattle.drafts.proofs.Results.{settles-read, removed-result, pool-small, parse-all}
use Rattle.drafts.proofs.Rewriting.{vast_fields, none-vast-in, sizes-read, length-all}
use Rattle.drafts.proofs.Sections.{Apart, fields-end}
use Rattle.drafts.proofs.Edited.{cut_out, removed-schema, type-apart}
use Rattle.drafts.proofs.Answers.{removed-letters}
use Rattle.drafts.proofs.Sizes.{places_same}

rest_of : (n : Str) (a b : Schema) → TakenOut n a b → SameRest b a
rest_of n a b (struct r h e g) = r
rest_of n a b (family r h e g) = r

-- the types of two pieces
opened-on : (ys : List Content) → Apart ys → (xs : List Content) → opened_fields (xs ++ ys) ≡ opened_fields xs ++ opened_fields ys
unfolding opened_fields
opened-on ys a [] = refl
opened-on ys a (d ∷ xs) = rw (fields-end ys a xs) (go (eqb d.number 9) (eqb d.number 8 || eqb d.number 10) (opened-on ys a xs))
  where
    go : (t o : Bool) → opened_fields (xs ++ ys) ≡ opened_fields xs ++ opened_fields ys
        → cond t ((fam_prefix (family_in d [] []) ++ fields_in xs) ∷ opened_fields (xs ++ ys)) (cond o (fields_in xs ∷ opened_fields (xs ++ ys)) (opened_fields (xs ++ ys)))
        ≡ cond t ((fam_prefix (family_in d [] []) ++ fields_in xs) ∷ opened_fields xs) (cond o (fields_in xs ∷ opened_fields xs) (opened_fields xs)) ++ opened_fields ys
    go true o e = ap (λ (l : List (List Field)). (fam_prefix (family_in d [] []) ++ fields_in xs) ∷ l) e
    go false true e = ap (λ (l : List (List Field)). fields_in xs ∷ l) e
    go false false e = e

module _ {A : Type 0} (p : A → Bool) where
  find-second : (a b : List A) → find p (a ++ b) ≡ None → find p b ≡ None
  unfolding find
  find-second [] b h = h
  find-second (x ∷ a) b h = go (p x) h (find-second a b)
    where
      go : (t : Bool) → cond t (Some x) (find p (a ++ b)) ≡ None → (find p (a ++ b) ≡ None → find p b ≡ None) → find p b ≡ None
      go true h ih = absurd (let z : ◌≡◌ {A = ℕ} 0 1 = cc in omega arith)
      go false h ih = ih h

  find-without : (a b c : List A) → find p (a ++ (b ++ c)) ≡ None → find p (a ++ c) ≡ None
  unfolding find
  find-without [] b c h = find-second b c h
  find-without (x ∷ a) b c h = go (p x) h (find-without a b c)
    where
      go : (t : Bool) → cond t (Some x) (find p (a ++ (b ++ c))) ≡ None → (find p (a ++ (b ++ c)) ≡ None → find p (a ++ c) ≡ None) → cond t (Some x) (find p (a ++ c)) ≡ None
      go true h ih = absurd (let z : ◌≡◌ {A = ℕ} 0 1 = cc in omega arith)
      go false h ih = ih h

-- fewer commands take fewer bytes
after-short : (f : ℕ → ℕ) (s : Str) (ps : List ℕ) → length (joined (written f s (after_parts s ps))) ≤ length (joined (written f s ps))
unfolding joined written after_parts
after-short f s [] = omega arith
after-short f s (at ∷ ps) = go (is_part (get_or s at 0)) (after-short f s ps)
  where
    go : (t : Bool) → length (joined (written f s (after_parts s ps))) ≤ length (joined (written f s ps))
        → length (joined (written f s (cond t (after_parts s ps) (at ∷ ps)))) ≤ length (joined (written f s (at ∷ ps)))
    go true h = let e = length-append (written_at f s at) (joined (written f s ps)) in omega arith
    go false h = omega arith

without-short : (f : ℕ → ℕ) (s p v : Str) (ps : List ℕ) → length (joined (written f s (without s p v ps))) ≤ length (joined (written f s ps))
unfolding joined written without
without-short f s p v [] = omega arith
without-short f s p v (at ∷ ps) = go (named s p v at) (without-short f s p v ps) (after-short f s ps)
  where
    go : (t : Bool) → length (joined (written f s (without s p v ps))) ≤ length (joined (written f s ps)) → length (joined (written f s (after_parts s ps))) ≤ length (joined (written f s ps))
        → length (joined (written f s (cond t (after_parts s ps) (at ∷ without s p v ps)))) ≤ length (joined (written f s (at ∷ ps)))
    go true h k = let e = length-append (written_at f s at) (joined (written f s ps)) in omega arith
    go false h k = let e = length-append (written_at f s at) (joined (written f s ps)) in let g = length-append (written_at f s at) (joined (written f s (without s p v ps))) in omega arith

module _ (r : Rec) (t : Schema) (h : reading Current r ≡ read t) (v : Str) (y : any (named r.stream r.pool v) (commands_at r.stream 0) ≡ true) where
  stream-short : length (removed v r).stream ≤ 32768
  unfolding removed packed_commands stream_of
  stream-short =
      let ps = without r.stream r.pool v (commands_at r.stream 0) in
      let f = moved_to 0 (texts_of r.stream ps) r.pool in
      let a = length-all Current r.stream r.pool f (length r.stream + 1) start (commands_at r.stream 0) (parse-all Current r t h) in
      let b = without-short f r.stream r.pool v (commands_at r.stream 0) in
      let c = length-append (joined (written f r.stream ps)) (15 ∷ []) in
      let d = (accepting Current r t h).stream-short in
      omega arith

  pool-short : length (removed v r).pool ≤ 16384
  unfolding removed
  pool-short = pool-small Current r t h (without r.stream r.pool v (commands_at r.stream 0))

  same-vast : (fs : List Field) → vast_fields (schema_of (removed v r)) fs ≡ vast_fields t fs
  unfolding vast_fields
  same-vast fs =
      ap (any large) (places_same (schema_of (removed v r)) (schema_of r) (rest_of v (schema_of r) (schema_of (removed v r)) (removed-schema r t h v y)) 0 fs ∙ ap (λ (s : Schema). places s 0 fs) (accepting Current r t h).is-schema)

  find-same : (l : List (List Field)) → find (vast_fields (schema_of (removed v r))) l ≡ find (vast_fields t) l
  unfolding find
  find-same [] = refl
  find-same (fs ∷ l) = rw (same-vast fs) (ap (λ (o : Option (List Field)). cond (vast_fields t fs) (Some fs) o) (find-same l))

  none-vast : find (vast_fields (schema_of (removed v r))) (opened_fields (contents_of (removed v r))) ≡ None
  unfolding contents_of
  none-vast =
      let u = cut_out Current r.stream r.pool v (length r.stream + 1) start (commands_at r.stream 0) (parse-all Current r t h) y in
      let c : ℕ → Content = content_at r.stream r.pool in
      let sec : List Content = c u.at ∷ map c u.parts in
      let e : contents_of r ≡ map c u.front ++ (sec ++ map c u.back) =
      ap (map c) u.whole ∙ map-append c u.front (u.at ∷ (u.parts ++ u.back)) ∙ ap (λ (l : List Content). map c u.front ++ (c u.at ∷ l)) (map-append c u.parts u.back) in
      let g : contents_of (removed v r) ≡ map c u.front ++ map c u.back = (removed-result Current r t h v).says ∙ ap (map c) u.rest ∙ map-append c u.front u.back in
      let k : opened_fields (contents_of r) ≡ opened_fields (map c u.front) ++ (opened_fields sec ++ opened_fields (map c u.back)) =
      ap opened_fields e ∙ opened-on (sec ++ map c u.back) (type-apart r.stream r.pool u.at (map c u.parts ++ map c u.back) u.is-type) (map c u.front)
      ∙ ap (λ (l : List (List Field)). opened_fields (map c u.front) ++ l) (opened-on (map c u.back) u.apart sec) in
      let m : find (vast_fields t) (opened_fields (map c u.front) ++ opened_fields (map c u.back)) ≡ None =
      find-without (vast_fields t) (opened_fields (map c u.front)) (opened_fields sec) (opened_fields (map c u.back)) (ap (find (vast_fields t)) (sym k) ∙ none-vast-in Current r t h) in
      find-same (opened_fields (contents_of (removed v r))) ∙ ap (find (vast_fields t)) (ap opened_fields g ∙ opened-on (map c u.back) u.apart (map c u.front)) ∙ m

  pub removed-read : reading Current (removed v r) ≡ read (schema_of (removed v r))
  removed-read =
      settles-read Current (removed v r) (map (content_at r.stream r.pool) (without r.stream r.pool v (commands_at r.stream 0))) (removed-result Current r t h v) (removed-letters r t h v) stream-short pool-short
      ∙ sizes-read (removed v r) none-vast
