-- Commands written anew: their sizes are those of what they say, and they take as many bytes. Assumes nothing.
use Rattle.std.specs.Prelude.{Some, None, Ok, Err}
use mathlib.Core.Path.{◌≡◌, refl, sym, ap, ◌∙◌, subst}
use mathlib.Core.List.{List, [], ◌∷◌, map}
use mathlib.Core.Bool.{Bool, true, false, cond}
use Prim.Native.Nat.{ℕ, zero, suc, ◌+◌}
use native.Mathlib.Omega.{arith}
use lib.ListN.{length, get_or, drop, length-append}
use lib.Dec.{eqb}
use borrow.Author.Tests.{eqb-true}
use Rattle.record.specs.Base.{Str, bytes, any, find}
use Rattle.record.specs.Fill.{joined}
use Rattle.record.specs.Schema.{Schema, Field}
use Rattle.record.specs.Shapes.{places}
use Rattle.record.specs.Commands.{operands, widths, command_of, commands_at}
use Rattle.record.specs.Judge.{advanced, ready, judged_at}
use Rattle.record.specs.Reading.{Rec, schema_from, schema_of, Opened, opened, large, vast, read, ok, continued, parse, vast_or, sizes_of, reading}
use Rattle.record.specs.declared.command.Cursor.{Cursor}
use Rattle.record.specs.declared.refusal.Side.{Side}
use Rattle.record.specs.declared.refusal.Refusal.TheVariants as R
use Rattle.record.proofs.Accepted.{Passed, passed, onto-ok, accepting}
use Rattle.drafts.specs.Content.{contents_of}
use Rattle.drafts.specs.Packing.{row_with, written_at, written}
use Rattle.drafts.proofs.Contents.{opened_fields, opened_in}
use Rattle.drafts.proofs.Moving.{length-row}
use Rattle.drafts.proofs.Links.{went}
use Rattle.record.specs.Judge.{Judged}

-- sizes, by what the commands say ------------------------------------------------------------------------------------------------

-- fields that reach past the limit
unfoldable pub vast_fields : Schema → List Field → Bool
vast_fields s fs = any large (places s 0 fs)

find-fields : (s : Schema) (l : List Opened) → find (vast s) l ≡ None → find (vast_fields s) (map (λ (t : Opened). t.fields) l) ≡ None
unfolding find vast vast_fields
find-fields s [] h = refl
find-fields s (t ∷ l) h = go (any large (places s 0 t.fields)) (find-fields s l) h
  where
    go : (b : Bool) → (find (vast s) l ≡ None → find (vast_fields s) (map (λ (t : Opened). t.fields) l) ≡ None) → cond b (Some t) (find (vast s) l) ≡ None
        → cond b (Some t.fields) (find (vast_fields s) (map (λ (t : Opened). t.fields) l)) ≡ None
    go true ih h = absurd (let z : ◌≡◌ {A = ℕ} 0 1 = cc in omega arith)
    go false ih h = ih h

fields-find : (s : Schema) (l : List Opened) → find (vast_fields s) (map (λ (t : Opened). t.fields) l) ≡ None → find (vast s) l ≡ None
unfolding find vast vast_fields
fields-find s [] h = refl
fields-find s (t ∷ l) h = go (any large (places s 0 t.fields)) (fields-find s l) h
  where
    go : (b : Bool) → (find (vast_fields s) (map (λ (t : Opened). t.fields) l) ≡ None → find (vast s) l ≡ None)
        → cond b (Some t.fields) (find (vast_fields s) (map (λ (t : Opened). t.fields) l)) ≡ None → cond b (Some t) (find (vast s) l) ≡ None
    go true ih h = absurd (let z : ◌≡◌ {A = ℕ} 0 1 = cc in omega arith)
    go false ih h = ih h

-- an accepted record has no vast fields, by its contents
pub none-vast-in : (side : Side) (r : Rec) (t : Schema) → reading side r ≡ read t → find (vast_fields t) (opened_fields (contents_of r)) ≡ None
unfolding contents_of
none-vast-in side r t h =
    ap (find (vast_fields t)) (sym (opened_in r.stream r.pool (commands_at r.stream 0)))
    ∙ find-fields t (opened r.stream r.pool (commands_at r.stream 0)) (accepting side r t h).none-vast

-- and a record without any is read, if it is parsed and short enough
pub sizes-read : (r : Rec) → find (vast_fields (schema_of r)) (opened_fields (contents_of r)) ≡ None → sizes_of r (commands_at r.stream 0) ≡ read (schema_of r)
unfolding sizes_of vast_or schema_of contents_of
sizes-read r h =
    rw (fields-find (schema_from r (commands_at r.stream 0)) (opened r.stream r.pool (commands_at r.stream 0))
    (ap (find (vast_fields (schema_from r (commands_at r.stream 0)))) (opened_in r.stream r.pool (commands_at r.stream 0)) ∙ h))

-- lengths --------------------------------------------------------------------------------------------------------------------------

module _ (side : Side) (s : Str) (pool : Str) (f : ℕ → ℕ) where
  done_at : (c : Cursor) → judged_at side s pool c ≡ Ok None → c.at + 1 ≡ length s
  unfolding ready operands bytes widths
  done_at c e =
      let p = passed side s pool c (Ok None) tt e in
      go p (eqb (get_or s c.at 0) 15) refl (eqb (c.at + (1 + widths p.row)) (length s)) refl p.is-ready
    where
      go : (p : Passed side s pool c (Ok None)) (t : Bool) → eqb (get_or s c.at 0) 15 ≡ t → (u : Bool) → eqb (c.at + (1 + widths p.row)) (length s) ≡ u
          → cond {A = Judged} t (cond u (Ok None) (Err (R.Misplaced, c.at + (1 + widths p.row)))) (Ok (Some (command_of (get_or s c.at 0) (drop c.at s), advanced c (get_or s c.at 0) (1 + widths p.row)))) ≡ Ok None
          → c.at + 1 ≡ length s
      go p true q true w h =
          let a : operands 15 ≡ Some p.row = ap operands (sym (eqb-true (get_or s c.at 0) 15 q)) ∙ p.has-row in
          let b : [] ≡ p.row = cc in
          let d : widths p.row ≡ 0 = ap widths (sym b) in
          let g = eqb-true (c.at + (1 + widths p.row)) (length s) w in
          omega arith
      go p true q false w h = absurd (let z : ◌≡◌ {A = ℕ} 0 1 = cc in omega arith)
      go p false q u w h = absurd (let z : ◌≡◌ {A = ℕ} 0 1 = cc in omega arith)

  length-written : (at : ℕ) (row : Str) → operands (get_or s at 0) ≡ Some row → length (written_at f s at) ≡ 1 + widths row
  unfolding written_at row_with
  length-written at row e = rw e (let z = length-row [] [] (omega arith) f side (drop at s) 1 row in omega arith)

  -- commands written anew take as many bytes
  pub length-all : (k : ℕ) (c : Cursor) (ps : List ℕ) → parse k side s pool c ≡ ok ps → c.at + length (joined (written f s ps)) + 1 ≡ length s
  unfolding parse continued joined written
  length-all zero c ps h = absurd (let z : ◌≡◌ {A = ℕ} 0 1 = cc in omega arith)
  length-all (suc k) c ps h = go (judged_at side s pool c) refl h (λ j qs e. length-all k j qs e)
    where
      go : (j : Judged) → judged_at side s pool c ≡ j → continued c.at (parse k side s pool) j ≡ ok ps
          → ((j : Cursor) (qs : List ℕ) → parse k side s pool j ≡ ok qs → j.at + length (joined (written f s qs)) + 1 ≡ length s) → c.at + length (joined (written f s ps)) + 1 ≡ length s
      go (Ok (Some (d, j))) e h ih =
          let t = onto-ok c.at (parse k side s pool j) ps h in
          let w = went side s pool c d j e in
          let i = ih j t.more t.parsed-so in
          let a : c.at + (1 + widths w.row) ≡ j.at = ap (λ (x : Cursor). x.at) w.next in
          let b = length-append (written_at f s c.at) (joined (written f s t.more)) in
          let l = length-written c.at w.row w.has-row in
          let z : c.at + length (joined (written f s (c.at ∷ t.more))) + 1 ≡ length s = omega arith in
          subst (λ (l : List ℕ). c.at + length (joined (written f s l)) + 1 ≡ length s) t.whole z
      go (Ok None) e h ih =
          let q : [] ≡ ps = cc in
          let z : c.at + length (joined (written f s [])) + 1 ≡ length s = let d = done_at c e in omega arith in
          subst (λ (l : List ℕ). c.at + length (joined (written f s l)) + 1 ≡ length s) q z
      go (Err (r, q)) e h ih = absurd (let z : ◌≡◌ {A = ℕ} 0 1 = cc in omega arith)
