-- Every record that can be read is its head, whole sections and the end, and its enums, bit fields and families are made of their parts.
-- Assumes nothing.
use Rattle.std.specs.Prelude.{Option, Some, None, Ok, Err}
use mathlib.Core.Path.{◌≡◌, refl, sym, ◌∙◌, ap, ap₂, subst}
use mathlib.Core.List.Memᴰ
use mathlib.Core.List.{List, [], ◌∷◌, ◌++◌, flatten, Memᴰ}
use mathlib.Core.Bool.{Bool, true, false, ◌||◌, not, cond, false≢true, beq}
use mathlib.Core.Logic.{◌⊎◌, inl, inr}
use Prim.Native.Nat.{ℕ, zero, suc, ◌+◌, ◌-◌, ◌≤◌}
use native.Mathlib.Omega.{arith}
use lib.Dec.{eqb}
use lib.ListN.{length, get_or, take, drop, take-append-drop, length-drop, drop_of_length-le}
use lib.Seq.{length-take-le, drop-cons, drop-drop, get_or-take, get_or-drop}
use borrow.Author.Tests.{eqb-true, eq-eqb, not-true}
use Rattle.record.specs.Base.{Str, any, is_some}
use Rattle.record.specs.Schema.{Schema}
use Rattle.record.specs.Commands.{operands, widths, width_with, width_of, command_of, commands_at, start}
use Rattle.record.specs.Judge.{may_stand, follows, parent_after, advanced, ready, judged_at}
use Rattle.record.specs.Reading.{Rec, read, ok, continued, parse, parsed, reading}
use Rattle.record.specs.declared.command.Command.{Command}
use Rattle.record.specs.declared.command.Cursor.{Cursor}
use Rattle.record.specs.declared.command.Parent.{Parent}
use Rattle.record.specs.declared.command.Parent.TheVariants.{NoParent}
use Rattle.record.specs.declared.refusal.Side.{Side}
use Rattle.record.specs.declared.refusal.Refusal.TheVariants as R
use Rattle.record.proofs.Basics.{both}
use Rattle.record.proofs.Accepted.{Passed, passed, onto-ok, accepting}
use Rattle.definition.specs.Pass.{all_of}
use Rattle.definition.specs.Sections.{number, stream_of, is_command, are_commands, is_group, openers, insiders, is_section, Sectioned, Part, section_number, part_number, field_numbers, is_part, Parted}
use Rattle.definition.proofs.Same.{beq→eq}
use Rattle.definition.proofs.Lists.{all-of}
use Rattle.definition.proofs.CommandStreams.{one_of, its-number, command_numbers, Whole, AllWhole, not-zero, CommandsFrom, is_number, stream-whole}
use Rattle.definition.proofs.Validity.{cursor_after, faultless, valid, end_row, taken_next, parsed-valid}
use Rattle.definition.proofs.SectionLists.{again, body_numbers}
use Rattle.definition.proofs.ValidSections.{valid_alone, valid-sections, section-body}
use Rattle.record.specs.Judge.{Judged}

-- the commands of a stream ------------------------------------------------------------------------------------------------

some-cond : (c : Bool) (x : Str) (y : Option Str) (z : Bool) → is_some y ≡ z → is_some (cond c (Some x) y) ≡ (c || z)
unfolding is_some
some-cond true x y z h = refl
some-cond false x y z h = h

row_numbers : List ℕ
row_numbers = 1 ∷ 2 ∷ 3 ∷ 4 ∷ 5 ∷ 6 ∷ 7 ∷ 8 ∷ 9 ∷ 10 ∷ 11 ∷ 12 ∷ 13 ∷ 14 ∷ 15 ∷ []

rows_are : (b : ℕ) → is_some (operands b) ≡ any (eqb b) row_numbers
unfolding operands any row_numbers
rows_are b =
    some-cond (eqb b 1) _ _ _ (some-cond (eqb b 2) _ _ _ (some-cond (eqb b 3) _ _ _ (some-cond (eqb b 4) _ _ _
    (some-cond (eqb b 5) _ _ _ (some-cond (eqb b 6) _ _ _ (some-cond (eqb b 7) _ _ _ (some-cond (eqb b 8) _ _ _
    (some-cond (eqb b 9) _ _ _ (some-cond (eqb b 10) _ _ _ (some-cond (eqb b 11) _ _ _ (some-cond (eqb b 12) _ _ _
    (some-cond (eqb b 13) _ _ _ (some-cond (eqb b 14) _ _ _ (some-cond (eqb b 15) _ None false (unfold is_some in refl)))))))))))))))

-- a number that has a row is a command's or the end's
known-number : (b : ℕ) (os : Str) → operands b ≡ Some os → (b ≡ 15 → ⊥) → any (eqb b) command_numbers ≡ true
unfolding row_numbers all_of command_numbers any is_some
known-number b os e g =
    go (eqb b 15) refl (one_of (λ (k : ℕ). eqb k 15 || any (eqb k) command_numbers) row_numbers refl b (sym (rows_are b) ∙ ap is_some e))
  where
    go : (t : Bool) → eqb b 15 ≡ t → (t || any (eqb b) command_numbers) ≡ true → any (eqb b) command_numbers ≡ true
    go true q h = absurd (g (eqb-true b 15 q))
    go false q h = h

row-width : (b : ℕ) (os : Str) → operands b ≡ Some os → width_of b ≡ 1 + widths os
unfolding width_of width_with
row-width b os e = ap width_with e

-- one command of a stream
record FirstCommand (s : Str) (at : ℕ) (x : Str) : Type 0 where
  wide : length x ≡ width_of (number x)
  is_number : number x ≡ get_or s at 0
  rest : drop at s ≡ x ++ drop (at + length x) s

first-command : (s : Str) (at w : ℕ) → 1 ≤ w → w ≤ length s - at → width_of (get_or s at 0) ≡ w → FirstCommand s at (take w (drop at s))
first-command s at w h k e =
    let d = length-drop at s in
    let l : length (take w (drop at s)) ≡ w = length-take-le w (drop at s) (omega arith) in
    let z : at + 0 ≡ at = omega arith in
    let n : number (take w (drop at s)) ≡ get_or s at 0 = get_or-take w (drop at s) 0 0 (omega arith) ∙ get_or-drop at s 0 0 ∙ ap (λ (i : ℕ). get_or s i 0) z in
    record {
      wide = l ∙ sym e ∙ ap width_of (sym n);
      is_number = n;
      rest = sym (take-append-drop w (drop at s)) ∙ ap (λ (r : Str). take w (drop at s) ++ r) (drop-drop w at s)
          ∙ ap (λ (i : ℕ). take w (drop at s) ++ drop (at + i) s) (sym l);
    }

and-more : (x : Str) (xs : List Str) → Whole x → AllWhole xs → AllWhole (x ∷ xs)
and-more x xs w c y (Memᴰ.head e) = subst Whole (sym e) w
and-more x xs w c y (Memᴰ.tail m) = c y m

module _ (side : Side) (pool : Str) (s : Str) where
  done_end : (c : Cursor) → Passed side s pool c (Ok None) → drop c.at s ≡ 15 ∷ []
  unfolding ready widths
  done_end c p = go (eqb (get_or s c.at 0) 15) refl p.is-ready
    where
      at_last : get_or s c.at 0 ≡ 15 → c.at + (1 + widths p.row) ≡ length s → drop c.at s ≡ 15 ∷ []
      at_last e q =
          let r : Some p.row ≡ Some [] = sym p.has-row ∙ ap operands e ∙ end_row in
          let w : p.row ≡ [] = cc in
          let v = ap widths w in
          drop-cons s c.at 0 p.inside ∙ ap₂ ◌∷◌ e (drop_of_length-le s {i = suc c.at} (omega arith))

      last : get_or s c.at 0 ≡ 15 → (t : Bool) → eqb (c.at + (1 + widths p.row)) (length s) ≡ t
          → cond {A = Judged} t (Ok None) (Err (R.Misplaced, c.at + (1 + widths p.row))) ≡ Ok None → drop c.at s ≡ 15 ∷ []
      last e true q h = at_last e (eqb-true (c.at + (1 + widths p.row)) (length s) q)
      last e false q h = absurd (let z : ◌≡◌ {A = ℕ} 0 1 = cc in omega arith)

      go : (t : Bool) → eqb (get_or s c.at 0) 15 ≡ t
          → cond {A = Judged} t (cond (eqb (c.at + (1 + widths p.row)) (length s)) (Ok None) (Err (R.Misplaced, c.at + (1 + widths p.row))))
          (Ok (Some (command_of (get_or s c.at 0) (drop c.at s), advanced c (get_or s c.at 0) (1 + widths p.row)))) ≡ Ok None → drop c.at s ≡ 15 ∷ []
      go true e h = last (eqb-true (get_or s c.at 0) 15 e) (eqb (c.at + (1 + widths p.row)) (length s)) refl h
      go false e h = absurd (let z : ◌≡◌ {A = ℕ} 0 1 = cc in omega arith)

  not_end : (c : Cursor) (b w : ℕ) (d : Command) (k : Cursor) → ready s c b w ≡ Ok (Some (d, k)) → b ≡ 15 → ⊥
  unfolding ready
  not_end c b w d k e q =
      go (eqb (c.at + w) (length s)) (sym (ap (λ (t : Bool). cond {A = Judged} t (cond (eqb (c.at + w) (length s)) (Ok None) (Err (R.Misplaced, c.at + w))) (Ok (Some (command_of b (drop c.at s), advanced c b w)))) (eq-eqb b 15 q)) ∙ e)
    where
      go : (t : Bool) → cond {A = Judged} t (Ok None) (Err (R.Misplaced, c.at + w)) ≡ Ok (Some (d, k)) → ⊥
      go true h = let z : ◌≡◌ {A = ℕ} 0 1 = cc in omega arith
      go false h = let z : ◌≡◌ {A = ℕ} 0 1 = cc in omega arith

  -- what is parsed is whole commands and the end
  parse-whole : (k : ℕ) (c : Cursor) (ps : List ℕ) → parse k side s pool c ≡ ok ps → (xs : List Str) × CommandsFrom s c.at xs × AllWhole xs
  unfolding parse stream_of
  parse-whole zero c ps e = absurd (let z : ◌≡◌ {A = ℕ} 0 1 = cc in omega arith)
  parse-whole (suc k) c ps e = go (parse-whole k) (judged_at side s pool c) refl e
    where
      on : ((d : Cursor) (qs : List ℕ) → parse k side s pool d ≡ ok qs → (xs : List Str) × CommandsFrom s d.at xs × AllWhole xs)
          → (d : Command) (i : Cursor) → Passed side s pool c (Ok (Some (d, i))) → (qs : List ℕ) → parse k side s pool i ≡ ok qs
          → (xs : List Str) × CommandsFrom s c.at xs × AllWhole xs
      on ih d i p qs h =
          let b = get_or s c.at 0 in
          let w = 1 + widths p.row in
          let g = not_end c b w d i p.is-ready in
          let m : advanced c b w ≡ i = taken_next side pool s c b w d i g p.is-ready in
          let f = first-command s c.at w (omega arith) p.whole (row-width b p.row p.has-row) in
          let x = take w (drop c.at s) in
          let l : length x ≡ w = f.wide ∙ ap width_of f.is_number ∙ row-width b p.row p.has-row in
          let r = ih (advanced c b w) qs (ap (parse k side s pool) m ∙ h) in (
            x ∷ r.0,
            f.rest ∙ ap (λ (t : Str). x ++ t) (ap (λ (j : ℕ). drop (c.at + j) s) l ∙ r.1),
            and-more x r.0 (record {
              wide = f.wide;
              known = ap (λ (j : ℕ). any (eqb j) command_numbers) f.is_number
                  ∙ known-number b p.row p.has-row g;
            }) r.2,
          )

      go : ((d : Cursor) (qs : List ℕ) → parse k side s pool d ≡ ok qs → (xs : List Str) × CommandsFrom s d.at xs × AllWhole xs) → (j : Judged)
          → judged_at side s pool c ≡ j → continued c.at (parse k side s pool) j ≡ ok ps → (xs : List Str) × CommandsFrom s c.at xs × AllWhole xs
      go ih (Ok (Some (d, i))) f h =
          let t = onto-ok c.at (parse k side s pool i) ps (unfold continued in h) in
          on ih d i (passed side s pool c (Ok (Some (d, i))) tt f) t.more t.parsed-so
      go ih (Ok None) f h = ([], done_end c (passed side s pool c (Ok None) tt f), λ x m. absurd (Memᴰ.not-nil m))
      go ih (Err (r, q)) f h = unfold continued in absurd (let z : ◌≡◌ {A = ℕ} 0 1 = cc in omega arith)

-- sections ----------------------------------------------------------------------------------------------------------------

is_one : (l : List ℕ) (x : Str) → Whole x → any (eqb (number x)) l ≡ true → is_command l x ≡ true
unfolding is_command
is_one l x w h = rw (eq-eqb (length x) (width_of (number x)) w.wide, h)

-- only the head may stand first, and only there
head_first : (b : ℕ) → any (eqb b) command_numbers ≡ true → may_stand (cursor_after 0 NoParent) b ≡ eqb b 1
unfolding command_numbers may_stand follows all_of any
head_first b h = beq→eq _ _ (one_of (λ (k : ℕ). beq (may_stand (cursor_after 0 NoParent) k) (eqb k 1)) command_numbers refl b h)

no-stand : (b : ℕ) → any (eqb b) insiders ≡ true → may_stand (cursor_after 1 NoParent) b ≡ false
unfolding insiders may_stand follows all_of
no-stand b h = not-true (may_stand (cursor_after 1 NoParent) b) (one_of (λ (k : ℕ). not (may_stand (cursor_after 1 NoParent) k)) insiders refl b h)

begins-or-inside : (l : ℕ) (p : Parent) (x : Str) → eqb l 0 ≡ false → Whole x → may_stand (cursor_after l p) (number x) ≡ true
    → (is_command openers x ≡ true) ⊎ (is_command insiders x ≡ true)
unfolding may_stand command_numbers openers insiders all_of any
begins-or-inside l p x z w m =
    go (eqb (number x) 1) refl (any (eqb (number x)) openers) refl
    (one_of (λ (k : ℕ). eqb k 1 || (any (eqb k) openers || any (eqb k) insiders)) command_numbers refl (number x) w.known)
  where
    go : (a : Bool) → eqb (number x) 1 ≡ a → (c : Bool) → any (eqb (number x)) openers ≡ c → (a || (c || any (eqb (number x)) insiders)) ≡ true
        → (is_command openers x ≡ true) ⊎ (is_command insiders x ≡ true)
    go true q c g k = absurd (false≢true (sym z ∙ sym (ap (may_stand (cursor_after l p)) (eqb-true (number x) 1 q)) ∙ m))
    go false q true g k = inl (is_one openers x w g)
    go false q false g k = inr (is_one insiders x w k)

-- each command behind the head begins a section or is inside one
each-command : (side : Side) (pool : Str) (l : ℕ) (p : Parent) (xs : List Str) → eqb l 0 ≡ false → AllWhole xs → valid side pool l p xs ≡ true
    → (x : Str) → Memᴰ x xs → (is_command openers x ≡ true) ⊎ (is_command insiders x ≡ true)
unfolding valid
each-command side pool l p [] z c h x m = absurd (Memᴰ.not-nil m)
each-command side pool l p (y ∷ ys) z c h x (Memᴰ.head e) =
    subst (λ (u : Str). (is_command openers u ≡ true) ⊎ (is_command insiders u ≡ true)) (sym e)
    (begins-or-inside l p y z (c y (Memᴰ.head refl)) (both (may_stand (cursor_after l p) (number y)) _ h).0)
each-command side pool l p (y ∷ ys) z c h x (Memᴰ.tail m) =
    each-command side pool (number y) (parent_after p (number y)) ys (not-zero (c y (Memᴰ.head refl))) (λ u i. c u (Memᴰ.tail i))
    (both (faultless side pool y) _ (both (may_stand (cursor_after l p) (number y)) _ h).1).1 x m

-- commands inside, and then groups
record Grouped (begin inside : List ℕ) (xs : List Str) : Type 0 where
  front : List Str
  are-inside : are_commands inside front ≡ true
  groups : List (List Str)
  are-groups : all_of (is_group begin inside) groups ≡ true
  together : front ++ flatten groups ≡ xs

grouped : (begin inside : List ℕ) (xs : List Str) → ((x : Str) → Memᴰ x xs → (is_command begin x ≡ true) ⊎ (is_command inside x ≡ true))
    → Grouped begin inside xs
unfolding are_commands all_of flatten
grouped begin inside [] h = record { front = []; are-inside = refl; groups = []; are-groups = refl; together = refl }
grouped begin inside (x ∷ xs) h = go (h x (Memᴰ.head refl)) (grouped begin inside xs (λ y m. h y (Memᴰ.tail m)))
  where
    go : (is_command begin x ≡ true) ⊎ (is_command inside x ≡ true) → Grouped begin inside xs → Grouped begin inside (x ∷ xs)
    go (inl o) r = record {
      front = [];
      are-inside = refl;
      groups = (x ∷ r.front) ∷ r.groups;
      are-groups = rw (o, r.are-inside, r.are-groups);
      together = ap (λ (l : List Str). x ∷ l) r.together;
    }
    go (inr i) r = record {
      front = x ∷ r.front;
      are-inside = rw (i, r.are-inside);
      groups = r.groups;
      are-groups = r.are-groups;
      together = ap (λ (l : List Str). x ∷ l) r.together;
    }

-- none is inside before the first section
none_before : (side : Side) (pool : Str) (fs zs : List Str) → are_commands insiders fs ≡ true → valid side pool 1 NoParent (fs ++ zs) ≡ true → fs ≡ []
unfolding are_commands all_of valid
none_before side pool [] zs h e = refl
none_before side pool (f ∷ fs) zs h e =
    absurd (false≢true (sym (no-stand (number f) (its-number insiders f (both (is_command insiders f) _ h).0))
    ∙ (both (may_stand (cursor_after 1 NoParent) (number f)) _ e).0))

sectioned : (side : Side) (r : Rec) (pool : Str) (xs : List Str) → r.stream ≡ stream_of xs → AllWhole xs → valid side pool 0 NoParent xs ≡ true → Sectioned r
unfolding is_section valid parent_after any
sectioned side r pool [] e c h = absurd (false≢true h)
sectioned side r pool (x ∷ xs) e c h =
    let w = c x (Memᴰ.head refl) in
    let m = both (may_stand (cursor_after 0 NoParent) (number x)) _ h in
    let one : number x ≡ 1 = eqb-true (number x) 1 (sym (head_first (number x) w.known) ∙ m.0) in
    let valid-here : valid side pool 1 NoParent xs ≡ true = subst (λ (k : ℕ). valid side pool k (parent_after NoParent k) xs ≡ true) one
    (both (faultless side pool x) _ m.1).1 in
    let g = grouped openers insiders xs (each-command side pool 1 NoParent xs refl (λ y i. c y (Memᴰ.tail i)) valid-here) in
    let bare = none_before side pool g.front (flatten g.groups) g.are-inside (ap (valid side pool 1 NoParent) g.together ∙ valid-here) in
    record {
      head = x;
      is-head = is_one (1 ∷ []) x w (rw (eq-eqb (number x) 1 one));
      sections = g.groups;
      are-sections = g.are-groups;
      stream = e ∙ ap (λ (l : List Str). stream_of (x ∷ l)) (sym g.together ∙ ap (λ (l : List Str). l ++ flatten g.groups) bare);
    }

pub readable-sectioned : (side : Side) (r : Rec) (t : Schema) → reading side r ≡ read t → Sectioned r
unfolding parsed
readable-sectioned side r t h =
    let a = accepting side r t h in
    let w = parse-whole side r.pool r.stream (length r.stream + 1) start (commands_at r.stream 0) a.parsed-all in
    sectioned side r r.pool w.0 w.1 w.2
    (parsed-valid side r.pool r.stream (length r.stream + 1) start w.0 (commands_at r.stream 0) w.1 w.2 a.parsed-all)

-- a command of a section with parts begins a part or is a field
part-or-field : (k : Part) (x : Str) → is_command (body_numbers k) x ≡ true → (is_command (part_number k ∷ []) x ≡ true) ⊎ (is_command (field_numbers k) x ≡ true)
unfolding body_numbers any
part-or-field k x h = go (eqb (number x) (part_number k)) refl (its-number (body_numbers k) x h)
  where
    go : (t : Bool) → eqb (number x) (part_number k) ≡ t → (t || any (eqb (number x)) (field_numbers k)) ≡ true
        → (is_command (part_number k ∷ []) x ≡ true) ⊎ (is_command (field_numbers k) x ≡ true)
    go true e i = inl (again (body_numbers k) (part_number k ∷ []) x h (ap (λ (t : Bool). t || false) e))
    go false e i = inr (again (body_numbers k) (field_numbers k) x h i)

-- 02's "two variants of a family, two enum values or two members" are parts of their section in every record that can be read
pub readable-parted : (side : Side) (r : Rec) (t : Schema) → reading side r ≡ read t → (c : Sectioned r) (k : Part) (x : Str) (xs : List Str)
    → Memᴰ (x ∷ xs) c.sections → number x ≡ section_number k → Parted k (x ∷ xs)
readable-parted side r t h c k x xs m e = record {
  opener = x;
  is-opener = again openers (section_number k ∷ []) x (unfold is_section in (both (is_command openers x) _ section).0)
      (unfold any in rw (eq-eqb (number x) (section_number k) e));
  fields = g.front;
  are-fields = g.are-inside;
  parts = g.groups;
  are-parts = unfold is_part in g.are-groups;
  commands = ap (λ (l : List Str). x ∷ l) (sym g.together);
}
  where
    pool : Str
    pool = r.pool

    section : is_section (x ∷ xs) ≡ true
    section = all-of is_section c.sections c.are-sections m

    stream-valid : valid side pool 0 NoParent (c.head ∷ flatten c.sections) ≡ true
    stream-valid =
        unfold parsed in
        parsed-valid side pool r.stream (length r.stream + 1) start (c.head ∷ flatten c.sections) (commands_at r.stream 0) c.stream
        (stream-whole c.head c.sections c.is-head c.are-sections) (accepting side r t h).parsed-all

    behind : valid_alone side pool (flatten c.sections) ≡ true
    behind =
        unfold valid parent_after in
        subst (λ (b : ℕ). valid side pool b (parent_after NoParent b) (flatten c.sections) ≡ true) (is_number 1 c.head c.is-head)
        (both (faultless side pool c.head) _ (both (may_stand (cursor_after 0 NoParent) (number c.head)) _ stream-valid).1).1

    alone : valid_alone side pool (x ∷ xs) ≡ true
    alone = all-of (valid_alone side pool) c.sections (sym (valid-sections side pool c.sections c.are-sections) ∙ behind) m

    body : are_commands (body_numbers k) xs ≡ true
    body = section-body side pool k x xs section e alone

    g : Grouped (part_number k ∷ []) (field_numbers k) xs
    g = unfold are_commands in grouped (part_number k ∷ []) (field_numbers k) xs (λ y i. part-or-field k y (all-of (is_command (body_numbers k)) xs body i))
