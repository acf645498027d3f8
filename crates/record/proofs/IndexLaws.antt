-- The index of a record while it is filled, and the way along the places of one number. Assumes nothing.
use Rattle.std.specs.Prelude.{Option, Some, None}
use Prim.Native.Nat.{ℕ, suc, ◌+◌, ◌-◌, ◌*◌, ◌/◌, ◌%◌, ◌≤◌, ◌<◌}
use mathlib.Core.Path.{◌≡◌, refl, sym, ap, subst, ◌∙◌}
use mathlib.Core.List.{◌++◌, List, [], ◌∷◌}
use mathlib.Core.Logic.{inr, ⊎_elim}
use mathlib.Core.Bool.{Bool, true, false, ◌&&◌, ◌||◌, cond, false≢true}
use native.Mathlib.Omega.{arith}
use borrow.Author.Tests.{eq-eqb, ne_eqb, eqb-true, eqb-false, lt-ltb, le-ltb, ltb-false}
use lib.Dec.{eqb, ltb}
use lib.ListN.{replicate, length-replicate, length-append, get_or-append, length, get_or, set, drop, length-set}
use lib.Seq.{get_or-set_same, get_or-set_other}
use Rattle.std.proofs.lemmas.List.{get_or-replicate, length-drop}
use Rattle.record.specs.Le.{u32_at}
use Rattle.record.specs.Base.{Str, bytes, eqs, find, last_or, find_last, any, is_some}
use Rattle.record.specs.Stretch.{text_of}
use Rattle.record.specs.Operands.{text_at}
use Rattle.record.specs.Schema.{Family}
use Rattle.record.specs.Commands.{operands, wide, widths, width_with, width_of, step_at, commands_at}
use Rattle.record.specs.Lists.{anything, listed, constants, unstored, aliases, enums, bitfields, structs, families}
use Rattle.record.specs.Steps.{values_at, members_at, fields_at, variants_at, constants_at, aliases_at, enums_at, bitfields_at, structs_at, families_at, unstored_at, constant_in, alias_in, enum_in, bitfield_in, struct_in, family_in}
use Rattle.record.specs.Seek.{after_at, SoughtFrom}
use Rattle.record.specs.Index.{mixed, hash_of, declared_name, declares, is_named, is_flagged, counts, onto, declaring, declared_places, hash_at, put_at, latest, Linked, IndexRoom, Chained, Indexed, hit_in, first_in, link_before, Headless, first_place, FirstNamed, LastNamed, sought_at, constant_placed, unstored_placed, alias_placed, enum_placed, bitfield_placed, struct_placed, family_placed, PlaceNamed, Declared, LastDeclared, Alone, Findable, Looked}
use Rattle.record.specs.declared.text.Text.{Text}
use Rattle.record.specs.declared.command.Cursor.{Cursor}
use Rattle.record.specs.declared.command.Command.{Command}
use Rattle.record.specs.declared.seek.Between.TheVariants.{Anything}
use Rattle.record.proofs.Basics.{eqs→eq}
use Rattle.record.proofs.Stream.{step-found, along, commands-stop, commands-next}
use Rattle.record.proofs.ListLaws.{byte_of, byte-is, listed-stop, listed_here, listed-over, find_none, find-hit, find-miss}
use Rattle.record.proofs.SeekLaws.{Stepped, stepped, ended-there, listed-none, listed-some}

-- names ------------------------------------------------------------------------------------------------------------------

module _ (x : Str) where
  pub mixed-is : (at n : ℕ) → n ≡ u32_at x at → n * 2246822519 / 268435456 ≡ mixed x at
  unfolding mixed
  mixed-is at n e = rw e

  pub hash-short : (a b c : ℕ) → length x < 4 → a ≡ get_or x 0 0 → b ≡ get_or x 1 0 → c ≡ get_or x 2 0 → (195 * (length x % 256) + 142 * a + 20 * b + 205 * c) % 256 ≡ hash_of x
  unfolding hash_of
  hash-short a b c h e f g = rw (lt-ltb (length x) 4 h, e, f, g)

  pub hash-long : (a n : ℕ) → 4 ≤ length x → a ≡ get_or x 0 0 → n ≡ mixed x (length x - 4) → (195 * (length x % 256) + 142 * a + n) % 256 ≡ hash_of x
  unfolding hash_of
  hash-long a n h e f = rw (le-ltb (length x) 4 h, e, f)

  pub hash-below : hash_of x < 256
  unfolding hash_of
  hash-below = go (ltb (length x) 4) (195 * (length x % 256) + 142 * get_or x 0 0 + 20 * get_or x 1 0 + 205 * get_or x 2 0) (195 * (length x % 256) + 142 * get_or x 0 0 + mixed x (length x - 4))
    where
      go : (t : Bool) (m n : ℕ) → cond t (m % 256) (n % 256) < 256
      go true m n = omega arith
      go false m n = omega arith

pub ruleset hash-laws = (hash-short, hash-long)

pub named-there : (s p : Str) (at : ℕ) (y n : Str) (t : Text) → y ≡ drop at s → t ≡ text_at y 1 → n ≡ text_of p t → n ≡ declared_name s p at
unfolding declared_name
named-there s p at y n t d e f = f ∙ ap (text_of p) (e ∙ ap (λ (z : Str). text_at z 1) d)

module _ (b : ℕ) where
  -- such a command takes seven bytes at least
  declares-wide : declares b ≡ true → 7 ≤ width_of b
  unfolding declares width_of width_with operands widths wide bytes
  declares-wide e = go (eqb b 8) (eqb b 9) (eqb b 3) (eqb b 4) (eqb b 2) (eqb b 13) (eqb b 6) refl refl refl refl refl refl refl e
    where
      of : (k : ℕ) → eqb b k ≡ true → 7 ≤ width_of k → 7 ≤ width_of b
      of k h l = subst (λ (x : ℕ). 7 ≤ width_of x) (sym (eqb-true b k h)) l

      go : (v w x y z t u : Bool) → eqb b 8 ≡ v → eqb b 9 ≡ w → eqb b 3 ≡ x → eqb b 4 ≡ y → eqb b 2 ≡ z → eqb b 13 ≡ t → eqb b 6 ≡ u → cond v true (cond w true (cond x true (cond y true (cond z true (cond t true u))))) ≡ true → 7 ≤ width_of b
      go true w x y z t u h i j k l m n q = of 8 h (omega arith)
      go false true x y z t u h i j k l m n q = of 9 i (omega arith)
      go false false true y z t u h i j k l m n q = of 3 j (omega arith)
      go false false false true z t u h i j k l m n q = of 4 k (omega arith)
      go false false false false true t u h i j k l m n q = of 2 l (omega arith)
      go false false false false false true u h i j k l m n q = of 13 m (omega arith)
      go false false false false false false true h i j k l m n q = of 6 n (omega arith)
      go false false false false false false false h i j k l m n q = absurd (false≢true q)

and-false : (v : Bool) → v && false ≡ false
and-false true = refl
and-false false = refl

-- a command of the name has the name's number
other-number : (s p : Str) (b : ℕ) (n : Str) (at : ℕ) → eqb (hash_at s p at) (hash_of n) ≡ false → is_named s p b n at ≡ false
unfolding is_named hash_at
other-number s p b n at h = go (eqb (get_or s at 0) b) (eqs (declared_name s p at) n) refl
  where
    go : (v w : Bool) → eqs (declared_name s p at) n ≡ w → v && w ≡ false
    go true true e = absurd (eqb-false _ _ h (ap hash_of (eqs→eq _ _ e)))
    go true false e = refl
    go false w e = refl

flag-other : (s p : Str) (b f : ℕ) (n : Str) (at : ℕ) → eqb (hash_at s p at) (hash_of n) ≡ false → counts s p b f n at ≡ false
unfolding counts
flag-other s p b f n at h = ap (λ (v : Bool). is_flagged s f at && v) (other-number s p b n at h) ∙ and-false (is_flagged s f at)

-- an index while it is filled --------------------------------------------------------------------------------------------

module _ (key : ℕ → ℕ) where
  linked-above : (x : List ℕ) (top to : ℕ) (l : List ℕ) → top ≤ to → Linked x key top l → Linked x key to l
  unfolding Linked
  linked-above x top to [] h i = tt
  linked-above x top to (q ∷ l) h i = let a = i.0 in (omega arith, i.1, i.2)

  -- numbers elsewhere may change
  linked-same : (x y : List ℕ) (at top : ℕ) (l : List ℕ) → top ≤ at → ((q : ℕ) → q + 7 ≤ at → get_or y (256 + q / 7) 0 ≡ get_or x (256 + q / 7) 0) → Linked x key top l → Linked y key top l
  unfolding Linked
  linked-same x y at top [] h f i = tt
  linked-same x y at top (q ∷ l) h f i = let a = i.0 in (a, f q (omega arith) ∙ i.1, linked-same x y at q l (omega arith) f i.2)

  latest-below : (x : List ℕ) (h top : ℕ) (l : List ℕ) → Linked x key top l → latest key h l ≤ top
  unfolding Linked latest
  latest-below x h top [] i = omega arith
  latest-below x h top (q ∷ l) i = go (eqb (key q) h) (let a = i.0 in let r = latest-below x h q l i.2 in r)
    where
      go : (b : Bool) → latest key h l ≤ q → cond b (suc q) (latest key h l) ≤ top
      go true r = let a = i.0 in omega arith
      go false r = let a = i.0 in omega arith

  module _ (x : List ℕ) (at to h : ℕ) (l : List ℕ) (c : Chained x key at l) (small : h < 256) (is : h ≡ key at) (room : 256 + at / 7 < length x) (on : at + 7 ≤ to) where
    was : ℕ
    was = get_or x h 0

    one : List ℕ
    one = set x (256 + at / 7) was

    two : List ℕ
    two = set one h (at + 1)

    elsewhere : (q : ℕ) → (q ≡ h → ⊥) → (q ≡ 256 + at / 7 → ⊥) → get_or two q 0 ≡ get_or x q 0
    unfolding one two
    elsewhere q i j = get_or-set_other one h q (at + 1) 0 i ∙ get_or-set_other x (256 + at / 7) q was 0 j

    chained-two : Chained two key to (at ∷ l)
    unfolding Linked latest one two was
    chained-two = record {
      heads = λ g b. go g b (eqb (key at) g) refl;
      linked = (
        on,
        get_or-set_other one h (256 + at / 7) (at + 1) 0 (λ e. omega arith) ∙ get_or-set_same x (256 + at / 7) was 0 room ∙ c.heads h small ∙ ap (λ (k : ℕ). latest key k l) is,
        linked-same x two at at l (omega arith) (λ q e. elsewhere (256 + q / 7) (λ f. omega arith) (λ f. omega arith)) c.linked,
      );
    }
      where
        go : (g : ℕ) → g < 256 → (b : Bool) → eqb (key at) g ≡ b → get_or two g 0 ≡ cond b (suc at) (latest key g l)
        go g b true e =
            let k : h ≡ g = is ∙ eqb-true (key at) g e in
            let n = length-set x (256 + at / 7) was in
            ap (λ (q : ℕ). get_or two q 0) (sym k) ∙ get_or-set_same one h (at + 1) 0 (omega arith) ∙ (let z : at + 1 ≡ suc at = omega arith in z)
        go g b false e = elsewhere g (λ f. eqb-false (key at) g e (sym is ∙ sym f)) (λ f. omega arith) ∙ c.heads g b

    chained-put : Chained (set (set x (256 + at / 7) (get_or x h 0)) h (at + 1)) key to (at ∷ l)
    unfolding one two was
    chained-put = chained-two

module _ (s p : Str) (x : List ℕ) (at : ℕ) where
  declaring-is : declaring s at ≡ true → declares (get_or s at 0) ≡ true
  unfolding declaring
  declaring-is w = w

  key_below : hash_at s p at < 256
  unfolding hash_at
  key_below = hash-below (declared_name s p at)

  put_is : declaring s at ≡ true → put_at s p x at ≡ set (set x (256 + at / 7) (get_or x (hash_at s p at) 0)) (hash_at s p at) (at + 1)
  unfolding put_at
  put_is w = rw w

  put-not : declaring s at ≡ false → put_at s p x at ≡ x
  unfolding put_at
  put-not w = rw w

  module _ (y : ℕ) (v : Bool) (i : y ≡ get_or s at 0) (d : v ≡ declares y) where
    declaring-so : declaring s at ≡ v
    unfolding declaring
    declaring-so = sym (d ∙ ap declares i)

    pub put-over : v ≡ false → x ≡ put_at s p x at
    put-over w = sym (put-not (declaring-so ∙ w))

    pub put-there : v ≡ true → (u : Str) (h : ℕ) (to : List ℕ) → u ≡ declared_name s p at → h ≡ hash_of u → to ≡ set (set x (256 + at / 7) (get_or x h 0)) h (at + 1) → to ≡ put_at s p x at
    unfolding hash_at
    put-there w u h to a b q = q ∙ ap (λ (k : ℕ). set (set x (256 + at / 7) (get_or x k 0)) k (at + 1)) (b ∙ ap hash_of a) ∙ sym (put_is (declaring-so ∙ w))

pub ruleset put-laws = (put-over, put-there)

-- the places before one are in the index
pub record Filling (s p : Str) (before x : List ℕ) (at : ℕ) : Type 0 where
  pub places : List ℕ
  pub same_length : length x ≡ length before
  pub room : IndexRoom s x
  pub inside : at ≤ length s
  pub left : onto (declaring s) (commands_at s at) places ≡ declared_places s
  pub chained : Chained x (hash_at s p) at places

-- no number leads anywhere once zeros stand in the place of all of them
pub headless_filled : (x zeros : List ℕ) (n : ℕ) → n ≡ 256 → 256 ≤ length x → zeros ≡ replicate n 0 → Headless x (zeros ++ drop 256 x)
headless_filled x zeros n m h e =
    let z : length zeros ≡ n = ap length e ∙ length-replicate n 0 in
    let d = length-drop 256 x in
    let l = length-append zeros (drop 256 x) in
    record {
      same_length = omega arith;
      none = λ q l. get_or-append zeros (drop 256 x) 0 q (omega arith) ∙ ap (λ (y : List ℕ). get_or y q 0) e ∙ get_or-replicate n q 0 0 (omega arith);
    }

module _ (s p : Str) (before x : List ℕ) where
  pub fill_start : Headless before x → IndexRoom s before → Filling s p x x 0
  unfolding declared_places latest Linked
  fill_start c r = record { places = []; same_length = refl; room = let e = c.same_length in omega arith; inside = omega arith; left = refl; chained = record { heads = c.none; linked = tt } }

  module _ (at : ℕ) (f : Filling s p before x at) (n : ℕ) (e : n ≡ after_at s at) where
    pub fill_end : n ≡ 0 → Indexed s p x
    unfolding onto
    fill_end z =
        let l : f.places ≡ declared_places s = sym (ap (λ (q : List ℕ). onto (declaring s) q f.places) (commands-stop s at (ended-there s at n e z))) ∙ f.left in
        record {
          chained = subst (Chained x (hash_at s p) (length s)) l
              (record { heads = f.chained.heads; linked = linked-above (hash_at s p) x at (length s) f.places f.inside f.chained.linked });
        }

    module _ (z : n ≡ 0 → ⊥) where
      t : Stepped s at n
      t = stepped s at n e z

      on : at + width_of (get_or s at 0) ≡ n
      on = sym (step-found s at t.command t.cursor t.step).wide ∙ t.to

      within : n ≤ length s
      within = let g = (step-found s at t.command t.cursor t.step).within in let k = t.to in omega arith

      before-it : at < n
      before-it = let g = (step-found s at t.command t.cursor t.step).on in let k = t.to in omega arith

      list : onto (declaring s) (commands_at s n) (cond (declaring s at) (at ∷ f.places) f.places) ≡ declared_places s
      unfolding onto
      list =
          ap (λ (q : List ℕ). onto (declaring s) q f.places) (sym (commands-next s at t.command t.cursor t.step ∙ ap (λ (k : ℕ). at ∷ commands_at s k) t.to))
          ∙ f.left

      module _ (small : length s ≤ 32768) where
        pub fill-place : at < 32768
        fill-place = let a = before-it in let b = within in omega arith

        pub fill-entry : 256 + at / 7 < length x
        fill-entry = let a = before-it in let b = within in let k = f.room in omega arith

        pub fill_on : (to : List ℕ) → to ≡ put_at s p x at → Filling s p before to n
        fill_on to q = subst (λ (l : List ℕ). Filling s p before l n) (sym q) (go (declaring s at) refl)
          where
            far : declaring s at ≡ true → at + 7 ≤ n
            far w = let k = on in let q : 7 ≤ width_of (get_or s at 0) = declares-wide (get_or s at 0) (declaring-is s p x at w) in omega arith

            there : (v : Bool) → declaring s at ≡ v → onto (declaring s) (commands_at s n) (cond v (at ∷ f.places) f.places) ≡ declared_places s
            there v w = ap (λ (b : Bool). onto (declaring s) (commands_at s n) (cond b (at ∷ f.places) f.places)) (sym w) ∙ list

            h : ℕ
            h = hash_at s p at

            go : (v : Bool) → declaring s at ≡ v → Filling s p before (put_at s p x at) n
            go true w = subst (λ (l : List ℕ). Filling s p before l n) (sym (put_is s p x at w)) (record {
              places = at ∷ f.places;
              same_length = length-set (set x (256 + at / 7) (get_or x h 0)) h (at + 1) ∙ length-set x (256 + at / 7) (get_or x h 0) ∙ f.same_length;
              room = let k = length-set (set x (256 + at / 7) (get_or x h 0)) h (at + 1) ∙ length-set x (256 + at / 7) (get_or x h 0) in let j = f.room in omega arith;
              inside = within;
              left = there true w;
              chained = chained-put (hash_at s p) x at n h f.places f.chained (key_below s p x at) refl fill-entry (far w);
            })
            go false w = subst (λ (l : List ℕ). Filling s p before l n) (sym (put-not s p x at w)) (record {
              places = f.places;
              same_length = f.same_length;
              room = f.room;
              inside = within;
              left = there false w;
              chained = record { heads = f.chained.heads; linked = linked-above (hash_at s p) x at n f.places (let k = before-it in omega arith) f.chained.linked };
            })

pub hash-small : (u : Str) (h : ℕ) → h ≡ hash_of u → h < 256
hash-small u h e = subst (λ (z : ℕ). z < 256) (sym e) (hash-below u)

-- along the places of one number -------------------------------------------------------------------------------------------

module _ (x : List ℕ) (at : ℕ) (e : ℕ) (i : e ≡ get_or x (256 + at / 7) 0) where
  pub link-none : at < e → 0 ≡ link_before x at
  unfolding link_before
  link-none h = rw (← i, lt-ltb at e h)

  pub link-there : e ≤ at → e ≡ link_before x at
  unfolding link_before
  link-there h = rw (← i, le-ltb at e h)

pub ruleset link-laws = (link-none, link-there)

before_falls : (x : List ℕ) (at : ℕ) → link_before x at ≤ at
unfolding link_before
before_falls x at = go (ltb at (get_or x (256 + at / 7) 0)) refl
  where
    go : (b : Bool) → ltb at (get_or x (256 + at / 7) 0) ≡ b → cond b 0 (get_or x (256 + at / 7) 0) ≤ at
    go true h = omega arith
    go false h = ltb-false at (get_or x (256 + at / 7) 0) h

pub link-falls : (x : List ℕ) (link at to : ℕ) → (link ≡ 0 → ⊥) → at ≡ link - 1 → to ≡ link_before x at → to < link
link-falls x link at to z e f = let h = before_falls x at in omega arith

-- a test that none passes but commands of the name
module _ (s p : Str) (x : List ℕ) (n : Str) (test : ℕ → Bool) (other : (q : ℕ) → eqb (hash_at s p q) (hash_of n) ≡ false → test q ≡ false) where
  abbrev key : ℕ → ℕ
  key = hash_at s p

  -- where no place has the number, none passes
  none-hit : (l : List ℕ) (f : ℕ) → latest key (hash_of n) l ≡ 0 → hit_in test l f ≡ f
  unfolding latest hit_in
  none-hit [] f e = refl
  none-hit (q ∷ l) f e = go (none-hit l f) (eqb (key q) (hash_of n)) refl e
    where
      go : (latest key (hash_of n) l ≡ 0 → hit_in test l f ≡ f) → (v : Bool) → eqb (key q) (hash_of n) ≡ v → cond v (suc q) (latest key (hash_of n) l) ≡ 0 → hit_in test l (cond (test q) (suc q) f) ≡ f
      go ih true h g = absurd (omega arith)
      go ih false h g = ap (λ (v : Bool). hit_in test l (cond v (suc q) f)) (other q h) ∙ ih g

  none_first : (l : List ℕ) → latest key (hash_of n) l ≡ 0 → first_in test l ≡ 0
  unfolding latest first_in
  none_first [] e = refl
  none_first (q ∷ l) e = go (none_first l) (eqb (key q) (hash_of n)) refl e
    where
      go : (latest key (hash_of n) l ≡ 0 → first_in test l ≡ 0) → (v : Bool) → eqb (key q) (hash_of n) ≡ v → cond v (suc q) (latest key (hash_of n) l) ≡ 0 → cond (test q) (suc q) (first_in test l) ≡ 0
      go ih true h g = absurd (omega arith)
      go ih false h g = ap (λ (v : Bool). cond v (suc q) (first_in test l)) (other q h) ∙ ih g

  -- the places after the first that has the number
  record Beyond (l : List ℕ) (q : ℕ) : Type 0 where
    rest : List ℕ
    linked : Linked x key q rest
    entry : get_or x (256 + q / 7) 0 ≡ latest key (hash_of n) rest
    same : (f : ℕ) → hit_in test l f ≡ hit_in test rest (cond (test q) (suc q) f)
    first : first_in test l ≡ cond (test q) (suc q) (first_in test rest)

  beyond : (l : List ℕ) (top q : ℕ) → Linked x key top l → latest key (hash_of n) l ≡ suc q → Beyond l q
  unfolding latest Linked hit_in first_in
  beyond [] top q i e = absurd (omega arith)
  beyond (r ∷ l) top q i e = go (beyond l r q i.2) (eqb (key r) (hash_of n)) refl e
    where
      go : (latest key (hash_of n) l ≡ suc q → Beyond l q) → (v : Bool) → eqb (key r) (hash_of n) ≡ v → cond v (suc r) (latest key (hash_of n) l) ≡ suc q → Beyond (r ∷ l) q
      go ih true h g =
          let j : r ≡ q = omega arith in
          subst (Beyond (r ∷ l)) j (record {
            rest = l;
            linked = i.2;
            entry = i.1 ∙ ap (λ (k : ℕ). latest key k l) (eqb-true (key r) (hash_of n) h);
            same = λ f. refl;
            first = refl;
          })
      go ih false h g =
          let j = ih g in
          record {
            rest = j.rest;
            linked = j.linked;
            entry = j.entry;
            same = λ f. ap (λ (v : Bool). hit_in test l (cond v (suc r) f)) (other r h) ∙ j.same f;
            first = ap (λ (v : Bool). cond v (suc r) (first_in test l)) (other r h) ∙ j.first;
          }

  -- the entry of a place leads to the next one of the number
  entry_next : (l : List ℕ) (q to : ℕ) (j : Beyond l q) → to ≡ link_before x q → to ≡ latest key (hash_of n) j.rest
  entry_next l q to j f = f ∙ sym (link-there x q _ refl (subst (λ (m : ℕ). m ≤ q) (sym j.entry) (latest-below key x (hash_of n) q j.rest j.linked))) ∙ j.entry

module _ (s p : Str) (x : List ℕ) (b : ℕ) (n : Str) where
  abbrev named-test : ℕ → Bool
  named-test = is_named s p b n

  -- what is left to see, and what was seen last
  pub record Reached (link found : ℕ) : Type 0 where
    pub rest : List ℕ
    pub top : ℕ
    pub linked : Linked x (hash_at s p) top rest
    pub is : link ≡ latest (hash_at s p) (hash_of n) rest
    pub same : hit_in named-test (declared_places s) 0 ≡ hit_in named-test rest found

  pub record Sighted (link found : ℕ) : Type 0 where
    pub reached : Indexed s p x → Reached link found

  pub sighted-start : (h link : ℕ) → h ≡ hash_of n → link ≡ get_or x h 0 → Sighted link 0
  sighted-start h link e f = record {
    reached = λ i. record {
      rest = declared_places s;
      top = length s;
      linked = i.chained.linked;
      is = f ∙ ap (λ (k : ℕ). get_or x k 0) e ∙ i.chained.heads (hash_of n) (hash-below n);
      same = refl;
    };
  }

  module _ (link found : ℕ) (g : Sighted link found) where
    pub sighted-end : link ≡ 0 → FirstNamed s p x b n found
    sighted-end z = record { first = λ i. let r = g.reached i in sym (r.same ∙ none-hit s p x n named-test (other-number s p b n) r.rest found (sym r.is ∙ z)) }

    module _ (z : link ≡ 0 → ⊥) (at to : ℕ) (e : at ≡ link - 1) (f : to ≡ link_before x at) (v : Bool) (w : v ≡ named-test at) where
      next : (a : ℕ) → cond (named-test at) (suc at) found ≡ a → Sighted to a
      next a h = record { reached = λ i. go (g.reached i) }
        where
          go : Reached link found → Reached to a
          go r =
              let k : link ≡ suc at = omega arith in
              let j = beyond s p x n named-test (other-number s p b n) r.rest r.top at r.linked (sym r.is ∙ k) in
              record {
                rest = j.rest;
                top = at;
                linked = j.linked;
                is = entry_next s p x n named-test (other-number s p b n) r.rest at to j f;
                same = r.same ∙ j.same found ∙ ap (hit_in named-test j.rest) h;
              }

      pub sighted-hit : v ≡ true → Sighted to link
      sighted-hit h = next link (ap (λ (m : Bool). cond m (suc at) found) (sym w ∙ h) ∙ (let k : suc at ≡ link = omega arith in k))

      pub sighted-miss : v ≡ false → Sighted to found
      sighted-miss h = next found (ap (λ (m : Bool). cond m (suc at) found) (sym w ∙ h))

pub ruleset sighted-laws = (sighted-start, sighted-end, sighted-hit, sighted-miss)

-- the last one: nothing that was passed counts
module _ (s p : Str) (x : List ℕ) (b fl : ℕ) (n : Str) where
  abbrev last-test : ℕ → Bool
  last-test = counts s p b fl n

  pub record Left (link : ℕ) : Type 0 where
    pub rest : List ℕ
    pub top : ℕ
    pub linked : Linked x (hash_at s p) top rest
    pub is : link ≡ latest (hash_at s p) (hash_of n) rest
    pub same : first_in last-test (declared_places s) ≡ first_in last-test rest

  pub record Looking (link : ℕ) : Type 0 where
    pub left : Indexed s p x → Left link

  pub looking-start : (h link : ℕ) → h ≡ hash_of n → link ≡ get_or x h 0 → Looking link
  looking-start h link e f = record {
    left = λ i. record {
      rest = declared_places s;
      top = length s;
      linked = i.chained.linked;
      is = f ∙ ap (λ (k : ℕ). get_or x k 0) e ∙ i.chained.heads (hash_of n) (hash-below n);
      same = refl;
    };
  }

  module _ (link : ℕ) (g : Looking link) where
    pub looking-end : link ≡ 0 → LastNamed s p x b fl n 0
    looking-end z = record { last = λ i. let r = g.left i in sym (r.same ∙ none_first s p x n last-test (flag-other s p b fl n) r.rest (sym r.is ∙ z)) }

    module _ (z : link ≡ 0 → ⊥) (at : ℕ) (e : at ≡ link - 1) (v : Bool) (w : v ≡ last-test at) where
      from : (r : Left link) → Beyond s p x n last-test (flag-other s p b fl n) r.rest at
      from r = beyond s p x n last-test (flag-other s p b fl n) r.rest r.top at r.linked (sym r.is ∙ (let k : link ≡ suc at = omega arith in k))

      pub looking-hit : v ≡ true → LastNamed s p x b fl n link
      looking-hit h = record {
        last = λ i.
            let r = g.left i in
            (let k : link ≡ suc at = omega arith in k) ∙ sym (r.same ∙ (from r).first ∙ ap (λ (m : Bool). cond m (suc at) (first_in last-test (from r).rest)) (sym w ∙ h));
      }

      pub looking-miss : v ≡ false → (to : ℕ) → to ≡ link_before x at → Looking to
      looking-miss h to f = record {
        left = λ i.
            let r = g.left i in
            record {
              rest = (from r).rest;
              top = at;
              linked = (from r).linked;
              is = entry_next s p x n last-test (flag-other s p b fl n) r.rest at to (from r) f;
              same = r.same ∙ (from r).first ∙ ap (λ (m : Bool). cond m (suc at) (first_in last-test (from r).rest)) (sym w ∙ h);
            };
      }

pub ruleset looking-laws = (looking-start, looking-end, looking-hit, looking-miss)

-- what is found in the index is the first of its list ------------------------------------------------------------------------

after_is : (s : Str) (at : ℕ) (c : Command) (k : Cursor) → step_at s at ≡ Some (c, k) → after_at s at ≡ k.at
unfolding after_at
after_is s at c k e = rw (after_at, e)

onto-split : (t d : ℕ → Bool) (l r : List ℕ) (f : ℕ) → hit_in t (onto d l r) f ≡ hit_in t r (hit_in t (onto d l []) f)
unfolding onto hit_in
onto-split t d [] r f = refl
onto-split t d (q ∷ l) r f = go (λ m. onto-split t d l m f) (d q)
  where
    go : ((m : List ℕ) → hit_in t (onto d l m) f ≡ hit_in t m (hit_in t (onto d l []) f)) → (v : Bool) → hit_in t (onto d l (cond v (q ∷ r) r)) f ≡ hit_in t r (hit_in t (onto d l (cond v (q ∷ []) [])) f)
    go ih true = ih (q ∷ r) ∙ ap (hit_in t r) (sym (ih (q ∷ [])))
    go ih false = ih r

module _ {A : Type 0} (s p n : Str) (b : ℕ) (d : declares b ≡ true) (f : ℕ → List ℕ → A) (own : A → Bool) (named : (at : ℕ) (rest : List ℕ) → own (f at rest) ≡ eqs (declared_name s p at) n)
    (placed : Option (ℕ × ℕ) → Option A) (nowhere : placed None ≡ None) (there : (a k : ℕ) → placed (Some (a, k)) ≡ Some (f a (commands_at s k))) where
  hit : ℕ → ℕ
  hit at = hit_in (is_named s p b n) (onto (declaring s) (commands_at s at) []) 0

  module _ (at : ℕ) (c : Command) (k : Cursor) (e : step_at s at ≡ Some (c, k)) where
    hit-next : hit at ≡ cond (declaring s at) (cond (is_named s p b n at) (suc at) (hit k.at)) (hit k.at)
    unfolding hit onto hit_in
    hit-next =
        ap (λ (l : List ℕ). hit_in (is_named s p b n) (onto (declaring s) l []) 0) (commands-next s at c k e)
        ∙ onto-split (is_named s p b n) (declaring s) (commands_at s k.at) (cond (declaring s at) (at ∷ []) []) 0
        ∙ go (declaring s at)
      where
        go : (v : Bool) → hit_in (is_named s p b n) (cond v (at ∷ []) []) (hit k.at) ≡ cond v (cond (is_named s p b n at) (suc at) (hit k.at)) (hit k.at)
        go true = refl
        go false = refl

    -- a command of the number
    module _ (is : byte_of c ≡ b) where
      byte : get_or s at 0 ≡ b
      byte = byte-is s at c k e ∙ is

      hit-here : (v : Bool) → eqs (declared_name s p at) n ≡ v → hit at ≡ cond v (suc at) (hit k.at)
      unfolding declaring is_named
      hit-here v q = hit-next ∙ rw (byte, d, eq-eqb b b refl, q)

    -- another
    hit-over : (byte_of c ≡ b → ⊥) → hit at ≡ hit k.at
    unfolding is_named
    hit-over h = hit-next ∙ rw (byte-is s at c k e, ne_eqb (byte_of c) b h) (same (declaring s at))
      where
        same : (v : Bool) → cond v (hit k.at) (hit k.at) ≡ hit k.at
        same true = refl
        same false = refl

  Finds : ℕ → Type 0
  Finds at = find own (listed s anything b f (commands_at s at)) ≡ placed (sought_at s (hit at))

  finds-stop : (at : ℕ) → step_at s at ≡ None → Finds at
  unfolding Finds hit onto hit_in sought_at
  finds-stop at e = find_none own _ (listed-stop s anything b f at e) ∙ rw (commands-stop s at e) (sym nowhere)

  finds-next : (at : ℕ) (c : Command) (k : Cursor) → step_at s at ≡ Some (c, k) → Finds k.at → Finds at
  unfolding Finds sought_at
  finds-next at c k e ih = go (eqb (byte_of c) b) refl
    where
      here : byte_of c ≡ b → (v : Bool) → eqs (declared_name s p at) n ≡ v → Finds at
      here is true q = find-hit own _ (f at (commands_at s k.at)) _ (listed_here s anything b f at c k e is) (named at _ ∙ q) ∙ rw (hit-here at c k e is true q, after_is s at c k e) (sym (there at k.at))
      here is false q =
          find-miss own _ (f at (commands_at s k.at)) _ (listed_here s anything b f at c k e is) (named at _ ∙ q) ∙ ih
          ∙ ap (λ (m : ℕ). placed (sought_at s m)) (sym (hit-here at c k e is false q))

      go : (v : Bool) → eqb (byte_of c) b ≡ v → Finds at
      go true h = here (eqb-true (byte_of c) b h) (eqs (declared_name s p at) n) refl
      go false h =
          ap (find own) (listed-over s anything b f at c k e (eqb-false (byte_of c) b h) refl) ∙ ih
          ∙ ap (λ (m : ℕ). placed (sought_at s m)) (sym (hit-over at c k e (eqb-false (byte_of c) b h)))

  found_in : (at : ℕ) → find own (listed s anything b f (commands_at s at)) ≡ placed (sought_at s (hit_in (is_named s p b n) (onto (declaring s) (commands_at s at) []) 0))
  unfolding Finds hit
  found_in = along s Finds finds-stop finds-next

-- the place of the first command of a number and a name is that of the first of its list
pub first-placed : (s p n : Str) (b : ℕ) → PlaceNamed s p n b (sought_at s (first_place s p b n))
unfolding declared_places hit declared_name declares constant_in alias_in enum_in bitfield_in struct_in family_in constants_at aliases_at enums_at bitfields_at structs_at families_at constants aliases enums bitfields structs families values_at members_at fields_at variants_at
first-placed s p n b = record {
  constant = λ q. rw q (found_in s p n 2 refl _ _ (λ at rest. refl) (constant_placed s p) refl (λ a k. refl) 0);
  alias = λ q. rw q (found_in s p n 3 refl _ _ (λ at rest. refl) (alias_placed s p) refl (λ a k. refl) 0);
  enum = λ q. rw q (found_in s p n 4 refl _ _ (λ at rest. refl) (enum_placed s p) refl (λ a k. refl) 0);
  bitfield = λ q. rw q (found_in s p n 6 refl _ _ (λ at rest. refl) (bitfield_placed s p) refl (λ a k. refl) 0);
  struct = λ q. rw q (found_in s p n 8 refl _ _ (λ at rest. refl) (struct_placed s p) refl (λ a k. refl) 0);
  family = λ q. rw q (found_in s p n 9 refl _ _ (λ at rest. refl) (family_placed s p) refl (λ a k. refl) 0);
}

-- what is found passes the test
hit-passes : (t : ℕ → Bool) (l : List ℕ) (f q : ℕ) → (f ≡ suc q → t q ≡ true) → hit_in t l f ≡ suc q → t q ≡ true
unfolding hit_in
hit-passes t [] f q k e = k e
hit-passes t (a ∷ l) f q k e = hit-passes t l (cond (t a) (suc a) f) q (go (t a) refl) e
  where
    go : (v : Bool) → t a ≡ v → cond v (suc a) f ≡ suc q → t q ≡ true
    go true h z = let w : suc a ≡ suc q = z in let y : a ≡ q = omega arith in subst (λ (i : ℕ). t i ≡ true) y h
    go false h z = k z

-- a command has the number that it was found by
pub first-number : (s p n : Str) (b q : ℕ) → first_place s p b n ≡ suc q → get_or s q 0 ≡ b
unfolding is_named
first-number s p n b q e = go (eqb (get_or s q 0) b) refl (hit-passes (is_named s p b n) (declared_places s) 0 q (λ z. absurd (omega arith)) e)
  where
    go : (v : Bool) → eqb (get_or s q 0) b ≡ v → (v && eqs (declared_name s p q) n) ≡ true → get_or s q 0 ≡ b
    go true h z = eqb-true (get_or s q 0) b h
    go false h z = absurd (false≢true z)

module _ (s p : Str) (x : List ℕ) (b : ℕ) (n : Str) (found : ℕ) (g : FirstNamed s p x b n found) where
  placed_at : (r : Option (ℕ × ℕ)) → r ≡ sought_at s found → Declared s p x b n r
  placed_at r e = record { named = λ i. subst (PlaceNamed s p n b) (sym (there i)) (first-placed s p n b); first = there }
    where
      there : Indexed s p x → r ≡ sought_at s (first_place s p b n)
      there i = e ∙ ap (sought_at s) (g.first i)

  pub declared-none : found ≡ 0 → Declared s p x b n None
  unfolding sought_at
  declared-none z = placed_at None (rw z)

  pub declared-at : (found ≡ 0 → ⊥) → (at to : ℕ) → at ≡ found - 1 → to ≡ after_at s at → Declared s p x b n (Some (at, to))
  unfolding sought_at
  declared-at z at to e f = placed_at (Some (at, to)) (rw (let k : found ≡ suc at = omega arith in k, f))

pub ruleset declared-laws = (declared-none, declared-at)

-- what is found last is the last of its list -----------------------------------------------------------------------------------

counts-not : (s p : Str) (b f : ℕ) (n : Str) (at : ℕ) → (get_or s at 0 ≡ b → ⊥) → counts s p b f n at ≡ false
unfolding counts is_named
counts-not s p b f n at h = rw (ne_eqb (get_or s at 0) b h) (and-false (is_flagged s f at))

module _ {A : Type 0} (s p n : Str) (b fl : ℕ) (d : declares b ≡ true) (f : ℕ → List ℕ → A) (own : A → Bool)
    (counted : (at : ℕ) (rest : List ℕ) → get_or s at 0 ≡ b → own (f at rest) ≡ counts s p b fl n at)
    (placed : Option (ℕ × ℕ) → Option A) (nowhere : placed None ≡ None) (there : (a k : ℕ) → placed (Some (a, k)) ≡ Some (f a (commands_at s k))) where
  -- the first of some places that counts
  seen : List ℕ → Option A
  seen l = placed (sought_at s (first_in (counts s p b fl n) l))

  -- the last one from a place on, after the places that were seen
  Lasts : ℕ → Type 0
  Lasts at = (l : List ℕ) → last_or (seen l) own (listed s anything b f (commands_at s at)) ≡ seen (onto (declaring s) (commands_at s at) l)

  lasts-stop : (at : ℕ) → step_at s at ≡ None → Lasts at
  unfolding Lasts last_or onto
  lasts-stop at e l = rw (listed-stop s anything b f at e, commands-stop s at e)

  module _ (at : ℕ) (c : Command) (k : Cursor) (e : step_at s at ≡ Some (c, k)) (ih : Lasts k.at) (l : List ℕ) where
    seen-on : List ℕ
    seen-on = cond (declaring s at) (at ∷ l) l

    onto-next : onto (declaring s) (commands_at s at) l ≡ onto (declaring s) (commands_at s k.at) seen-on
    unfolding onto seen-on
    onto-next = ap (λ (m : List ℕ). onto (declaring s) m l) (commands-next s at c k e)

    -- another command
    module _ (h : byte_of c ≡ b → ⊥) where
      seen-over : seen seen-on ≡ seen l
      unfolding seen seen-on first_in
      seen-over = go (declaring s at)
        where
          go : (v : Bool) → placed (sought_at s (first_in (counts s p b fl n) (cond v (at ∷ l) l))) ≡ placed (sought_at s (first_in (counts s p b fl n) l))
          go true = rw (counts-not s p b fl n at (λ y. h (sym (byte-is s at c k e) ∙ y)))
          go false = refl

      lasts-over : last_or (seen l) own (listed s anything b f (commands_at s at)) ≡ seen (onto (declaring s) (commands_at s at) l)
      unfolding Lasts
      lasts-over =
          ap (last_or (seen l) own) (listed-over s anything b f at c k e h refl)
          ∙ ap (λ (o : Option A). last_or o own (listed s anything b f (commands_at s k.at))) (sym seen-over)
          ∙ ih seen-on ∙ ap seen (sym onto-next)

    -- a command of the number
    module _ (is : byte_of c ≡ b) where
      number : get_or s at 0 ≡ b
      number = byte-is s at c k e ∙ is

      seen_here : cond (own (f at (commands_at s k.at))) (Some (f at (commands_at s k.at))) (seen l) ≡ seen seen-on
      unfolding seen seen-on first_in sought_at declaring
      seen_here = rw (counted at (commands_at s k.at) number, number, d) (go (counts s p b fl n at))
        where
          go : (v : Bool) → cond v (Some (f at (commands_at s k.at))) (placed (sought_at s (first_in (counts s p b fl n) l))) ≡ placed (sought_at s (cond v (suc at) (first_in (counts s p b fl n) l)))
          go true = sym (there at k.at) ∙ ap (λ (j : ℕ). placed (Some (at, j))) (sym (after_is s at c k e))
          go false = refl

      lasts-here : last_or (seen l) own (listed s anything b f (commands_at s at)) ≡ seen (onto (declaring s) (commands_at s at) l)
      unfolding Lasts last_or
      lasts-here =
          ap (last_or (seen l) own) (listed_here s anything b f at c k e is)
          ∙ ap (λ (o : Option A). last_or o own (listed s anything b f (commands_at s k.at))) seen_here
          ∙ ih seen-on ∙ ap seen (sym onto-next)

  lasts-next : (at : ℕ) (c : Command) (k : Cursor) → step_at s at ≡ Some (c, k) → Lasts k.at → Lasts at
  unfolding Lasts
  lasts-next at c k e ih l = go (eqb (byte_of c) b) refl
    where
      go : (v : Bool) → eqb (byte_of c) b ≡ v → last_or (seen l) own (listed s anything b f (commands_at s at)) ≡ seen (onto (declaring s) (commands_at s at) l)
      go true h = lasts-here at c k e ih l (eqb-true (byte_of c) b h)
      go false h = lasts-over at c k e ih l (eqb-false (byte_of c) b h)

  last-in : find_last own (listed s anything b f (commands_at s 0)) ≡ placed (sought_at s (first_in (counts s p b fl n) (onto (declaring s) (commands_at s 0) [])))
  unfolding Lasts seen find_last first_in sought_at
  last-in = ap (λ (o : Option A). last_or o own (listed s anything b f (commands_at s 0))) (sym nowhere) ∙ along s Lasts lasts-stop lasts-next 0 []

module _ (s p : Str) (x : List ℕ) (b fl : ℕ) (n : Str) (found : ℕ) (g : LastNamed s p x b fl n found) where
  last-placed : (r : Option (ℕ × ℕ)) → r ≡ sought_at s found → LastDeclared s p x b fl n r
  unfolding declared_places declared_name declares is_named is_flagged counts constants_at enums_at families_at unstored_at constants enums families unstored values_at fields_at variants_at
  last-placed r e = record {
    named = λ i. let h : r ≡ sought_at s (first_in (counts s p b fl n) (declared_places s)) = e ∙ ap (sought_at s) (g.last i) in record {
      constant = λ q w. rw (h, q, w) (last-in s p n 2 0 refl _ _ (λ at rest y. rw y) (constant_placed s p) refl (λ a k. refl));
      unstored = λ q w. rw (h, q, w) (last-in s p n 13 0 refl _ _ (λ at rest y. rw y) (unstored_placed s p) refl (λ a k. refl));
      api-constant = λ q w. rw (h, q, w) (last-in s p n 2 16 refl _ _ (λ at rest y. rw y) (constant_placed s p) refl (λ a k. refl));
      api-enum = λ q w. rw (h, q, w) (last-in s p n 4 8 refl _ _ (λ at rest y. rw y) (enum_placed s p) refl (λ a k. refl));
      standalone = λ q w. rw (h, q, w) (last-in s p n 9 16 refl _ _ (λ at rest y. rw y) (family_placed s p) refl (λ a k. refl));
    };
  }

  pub last_none : found ≡ 0 → LastDeclared s p x b fl n None
  unfolding sought_at
  last_none z = last-placed None (rw z)

  pub last-at : (found ≡ 0 → ⊥) → (at to : ℕ) → at ≡ found - 1 → to ≡ after_at s at → LastDeclared s p x b fl n (Some (at, to))
  unfolding sought_at
  last-at z at to e f = last-placed (Some (at, to)) (rw (let k : found ≡ suc at = omega arith in k, f))

pub ruleset last-laws = (last_none, last-at)

-- families that stand alone ------------------------------------------------------------------------------------------------

some-last : {A : Type 0} (q : A → Bool) (o : Option A) (l : List A) → is_some (last_or o q l) ≡ is_some o || any q l
unfolding last_or any is_some
some-last q None [] = refl
some-last q (Some x) [] = refl
some-last {A = A} q o (x ∷ l) = go (λ (y : Option A). some-last q y l) (q x) o
  where
    go : ((y : Option A) → is_some (last_or y q l) ≡ is_some y || any q l) → (v : Bool) (o : Option A) → is_some (last_or (cond v (Some x) o) q l) ≡ is_some o || (v || any q l)
    go ih true None = ih (Some x)
    go ih true (Some y) = ih (Some x)
    go ih false None = ih None
    go ih false (Some y) = ih (Some y)

module _ (s p : Str) (x : List ℕ) (n : Str) (r : Option (ℕ × ℕ)) (g : LastDeclared s p x 9 16 n r) where
  alone-as : Indexed s p x → any (λ (m : Family). m.standalone && eqs m.name n) (families_at s p 0) ≡ is_some (family_placed s p r)
  unfolding find_last is_some
  alone-as i = sym (some-last (λ (m : Family). m.standalone && eqs m.name n) None (families_at s p 0)) ∙ ap is_some ((g.named i).standalone refl refl)

  pub alone-none : r ≡ None → Alone s p x n false
  unfolding is_some
  alone-none e = record { is = λ i. sym (alone-as i ∙ ap (λ (y : Option (ℕ × ℕ)). is_some (family_placed s p y)) e) }

  pub alone-there : (at to : ℕ) → r ≡ Some (at, to) → Alone s p x n true
  unfolding is_some
  alone-there at to e = record { is = λ i. sym (alone-as i ∙ ap (λ (y : Option (ℕ × ℕ)). is_some (family_placed s p y)) e) }

pub ruleset alone-laws = (alone-none, alone-there)

-- without an index -------------------------------------------------------------------------------------------------------

module _ {A : Type 0} (s p n : Str) (b : ℕ) (f : ℕ → List ℕ → A) (own : A → Bool) (named : (at : ℕ) (rest : List ℕ) → own (f at rest) ≡ eqs (declared_name s p at) n) (at : ℕ) (r : Option (ℕ × ℕ)) (i : SoughtFrom s Anything b at r) where
  scan-none : r ≡ None → find own (listed s anything b f (commands_at s at)) ≡ None
  scan-none m = find_none own _ (listed-none s Anything b f at r i m)

  module _ (a k : ℕ) (m : r ≡ Some (a, k)) where
    scan-some : eqs (declared_name s p a) n ≡ true → find own (listed s anything b f (commands_at s at)) ≡ Some (f a (commands_at s k))
    scan-some h = find-hit own _ (f a (commands_at s k)) _ (listed-some s Anything b f at r i a k m) (named a _ ∙ h)

    scan-over : eqs (declared_name s p a) n ≡ false → find own (listed s anything b f (commands_at s at)) ≡ find own (listed s anything b f (commands_at s k))
    scan-over h = find-miss own _ (f a (commands_at s k)) _ (listed-some s Anything b f at r i a k m) (named a _ ∙ h)

-- no command of the number before a place has the name
pub record Scanned (s p n : Str) (b at : ℕ) : Type 0 where
  pub constant : b ≡ 2 → constant_in n (constants_at s p 0) ≡ constant_in n (constants_at s p at)
  pub alias : b ≡ 3 → alias_in n (aliases_at s p 0) ≡ alias_in n (aliases_at s p at)
  pub enum : b ≡ 4 → enum_in n (enums_at s p 0) ≡ enum_in n (enums_at s p at)
  pub bitfield : b ≡ 6 → bitfield_in n (bitfields_at s p 0) ≡ bitfield_in n (bitfields_at s p at)
  pub struct : b ≡ 8 → struct_in n (structs_at s p 0) ≡ struct_in n (structs_at s p at)
  pub family : b ≡ 9 → family_in n (families_at s p 0) ≡ family_in n (families_at s p at)

pub scanned-start : (s p n : Str) (b : ℕ) → Scanned s p n b 0
scanned-start s p n b = record { constant = λ q. refl; alias = λ q. refl; enum = λ q. refl; bitfield = λ q. refl; struct = λ q. refl; family = λ q. refl }

module _ (s p n : Str) (b at : ℕ) (g : Scanned s p n b at) (r : Option (ℕ × ℕ)) (i : SoughtFrom s Anything b at r) where
  numbered : (k : ℕ) → b ≡ k → SoughtFrom s Anything k at r
  numbered k q = subst (λ (x : ℕ). SoughtFrom s Anything x at r) q i

  pub scanned-none : r ≡ None → PlaceNamed s p n b None
  unfolding declared_name constant_in alias_in enum_in bitfield_in struct_in family_in constants_at aliases_at enums_at bitfields_at structs_at families_at constants aliases enums bitfields structs families values_at members_at fields_at variants_at
  scanned-none m = record {
    constant = λ q. g.constant q ∙ scan-none s p n 2 _ _ (λ at rest. refl) at r (numbered 2 q) m;
    alias = λ q. g.alias q ∙ scan-none s p n 3 _ _ (λ at rest. refl) at r (numbered 3 q) m;
    enum = λ q. g.enum q ∙ scan-none s p n 4 _ _ (λ at rest. refl) at r (numbered 4 q) m;
    bitfield = λ q. g.bitfield q ∙ scan-none s p n 6 _ _ (λ at rest. refl) at r (numbered 6 q) m;
    struct = λ q. g.struct q ∙ scan-none s p n 8 _ _ (λ at rest. refl) at r (numbered 8 q) m;
    family = λ q. g.family q ∙ scan-none s p n 9 _ _ (λ at rest. refl) at r (numbered 9 q) m;
  }

  module _ (a k : ℕ) (m : r ≡ Some (a, k)) (y : Str) (v : Bool) (d : y ≡ declared_name s p a) (e : v ≡ eqs y n) where
    is : eqs (declared_name s p a) n ≡ v
    is = sym (e ∙ ap (λ (z : Str). eqs z n) d)

    pub scanned-hit : v ≡ true → PlaceNamed s p n b (Some (a, k))
    unfolding declared_name constant_in alias_in enum_in bitfield_in struct_in family_in constants_at aliases_at enums_at bitfields_at structs_at families_at constants aliases enums bitfields structs families values_at members_at fields_at variants_at
    scanned-hit h = record {
      constant = λ q. g.constant q ∙ scan-some s p n 2 _ _ (λ at rest. refl) at r (numbered 2 q) a k m (is ∙ h);
      alias = λ q. g.alias q ∙ scan-some s p n 3 _ _ (λ at rest. refl) at r (numbered 3 q) a k m (is ∙ h);
      enum = λ q. g.enum q ∙ scan-some s p n 4 _ _ (λ at rest. refl) at r (numbered 4 q) a k m (is ∙ h);
      bitfield = λ q. g.bitfield q ∙ scan-some s p n 6 _ _ (λ at rest. refl) at r (numbered 6 q) a k m (is ∙ h);
      struct = λ q. g.struct q ∙ scan-some s p n 8 _ _ (λ at rest. refl) at r (numbered 8 q) a k m (is ∙ h);
      family = λ q. g.family q ∙ scan-some s p n 9 _ _ (λ at rest. refl) at r (numbered 9 q) a k m (is ∙ h);
    }

    pub scanned-on : v ≡ false → Scanned s p n b k
    unfolding declared_name constant_in alias_in enum_in bitfield_in struct_in family_in constants_at aliases_at enums_at bitfields_at structs_at families_at constants aliases enums bitfields structs families values_at members_at fields_at variants_at
    scanned-on h = record {
      constant = λ q. g.constant q ∙ scan-over s p n 2 _ _ (λ at rest. refl) at r (numbered 2 q) a k m (is ∙ h);
      alias = λ q. g.alias q ∙ scan-over s p n 3 _ _ (λ at rest. refl) at r (numbered 3 q) a k m (is ∙ h);
      enum = λ q. g.enum q ∙ scan-over s p n 4 _ _ (λ at rest. refl) at r (numbered 4 q) a k m (is ∙ h);
      bitfield = λ q. g.bitfield q ∙ scan-over s p n 6 _ _ (λ at rest. refl) at r (numbered 6 q) a k m (is ∙ h);
      struct = λ q. g.struct q ∙ scan-over s p n 8 _ _ (λ at rest. refl) at r (numbered 8 q) a k m (is ∙ h);
      family = λ q. g.family q ∙ scan-over s p n 9 _ _ (λ at rest. refl) at r (numbered 9 q) a k m (is ∙ h);
    }

pub ruleset scanned-laws = (scanned-none, scanned-hit, scanned-on)

module _ (s p : Str) (x : List ℕ) (b : ℕ) (n : Str) (r : Option (ℕ × ℕ)) where
  pub looked-all : length x ≡ 0 → PlaceNamed s p n b r → Looked s p x b n r
  looked-all z g = record { named = λ f. g }

  pub looked-by : (length x ≡ 0 → ⊥) → Declared s p x b n r → Looked s p x b n r
  looked-by z d = record { named = λ f. ⊎_elim (λ i. d.named i) (λ e. absurd (z e)) f.by }

pub ruleset looked-laws = (looked-all, looked-by)

pub no_index : (s p : Str) → Findable s p []
no_index s p = record { by = inr refl }
