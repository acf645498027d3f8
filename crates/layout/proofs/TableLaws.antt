-- The table of types is the map by name of the handles; and how a search in it goes. Assumes nothing.
use Rattle.std.specs.Prelude.{Option, Some, None}
use Prim.Native.Nat.{ℕ, zero, suc, ◌+◌, ◌≤◌, ◌<◌}
use mathlib.Core.List.{List, [], ◌∷◌, ◌++◌, map, Memᴰ, append-nil}
use mathlib.Core.Bool.{Bool, true, false, false≢true}
use mathlib.Core.Path.{◌≡◌, refl, sym, ap, subst, ◌∙◌}
use native.Mathlib.Omega.{arith}
use lib.Dec.{ltb}
use lib.ListN.{length, take, drop, get_or, length-take}
use lib.Seq.{take_at, take_all, take-append-le, length-take-le}
use borrow.Author.Tests.{ltb-true, ltb-false}
use Rattle.record.specs.Base.{Str, eqs, before, find}
use Rattle.record.specs.Stretch.{text_of}
use Rattle.record.specs.Scalars.{Scalar}
use Rattle.record.specs.Reading.{Rec, rec, schema_of}
use Rattle.record.specs.declared.text.Text.{Text}
use Rattle.record.proofs.Basics.{find-some, eqs-refl, eqs→eq}
use Rattle.layout.specs.declared.names.TypeName.{TypeName}
use Rattle.layout.specs.Sorted.{sorted}
use Rattle.layout.specs.Layout.{TypeLayout, variant_name, types, type_in}
use Rattle.record.specs.Fill.{fronted}
use Rattle.layout.specs.Handles.{type_name, handles_of, layout_of}
use Rattle.layout.specs.Names.{composed, front_of, colons_of, back_of, has_parts, name_of}
use Rattle.layout.specs.Sort.{arranged, lasts, ascends}
use Rattle.layout.specs.Table.{TypesTable, found_in, FoundType}
use Rattle.layout.proofs.Origin.{sorted-mem}
use Rattle.layout.proofs.Order.{before-trans, before-total, not-self, Sorted, sorted-sorted}
use Rattle.layout.proofs.Runs.{lasts_are, lasts-ascending, map-sorted}
use Rattle.layout.proofs.Flattened.{handles-laid, handles-typed}
use Rattle.layout.proofs.NameLaws.{parts-type, named-so}

-- the table ---------------------------------------------------------------------------------------------------------------

at_mem : (l : List ℕ) (i : ℕ) → i < length l → Memᴰ (get_or l i 0) l
at_mem [] i h = absurd (omega arith)
at_mem (x ∷ l) zero h = Memᴰ.head refl
at_mem (x ∷ l) (suc i) h = Memᴰ.tail (at_mem l i (omega arith))

upward-of : (key : ℕ → Str) (l : List ℕ) → Sorted key l → (i j : ℕ) → i < j → j < length l → before (key (get_or l i 0)) (key (get_or l j 0)) ≡ true
upward-of key [] o i j h k = absurd (omega arith)
upward-of key (x ∷ l) o i zero h k = absurd (omega arith)
upward-of key (x ∷ l) o zero (suc j) h k = o.0 (get_or l j 0) (at_mem l j (omega arith))
upward-of key (x ∷ l) o (suc i) (suc j) h k = upward-of key l o.1 i j (omega arith) (omega arith)

-- from what was filled, sorted and kept
pub kept-are : (key : ℕ → Str) (all o t x : List ℕ) (n r : ℕ) → n ≡ length all → t ≡ fronted o all → take r x ≡ lasts key (arranged key (take n t)) → r ≤ length x
    → take r (x ++ drop n t) ≡ sorted key all
unfolding fronted
kept-are key all o t x n r i f g h =
    let a : take n t ≡ all = ap (take n) f ∙ take_at all (drop (length all) o) n (sym i) in
    take-append-le r x (drop n t) h ∙ g ∙ ap (λ (l : List ℕ). lasts key (arranged key l)) a ∙ lasts_are key all

module _ (s p : Str) (small : length s ≤ 32768) where
  abbrev key : ℕ → Str
  key = type_name s p

  sorted-laid : (w : List Scalar) → map (layout_of (rec s p w)) (sorted key (handles_of s)) ≡ types (schema_of (rec s p w))
  unfolding layout_of types
  sorted-laid w = map-sorted (layout_of (rec s p w)) (λ (t : TypeLayout). t.name) (handles_of s) ∙ ap (sorted (λ (t : TypeLayout). t.name)) (handles-laid s p w small)

  table_of : TypesTable s p (sorted key (handles_of s))
  table_of =
      record {
        layouts = sorted-laid;
        upward = upward-of key (sorted key (handles_of s)) (sorted-sorted key (handles_of s));
        typed = λ i h. handles-typed s small (get_or (sorted key (handles_of s)) i 0) (sorted-mem key (handles_of s) (at_mem (sorted key (handles_of s)) i h));
      }

  pub table_is : (o t x : List ℕ) (n r : ℕ) → n ≡ length (handles_of s) → t ≡ fronted o (handles_of s) → take r x ≡ lasts key (arranged key (take n t)) → r ≤ length x
      → TypesTable s p (take r (x ++ drop n t))
  table_is o t x n r i f g h = subst (λ (l : List ℕ). TypesTable s p l) (sym (kept-are key (handles_of s) o t x n r i f g h)) table_of

-- the front of a table that is lent
pub cut-long : (t : List ℕ) (n : ℕ) → n ≤ length t → n ≡ length (take n t)
cut-long t n h = sym (length-take-le n t h)

pub cuts-agree : (a b : List ℕ) (n : ℕ) → n ≤ length a → n ≤ length b → length (take n a) ≡ length (take n b)
cuts-agree a b n h k = length-take-le n a h ∙ cut-long b n k

pub cut_small : (t : List ℕ) (n : ℕ) → n ≤ 8192 → n ≤ length t → length (take n t) ≤ 65536
cut_small t n h k = let e = cut-long t n k in omega arith

pub cut-few : (t : List ℕ) (n r m : ℕ) → r ≤ length (take n t) → n ≤ m → r ≤ m
cut-few t n r m h k = let e = length-take n t in omega arith

pub kept-sorted : (key : ℕ → Str) (a b x : List ℕ) (r : ℕ) → b ≡ arranged key a → take r x ≡ lasts key b → take r x ≡ lasts key (arranged key a)
kept-sorted key a b x r e f = f ∙ ap (lasts key) e

-- where the names go up already all are kept
pub kept-ascending : (key : ℕ → Str) (l : List ℕ) (b : Bool) (n : ℕ) → b ≡ ascends key l → b ≡ true → n ≡ length l → take n l ≡ lasts key (arranged key l)
kept-ascending key l b n e t i = take_all n l (omega arith) ∙ sym (lasts-ascending key l (sym e ∙ t))

-- a search ----------------------------------------------------------------------------------------------------------------

-- where the table is the record's, all names before lo go before the one sought, and from hi on none does
pub record Seeking (s p : Str) (t : List ℕ) (n : Str) (lo hi : ℕ) : Type 0 where
  pub low : TypesTable s p t → (i : ℕ) → i < lo → before (type_name s p (get_or t i 0)) n ≡ true
  pub high : TypesTable s p t → (i : ℕ) → hi ≤ i → i < length t → before (type_name s p (get_or t i 0)) n ≡ false
  pub apart : lo ≤ hi
  pub within : hi ≤ length t

pub seek-start : (s p : Str) (t : List ℕ) (n : Str) (m : ℕ) → m ≡ length t → Seeking s p t n 0 m
seek-start s p t n m e = record { low = λ y i h. absurd (omega arith); high = λ y i h k. absurd (omega arith); apart = omega arith; within = omega arith }

module _ (s p : Str) (w : List Scalar) (n : Str) where
  abbrev R : Rec
  R = rec s p w

  none_found : (t : List ℕ) → ((i : ℕ) → i < length t → eqs (type_name s p (get_or t i 0)) n ≡ false) → type_in n (map (layout_of R) t) ≡ None
  unfolding type_in find layout_of
  none_found [] h = refl
  none_found (x ∷ t) h = rw (h 0 (omega arith)) (none_found t (λ i k. h (suc i) (omega arith)))

  one_found : (t : List ℕ) (i : ℕ) → i < length t → ((j : ℕ) → j < i → eqs (type_name s p (get_or t j 0)) n ≡ false) → eqs (type_name s p (get_or t i 0)) n ≡ true
      → type_in n (map (layout_of R) t) ≡ Some (layout_of R (get_or t i 0))
  unfolding type_in find layout_of
  one_found [] i h f e = absurd (omega arith)
  one_found (x ∷ t) zero h f e = rw e
  one_found (x ∷ t) (suc i) h f e = rw (f 0 (omega arith)) (one_found t i (omega arith) (λ j k. f (suc j) (omega arith)) e)

-- names of which one goes before the other differ
apart-before : (a b : Str) → before a b ≡ true → eqs a b ≡ false
apart-before a b h = go (eqs a b) refl
  where
    go : (t : Bool) → eqs a b ≡ t → t ≡ false
    go true e = absurd (false≢true (sym (not-self a b (eqs→eq a b e)) ∙ h))
    go false e = refl

apart-after : (a b : Str) → before b a ≡ true → eqs a b ≡ false
apart-after a b h = go (eqs a b) refl
  where
    go : (t : Bool) → eqs a b ≡ t → t ≡ false
    go true e = absurd (false≢true (sym (not-self b a (sym (eqs→eq a b e))) ∙ h))
    go false e = refl

-- names of which neither goes before the other are the same
same-between : (a b : Str) → before a b ≡ false → before b a ≡ false → eqs a b ≡ true
same-between a b h k = go (eqs a b) refl
  where
    go : (t : Bool) → eqs a b ≡ t → t ≡ true
    go true e = refl
    go false e = absurd (false≢true (sym k ∙ before-total a b e h))

module _ (s p : Str) (t : List ℕ) (n : Str) (lo hi : ℕ) (k : Seeking s p t n lo hi) where
  abbrev name : ℕ → Str
  name i = type_name s p (get_or t i 0)

  pub seek-up : (mid : ℕ) (b : Bool) → lo ≤ mid → mid < hi → b ≡ before (type_name s p (get_or t mid 0)) n → b ≡ true → Seeking s p t n (mid + 1) hi
  seek-up mid b u v e z = record { low = λ y i h. go y i (omega arith) (ltb i mid) refl; high = k.high; apart = omega arith; within = k.within }
    where
      go : TypesTable s p t → (i : ℕ) → i ≤ mid → (c : Bool) → ltb i mid ≡ c → before (name i) n ≡ true
      go y i h true f = let w = k.within in before-trans (name i) (name mid) n (y.upward i mid (ltb-true i mid f) (omega arith)) (sym e ∙ z)
      go y i h false f =
          let g = ltb-false i mid f in
          let m : i ≡ mid = omega arith in
          ap (λ (j : ℕ). before (name j) n) m ∙ sym e ∙ z

  pub seek-down : (mid : ℕ) (b : Bool) → lo ≤ mid → mid < hi → b ≡ before (type_name s p (get_or t mid 0)) n → b ≡ false → Seeking s p t n lo mid
  seek-down mid b u v e z =
      let w = k.within in
      record { low = k.low; high = λ y i h l. go y i h l (ltb mid i) (before (name i) n) refl refl; apart = u; within = omega arith }
    where
      go : TypesTable s p t → (i : ℕ) → mid ≤ i → i < length t → (c d : Bool) → ltb mid i ≡ c → before (name i) n ≡ d → d ≡ false
      go y i h l c false f g = refl
      go y i h l true true f g = absurd (false≢true (sym (sym e ∙ z) ∙ before-trans (name mid) (name i) n (y.upward mid i (ltb-true mid i f) l) g))
      go y i h l false true f g =
          let q = ltb-false mid i f in
          let m : i ≡ mid = omega arith in
          absurd (false≢true (sym (ap (λ (j : ℕ). before (name j) n) m ∙ sym e ∙ z) ∙ g))

  lower : TypesTable s p t → (i : ℕ) → i < lo → eqs (name i) n ≡ false
  lower y i h = apart-before (name i) n (k.low y i h)

  pub seek-past : hi ≤ lo → length t ≤ lo → FoundType s p t n None
  seek-past h l =
      record { layout = λ y w. ap (type_in n) (sym (y.layouts w)) ∙ none_found s p w n t (λ i q. lower y i (omega arith)); inside = omega arith }

  pub seek-other : (b : Bool) → hi ≤ lo → lo < length t → b ≡ before n (type_name s p (get_or t lo 0)) → b ≡ true → FoundType s p t n None
  seek-other b h l e z =
      record { layout = λ y w. ap (type_in n) (sym (y.layouts w)) ∙ none_found s p w n t (λ i q. go y i q (ltb i lo) (ltb lo i) refl refl); inside = omega arith }
    where
      go : TypesTable s p t → (i : ℕ) → i < length t → (c d : Bool) → ltb i lo ≡ c → ltb lo i ≡ d → eqs (name i) n ≡ false
      go y i q true d f g = lower y i (ltb-true i lo f)
      go y i q false true f g = apart-after (name i) n (before-trans n (name lo) (name i) (sym e ∙ z) (y.upward lo i (ltb-true lo i g) q))
      go y i q false false f g =
          let a = ltb-false i lo f in
          let c = ltb-false lo i g in
          let m : i ≡ lo = omega arith in
          ap (λ (j : ℕ). eqs (name j) n) m ∙ apart-after (name lo) n (sym e ∙ z)

  pub seek_found : (b : Bool) → hi ≤ lo → lo < length t → b ≡ before n (type_name s p (get_or t lo 0)) → b ≡ false → FoundType s p t n (Some lo)
  seek_found b h l e z =
      record {
        layout = λ y w. ap (type_in n) (sym (y.layouts w)) ∙ one_found s p w n t lo l (lower y) (same-between (name lo) n (k.high y lo h l) (sym e ∙ z));
        inside = omega arith;
      }

pub ruleset seek-laws = (seek-past, seek-other, seek_found)

-- the table and the types of its record ---------------------------------------------------------------------------------------

module _ (s p : Str) (t : List ℕ) (y : TypesTable s p t) where
  -- the type of a name that the table has is the one that has it there
  pub own-type : (w : List Scalar) (i : ℕ) → i < length t → type_in (type_name s p (get_or t i 0)) (types (schema_of (rec s p w))) ≡ Some (layout_of (rec s p w) (get_or t i 0))
  own-type w i h =
      ap (type_in (type_name s p (get_or t i 0))) (sym (y.layouts w))
      ∙ one_found s p w _ t i h (λ j k. apart-before _ _ (y.upward j i k h)) (eqs-refl (type_name s p (get_or t i 0)))

  -- a name that the table has not is no type's
  pub no-type : (w : List Scalar) (n : Str) → ((i : ℕ) → i < length t → type_name s p (get_or t i 0) ≡ n → ⊥) → type_in n (types (schema_of (rec s p w))) ≡ None
  no-type w n f = ap (type_in n) (sym (y.layouts w)) ∙ none_found s p w n t (λ i h. go i h (eqs (type_name s p (get_or t i 0)) n) refl)
    where
      go : (i : ℕ) → i < length t → (b : Bool) → eqs (type_name s p (get_or t i 0)) n ≡ b → b ≡ false
      go i h true e = absurd (f i h (eqs→eq (type_name s p (get_or t i 0)) n e))
      go i h false e = refl

  -- no name stands twice
  pub one_name : (i j : ℕ) → i < length t → j < length t → type_name s p (get_or t i 0) ≡ type_name s p (get_or t j 0) → i ≡ j
  one_name i j h k e = go (ltb i j) (ltb j i) refl refl
    where
      apart : (a b : ℕ) → a < b → b < length t → type_name s p (get_or t a 0) ≡ type_name s p (get_or t b 0) → ⊥
      apart a b l n d = false≢true (sym (not-self (type_name s p (get_or t a 0)) (type_name s p (get_or t b 0)) d) ∙ y.upward a b l n)

      go : (c d : Bool) → ltb i j ≡ c → ltb j i ≡ d → i ≡ j
      go true d f g = absurd (apart i j (ltb-true i j f) k e)
      go false true f g = absurd (apart j i (ltb-true j i g) h (sym e))
      go false false f g =
          let a = ltb-false i j f in
          let b = ltb-false j i g in
          omega arith

  -- what is found has the name that was sought
  pub found_name : (n : Str) (r : Option ℕ) (i : ℕ) → FoundType s p t n r → r ≡ Some i → type_name s p (get_or t i 0) ≡ n
  unfolding type_in layout_of
  found_name n r i f m =
      eqs→eq (type_name s p (get_or t i 0)) n
      (find-some (λ (x : TypeLayout). eqs x.name n) (types (schema_of (rec s p []))) (f.layout y [] ∙ ap (found_in (rec s p []) t) m)).1

-- a name that stands at an index is found there
module _ (s p : Str) (t : List ℕ) (f b : Str) (k i : ℕ) where
  pub found_here : (c : Bool) → i < length t → c ≡ has_parts s p (get_or t i 0) f k b → c ≡ true → FoundType s p t (composed f k b) (Some i)
  found_here c h e z =
      let n : type_name s p (get_or t i 0) ≡ composed f k b = named-so s p (get_or t i 0) f b k (sym e ∙ z) in
      record {
        layout = λ y w. ap (λ (m : Str). type_in m (types (schema_of (rec s p w)))) (sym n) ∙ own-type s p t y w i h;
        inside = omega arith;
      }

-- names in parts ----------------------------------------------------------------------------------------------------------

pub found-whole : (s p : Str) (t : List ℕ) (n : Str) (r : Option ℕ) → FoundType s p t (composed n 0 []) r → FoundType s p t n r
unfolding composed
found-whole s p t n r f = subst (λ (m : Str). FoundType s p t m r) (append-nil n) f

pub found-parts : (s p past old : Str) (t : List ℕ) (f b : Str) (h k : ℕ) (r : Option ℕ) → f ≡ front_of past old h → k ≡ colons_of h → b ≡ back_of past old h
    → FoundType s p t (composed f k b) r → FoundType s p t (type_name past old h) r
found-parts s p past old t f b h k r u v w g = subst (λ (m : Str). FoundType s p t m r) (parts-type past old h f b k u v w) g

-- a name of a pool, alone or a family's with a variant's
module _ (s p q : Str) (t : List ℕ) (n : TypeName) (x : Str) (e : x ≡ text_of q n.front) (r : Option ℕ) where
  pub found-alone : n.back ≡ None → FoundType s p t x r → FoundType s p t (name_of q n) r
  found-alone a f = rw (a, ← e) f

  pub found-variant : (d : Text) (y : Str) → n.back ≡ Some d → y ≡ text_of q d → FoundType s p t (composed x 2 y) r → FoundType s p t (name_of q n) r
  unfolding composed variant_name
  found-variant d y a g f = rw (a, ← e, ← g) f
