-- The handles along the stream, a table while it is filled, and the room that it needs. Assumes nothing.
use Rattle.std.specs.Prelude.{Option, Some, None}
use Prim.Native.Nat.{ℕ, suc, ◌+◌, ◌-◌, ◌*◌, ◌/◌, ◌≤◌, ◌<◌}
use mathlib.Core.List.{List, [], ◌∷◌, ◌++◌, append_assoc, append-nil}
use mathlib.Core.Bool.{Bool, true, false, cond}
use mathlib.Core.Path.{◌≡◌, refl, sym, ap, ap₂, subst, ◌∙◌}
use native.Mathlib.Omega.{arith}
use native.Mathlib.Numerals.{add-one}
use lib.ListN.{length, get_or, take, drop, set, length-append, length-set, length-drop, take-append-drop, drop_of_length-le}
use lib.Seq.{take-suc-set, drop-set-lt, length-take-le, drop-drop, take_at, drop_at, take_all}
use borrow.Rule.Slice.PartMut.{put_mid}
use lib.Dec.{eqb}
use borrow.Author.Tests.{ne_eqb, eqb-true, eqb-false}
use Rattle.record.specs.Base.{Str}
use Rattle.record.specs.Commands.{step_at, commands_at}
use Rattle.record.specs.Lists.{anything, a_field}
use Rattle.record.specs.Seek.{after_at, over_of, places_of, places_left, SoughtFrom}
use Rattle.record.specs.declared.seek.Between.TheVariants.{Anything, Fields}
use Rattle.record.proofs.SeekLaws.{Stepped, stepped, ended-there, after-end, after-nearer, sought-stands}
use Rattle.record.specs.declared.command.Cursor.{Cursor}
use Rattle.record.specs.declared.command.Command.{Command}
use Rattle.record.proofs.Stream.{step-found, along}
use Rattle.record.proofs.ListLaws.{byte_of, listed-stop, listed_here, listed-over, listed-end}
use Rattle.layout.proofs.Along.{step-four}
use Rattle.record.specs.Fill.{fronted}
use Rattle.layout.specs.Room.{Room}
use Rattle.layout.specs.Handles.{variant_handles, joined_handles, family_handles, handles_of, families_from}

-- a step along the stream -------------------------------------------------------------------------------------------------

module _ (s : Str) (at : ℕ) (c : Command) (k : Cursor) (e : step_at s at ≡ Some (c, k)) where
  module _ (b : ℕ) where
    places-at : byte_of c ≡ b → places_of s Anything b at ≡ at ∷ places_of s Anything b k.at
    unfolding places_of
    places-at h = listed_here s anything b (λ a rest. a) at c k e h

    places-else : (byte_of c ≡ b → ⊥) → places_of s Anything b at ≡ places_of s Anything b k.at
    unfolding places_of
    places-else h = listed-over s anything b (λ a rest. a) at c k e h refl

    -- no command gives two places
    place-more : length (places_of s Anything b at) ≤ suc (length (places_of s Anything b k.at))
    place-more = go (eqb (byte_of c) b) refl
      where
        go : (t : Bool) → eqb (byte_of c) b ≡ t → length (places_of s Anything b at) ≤ suc (length (places_of s Anything b k.at))
        go true q = let l = ap length (places-at (eqb-true (byte_of c) b q)) in omega arith
        go false q = let l = ap length (places-else (eqb-false (byte_of c) b q)) in omega arith

  -- a family's own list and its variants'
  abbrev own : ℕ → List ℕ → List ℕ
  own a rest = a ∷ variant_handles s a rest

  families-nine : byte_of c ≡ 9 → family_handles s (commands_at s at) ≡ own at (commands_at s k.at) ++ family_handles s (commands_at s k.at)
  unfolding family_handles joined_handles
  families-nine h = ap joined_handles (listed_here s anything 9 own at c k e h)

  families-else : (byte_of c ≡ 9 → ⊥) → family_handles s (commands_at s at) ≡ family_handles s (commands_at s k.at)
  unfolding family_handles
  families-else h = ap joined_handles (listed-over s anything 9 own at c k e h refl)

  module _ (family : ℕ) where
    -- the variants of the family that is open
    abbrev variants : ℕ → List ℕ
    variants a = variant_handles s (family - 1) (commands_at s a)

    abbrev opened : ℕ → List ℕ
    opened a = cond (eqb family 0) [] (variants a)

    opened-end : (byte_of c ≡ 10 → ⊥) → a_field (byte_of c) ≡ false → opened at ≡ []
    unfolding variant_handles
    opened-end h o = go (eqb family 0) (listed-end s a_field 10 (λ a rest. 65536 * (family - 1 + 1) + a) at c k e h o)
      where
        go : (b : Bool) → variants at ≡ [] → cond b [] (variants at) ≡ []
        go true q = refl
        go false q = q

    opened-over : (byte_of c ≡ 10 → ⊥) → a_field (byte_of c) ≡ true → opened at ≡ opened k.at
    unfolding variant_handles
    opened-over h o = ap (cond (eqb family 0) []) (listed-over s a_field 10 (λ a rest. 65536 * (family - 1 + 1) + a) at c k e h o)

    opened-here : byte_of c ≡ 10 → (family ≡ 0 → ⊥) → opened at ≡ (65536 * family + at) ∷ opened k.at
    unfolding variant_handles
    opened-here h z =
        let q : 65536 * (family - 1 + 1) + at ≡ 65536 * family + at = omega arith in
        rw (ne_eqb family 0 z) (listed_here s a_field 10 (λ a rest. 65536 * (family - 1 + 1) + a) at c k e h ∙ ap (λ (n : ℕ). n ∷ variants k.at) q)

    open-nine : byte_of c ≡ 9 → families_from s family at ≡ at ∷ families_from s (at + 1) k.at
    unfolding families_from
    open-nine h =
        let z : at + 1 ≡ 0 → ⊥ = λ q. omega arith in
        let o : at + 1 - 1 ≡ at = omega arith in
        ap₂ (λ (x : List ℕ) (y : List ℕ). x ++ y) (opened-end (λ q. omega arith) (ap a_field h)) (families-nine h) ∙ rw (ne_eqb (at + 1) 0 z, o)

    open-ten : byte_of c ≡ 10 → (family ≡ 0 → ⊥) → families_from s family at ≡ (65536 * family + at) ∷ families_from s family k.at
    unfolding families_from
    open-ten h z = ap₂ (λ (x : List ℕ) (y : List ℕ). x ++ y) (opened-here h z) (families-else (λ q. omega arith))

    open-closed : (byte_of c ≡ 9 → ⊥) → family ≡ 0 → families_from s family at ≡ families_from s family k.at
    unfolding families_from
    open-closed h z = rw z (families-else h)

    open-between : (byte_of c ≡ 9 → ⊥) → (byte_of c ≡ 10 → ⊥) → a_field (byte_of c) ≡ true → families_from s family at ≡ families_from s family k.at
    unfolding families_from
    open-between h i o = ap₂ (λ (x : List ℕ) (y : List ℕ). x ++ y) (opened-over i o) (families-else h)

    open-ends : (byte_of c ≡ 9 → ⊥) → (byte_of c ≡ 10 → ⊥) → a_field (byte_of c) ≡ false → families_from s family at ≡ families_from s 0 k.at
    unfolding families_from
    open-ends h i o = ap₂ (λ (x : List ℕ) (y : List ℕ). x ++ y) (opened-end i o) (families-else h)

    abbrev Fewer : ℕ → Type 0
    Fewer f = length (places_of s Anything 8 at) + length (families_from s family at) ≤ suc (length (places_of s Anything 8 k.at) + length (families_from s f k.at))

    -- no command gives two handles
    one_more : (f : ℕ) × Fewer f
    one_more = go (eqb (byte_of c) 8) (eqb (byte_of c) 9) (eqb (byte_of c) 10) (a_field (byte_of c)) (eqb family 0) refl refl refl refl refl
      where
        go : (x y z w v : Bool) → eqb (byte_of c) 8 ≡ x → eqb (byte_of c) 9 ≡ y → eqb (byte_of c) 10 ≡ z → a_field (byte_of c) ≡ w → eqb family 0 ≡ v → (f : ℕ) × Fewer f
        go true y z w v a b d f g =
            let n = eqb-true (byte_of c) 8 a in
            let l = ap length (places-at 8 n) in
            let o = ap length (open-ends (λ q. omega arith) (λ q. omega arith) (ap a_field n)) in
            (0, omega arith)
        go false true z w v a b d f g =
            let l = ap length (places-else 8 (eqb-false (byte_of c) 8 a)) in
            let o = ap length (open-nine (eqb-true (byte_of c) 9 b)) in
            (at + 1, omega arith)
        go false false true w true a b d f g =
            let l = ap length (places-else 8 (eqb-false (byte_of c) 8 a)) in
            let o = ap length (open-closed (eqb-false (byte_of c) 9 b) (eqb-true family 0 g)) in
            (family, omega arith)
        go false false true w false a b d f g =
            let l = ap length (places-else 8 (eqb-false (byte_of c) 8 a)) in
            let o = ap length (open-ten (eqb-true (byte_of c) 10 d) (eqb-false family 0 g)) in
            (family, omega arith)
        go false false false true v a b d f g =
            let l = ap length (places-else 8 (eqb-false (byte_of c) 8 a)) in
            let o = ap length (open-between (eqb-false (byte_of c) 9 b) (eqb-false (byte_of c) 10 d) f) in
            (family, omega arith)
        go false false false false v a b d f g =
            let l = ap length (places-else 8 (eqb-false (byte_of c) 8 a)) in
            let o = ap length (open-ends (eqb-false (byte_of c) 9 b) (eqb-false (byte_of c) 10 d) f) in
            (0, omega arith)

-- the end of the stream
module _ (s : Str) (at : ℕ) (e : step_at s at ≡ None) where
  places-none : (b : ℕ) → places_of s Anything b at ≡ []
  unfolding places_of
  places-none b = listed-stop s anything b (λ a rest. a) at e

  open_none : (family : ℕ) → families_from s family at ≡ []
  unfolding families_from variant_handles family_handles joined_handles
  open_none family =
      ap₂ (λ (x : List ℕ) (y : List (List ℕ)). cond (eqb family 0) [] x ++ joined_handles y) (listed-stop s a_field 10 (λ a rest. 65536 * (family - 1 + 1) + a) at e)
      (listed-stop s anything 9 (λ a rest. a ∷ variant_handles s a rest) at e) ∙ none (eqb family 0)
    where
      none : (b : Bool) → ◌≡◌ {A = List ℕ} (cond b [] [] ++ []) []
      none true = refl
      none false = refl

-- in the code's words: a command of one number
module _ (s : Str) (b at : ℕ) (r : Option (ℕ × ℕ)) (i : SoughtFrom s Anything b at r) where
  pub places-end : r ≡ None → places_of s Anything b at ≡ []
  places-end m = i.list ∙ ap (places_left s Anything b) m

  module _ (a k : ℕ) (m : r ≡ Some (a, k)) where
    pub sought-small : length s ≤ 32768 → a ≤ 32767
    sought-small h = let f = sought-stands s Anything b at r i a k m in let o = f.on in let w = f.within in omega arith

    pub places-here : (j : ℕ) → j ≡ a → places_of s Anything b at ≡ j ∷ places_of s Anything b k
    places-here j q = rw q (i.list ∙ ap (places_left s Anything b) m)

-- the command at a place, by its number
module _ (s : Str) (at n : ℕ) (i : n ≡ after_at s at) where
  pub open-stop : n ≡ 0 → (family : ℕ) → families_from s family at ≡ []
  open-stop z = open_none s at (ended-there s at n i z)

  pub places-stop : n ≡ 0 → (b : ℕ) → places_of s Anything b at ≡ []
  places-stop z = places-none s at (ended-there s at n i z)

  module _ (z : n ≡ 0 → ⊥) where
    t : Stepped s at n
    t = stepped s at n i z

    pub place-small : length s ≤ 32768 → at ≤ 32767
    place-small h = let f = step-found s at t.command t.cursor t.step in let a = f.on in let b = f.within in omega arith

    module _ (x : ℕ) (h : x ≡ get_or s at 0) where
      number : byte_of t.command ≡ x
      number = sym (h ∙ t.number)

      module _ (b : ℕ) where
        pub place-taken : (j : ℕ) → x ≡ b → j ≡ at → places_of s Anything b at ≡ j ∷ places_of s Anything b n
        place-taken j g q = rw q (places-at s at t.command t.cursor t.step b (number ∙ g) ∙ ap (λ (k : ℕ). at ∷ places_of s Anything b k) t.to)

        pub place-passed : (x ≡ b → ⊥) → places_of s Anything b at ≡ places_of s Anything b n
        place-passed g = places-else s at t.command t.cursor t.step b (λ e. g (sym number ∙ e)) ∙ ap (places_of s Anything b) t.to

      module _ (family : ℕ) where
        abbrev After : ℕ → List ℕ → Type 0
        After f l = families_from s family at ≡ l ++ families_from s f n

        moved : (f : ℕ) (l : List ℕ) → families_from s family at ≡ l ++ families_from s f t.cursor.at → After f l
        moved f l e = e ∙ ap (λ (k : ℕ). l ++ families_from s f k) t.to

        pub open-family : (j : ℕ) → x ≡ 9 → j ≡ at → families_from s family at ≡ j ∷ families_from s (j + 1) n
        open-family j g q = rw q (moved (at + 1) (at ∷ []) (open-nine s at t.command t.cursor t.step family (number ∙ g)))

        pub open_variant : (j : ℕ) → x ≡ 10 → (family ≡ 0 → ⊥) → j ≡ at → families_from s family at ≡ (65536 * family + j) ∷ families_from s family n
        open_variant j g w q = rw q (moved family ((65536 * family + at) ∷ []) (open-ten s at t.command t.cursor t.step family (number ∙ g) w))

        pub open-unowned : (x ≡ 9 → ⊥) → family ≡ 0 → families_from s family at ≡ families_from s family n
        open-unowned g w = moved family [] (open-closed s at t.command t.cursor t.step family (λ q. g (sym number ∙ q)) w)

        module _ (p : x ≡ 9 → ⊥) (q : x ≡ 10 → ⊥) (o : Bool) (v : o ≡ over_of Fields x) where
          pub open-passed : o ≡ true → families_from s family at ≡ families_from s family n
          open-passed g =
              moved family [] (open-between s at t.command t.cursor t.step family (λ e. p (sym number ∙ e)) (λ e. q (sym number ∙ e)) (ap a_field number ∙ sym v ∙ g))

          pub open-over : o ≡ false → families_from s family at ≡ families_from s 0 n
          open-over g =
              moved 0 [] (open-ends s at t.command t.cursor t.step family (λ e. p (sym number ∙ e)) (λ e. q (sym number ∙ e)) (ap a_field number ∙ sym v ∙ g))

pub ruleset place-laws = (place-taken, place-passed)

pub ruleset open-laws = (open-family, open_variant, open-unowned, open-passed, open-over)

-- the families while the first of them is sought: those from it on, and where none was met those that are yet to come
pub record Begun (s : Str) (family at : ℕ) : Type 0 where
  pub unmet : family ≡ length s → families_from s 0 0 ≡ families_from s 0 at
  pub met : (family ≡ length s → ⊥) → families_from s 0 0 ≡ families_from s 0 family

pub begun-start : (s : Str) → Begun s (length s) 0
begun-start s = record { unmet = λ e. refl; met = λ h. absurd (h refl) }

module _ (s : Str) (family at : ℕ) (b : Begun s family at) (n : ℕ) (i : n ≡ after_at s at) where
  pub begun-end : n ≡ 0 → families_from s 0 0 ≡ families_from s 0 family
  begun-end z = go (eqb family (length s)) refl
    where
      go : (t : Bool) → eqb family (length s) ≡ t → families_from s 0 0 ≡ families_from s 0 family
      go true q =
          let e = eqb-true family (length s) q in
          b.unmet e ∙ open-stop s at n i z 0 ∙ sym (open-stop s family 0 (after-end s family (omega arith)) refl 0)
      go false q = b.met (eqb-false family (length s) q)

  pub begun-later : (family ≡ length s → ⊥) → Begun s family n
  begun-later h = record { unmet = λ e. absurd (h e); met = b.met }

  module _ (z : n ≡ 0 → ⊥) where
    pub begun-here : family ≡ length s → Begun s at n
    begun-here e = record { unmet = λ q. let a = after-nearer s at n i z in absurd (omega arith); met = λ q. b.unmet e }

    module _ (x : ℕ) (h : x ≡ get_or s at 0) where
      pub begun-over : (x ≡ 9 → ⊥) → Begun s family n
      begun-over g = record { unmet = λ e. b.unmet e ∙ open-unowned s at n i z x h 0 g refl; met = b.met }

      pub begun-struct : x ≡ 8 → Begun s family n
      begun-struct g = begun-over (λ q. omega arith)

pub ruleset begun-laws = (begun-later, begun-here, begun-over, begun-struct)

-- a table while it is filled: what is there of it, what is yet to come, and the old rest ------------------------------------

pub record Filling (all left o t : List ℕ) (n : ℕ) : Type 0 where
  pub so_far : take n t ++ left ≡ all
  pub rest : drop n t ≡ drop n o
  pub room : n ≤ length t
  pub long : length t ≡ length o
  pub enough : length all ≤ length o

pub fill_start : (all o : List ℕ) → length all ≤ length o → Filling all all o o 0
fill_start all o h = record { so_far = refl; rest = refl; room = omega arith; long = refl; enough = h }

module _ (all o t : List ℕ) (n : ℕ) (left : List ℕ) (f : Filling all left o t n) where
  count : length all ≡ n + length left
  count = sym (ap length f.so_far) ∙ simp length-append (rw (length-take-le n t f.room) refl)

  pub fill-count : left ≡ [] → n ≡ length all
  fill-count z = let c = count in let d : length left ≡ 0 = ap length z in omega arith

  pub fill_end : left ≡ [] → t ≡ fronted o all
  unfolding fronted
  fill_end z =
      let e : take n t ≡ all = sym (append-nil (take n t)) ∙ subst (λ (l : List ℕ). take n t ++ l ≡ all) z f.so_far in
      let c = fill-count z in
      sym (take-append-drop n t) ∙ rw (f.rest, e, ← c)

  pub fill-room : (x : ℕ) (after : List ℕ) → left ≡ x ∷ after → n < length t
  fill-room x after e = let c = count in let d : length left ≡ suc (length after) = ap length e in let g = f.long in let h = f.enough in omega arith

  pub fill_more : (x : ℕ) (after : List ℕ) → left ≡ x ∷ after → Filling all after o (set t n x) (n + 1)
  fill_more x after e =
      let h = fill-room x after e in
      record {
        so_far = rw (add-one, take-suc-set t n x h, append_assoc) (subst (λ (l : List ℕ). take n t ++ l ≡ all) e f.so_far);
        rest = rw (add-one, drop-set-lt (suc n) t n x (omega arith)) (next f.rest);
        room = rw length-set (omega arith);
        long = rw length-set f.long;
        enough = f.enough;
      }
    where
      next : drop n t ≡ drop n o → drop (suc n) t ≡ drop (suc n) o
      next d = rw (← add-one n, ← drop-drop 1 n t, ← drop-drop 1 n o, d)

  pub fill-same : (after : List ℕ) → left ≡ after → Filling all after o t n
  fill-same after e = subst (λ (l : List ℕ). Filling all l o t n) e f

pub ruleset fill-laws = (fill_more, fill-same)

-- where a handle is still to come there is room for it
module _ (s : Str) (all o t : List ℕ) (n : ℕ) where
  pub place-room : (b at : ℕ) (r : Option (ℕ × ℕ)) → SoughtFrom s Anything b at r → (a k : ℕ) → r ≡ Some (a, k) → Filling all (places_of s Anything b at) o t n → n < length t
  place-room b at r i a k m f = fill-room all o t n (places_of s Anything b at) f a (places_of s Anything b k) (places-here s b at r i a k m a refl)

  module _ (at after : ℕ) (i : after ≡ after_at s at) (z : after ≡ 0 → ⊥) (x : ℕ) (h : x ≡ get_or s at 0) where
    pub taken-room : (b : ℕ) → Filling all (places_of s Anything b at) o t n → x ≡ b → n < length t
    taken-room b f g = fill-room all o t n (places_of s Anything b at) f at (places_of s Anything b after) (place-taken s at after i z x h b at g refl)

    module _ (family : ℕ) (f : Filling all (families_from s family at) o t n) where
      pub family-room : x ≡ 9 → n < length t
      family-room g = fill-room all o t n (families_from s family at) f at (families_from s (at + 1) after) (open-family s at after i z x h family at g refl)

      pub variant-room : x ≡ 10 → (family ≡ 0 → ⊥) → n < length t
      variant-room g w = fill-room all o t n (families_from s family at) f (65536 * family + at) (families_from s family after) (open_variant s at after i z x h family at g w refl)

pub ruleset room-laws = (family-room, variant-room)

-- the places of one number ------------------------------------------------------------------------------------------------

module _ (s : Str) (b : ℕ) where
  places-room : (at : ℕ) → 4 * length (places_of s Anything b at) ≤ length s - at
  places-room =
      along s (λ (at : ℕ). 4 * length (places_of s Anything b at) ≤ length s - at) (λ at e. let a = ap length (places-none s at e b) in omega arith)
      (λ at c k e ih.
      let f = step-found s at c k e in
      let w = f.within in
      let d = step-four s at c k e in
      let o = place-more s at c k e b in
      omega arith)

  -- four bytes of the stream are one of them at most
  pub places-fit : (o : List ℕ) → Room s o → length (places_of s Anything b 0) ≤ length o
  places-fit o h = let a = places-room 0 in omega arith

  pub places-few : (o t left : List ℕ) (n : ℕ) → Filling (places_of s Anything b 0) left o t n → left ≡ [] → n ≤ length s / 4
  places-few o t left n f z = let a = places-room 0 in let i = fill-count (places_of s Anything b 0) o t n left f z in omega arith

-- all handles -------------------------------------------------------------------------------------------------------------

module _ (s : Str) where
  all_room : (at family : ℕ) → 4 * (length (places_of s Anything 8 at) + length (families_from s family at)) ≤ length s - at
  all_room =
      along s (λ (at : ℕ). (family : ℕ) → 4 * (length (places_of s Anything 8 at) + length (families_from s family at)) ≤ length s - at)
      (λ at e family. let a = ap length (places-none s at e 8) in let b = ap length (open_none s at e family) in omega arith)
      (λ at c k e ih family.
      let f = step-found s at c k e in
      let w = f.within in
      let b = step-four s at c k e in
      let o = one_more s at c k e family in
      let h = ih o.0 in
      let l = o.1 in
      omega arith)

  all_are : places_of s Anything 8 0 ++ families_from s 0 0 ≡ handles_of s
  unfolding places_of families_from handles_of
  all_are = refl

  -- four bytes of the stream are one type at most
  few : length (places_of s Anything 8 0) + length (families_from s 0 0) ≤ length s / 4
  few = let a = all_room 0 0 in omega arith

  -- the families' handles are those from a place on
  module _ (n : ℕ) (i : n ≡ length (places_of s Anything 8 0)) (family : ℕ) (e : families_from s 0 0 ≡ families_from s 0 family) where
    pub families-fit : n + length (families_from s 0 family) ≤ length s / 4
    families-fit = let a = few in let l = ap length e in omega arith

    pub all-count : (m : ℕ) → m ≡ length (families_from s 0 family) → n + m ≡ length (handles_of s)
    all-count m j = rw (← all_are, length-append, i, j, e)

    pub all-filled : (o t x : List ℕ) → t ≡ fronted o (places_of s Anything 8 0) → n ≤ length t → x ≡ fronted (take (length t - n) (drop n t)) (families_from s 0 family)
        → put_mid n (length t - n) t x ≡ fronted o (handles_of s)
    unfolding fronted
    all-filled o t x f h g =
        let a : take n t ≡ places_of s Anything 8 0 = ap (take n) f ∙ take_at (places_of s Anything 8 0) (drop (length (places_of s Anything 8 0)) o) n (sym i) in
        let b : drop n t ≡ drop n o = ap (drop n) f ∙ drop_at (places_of s Anything 8 0) (drop (length (places_of s Anything 8 0)) o) n (sym i) ∙ ap (λ (j : ℕ). drop j o) (sym i) in
        let l : length (drop n t) ≤ length t - n = rw length-drop (omega arith) in
        let d : drop (length t - n) (drop n t) ≡ [] = drop_of_length-le (drop n t) l in
        rw (d, g, ← e, take_all (length t - n) (drop n t) l, append-nil, a, b, drop-drop (length (families_from s 0 0)) n o, i, ← append_assoc (places_of s Anything 8 0) (families_from s 0 0) (drop (length (places_of s Anything 8 0) + length (families_from s 0 0)) o), ← length-append (places_of s Anything 8 0) (families_from s 0 0), all_are)
