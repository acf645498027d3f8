-- Where the lists of a record end, along the walk that finds it; and each list of a stream that is cut off there. Assumes nothing.
use Rattle.std.specs.Prelude.{Some}
use mathlib.Core.Path.{◌≡◌, refl, sym, ap, ap₂, subst, ◌∙◌}
use mathlib.Core.List.Memᴰ
use mathlib.Core.List.{List, [], ◌∷◌, Memᴰ}
use mathlib.Core.Bool.{Bool, true, false, cond, false≢true}
use Prim.Native.Nat.{ℕ, ◌+◌, ◌-◌, ◌/◌, ◌≤◌, ◌<◌}
use native.Mathlib.Omega.{arith}
use borrow.Author.Tests.{eqb-true, eqb-false}
use lib.Dec.{eqb}
use lib.ListN.{length, take, drop, get_or}
use lib.Seq.{get_or-take, get_or-drop, length-take-le}
use Rattle.record.specs.Base.{Str, bytes, first, with_some}
use Rattle.record.specs.Commands.{width_of, width_with, operands, widths, wide, command_of, step_at, place, commands_at, constant_at, enum_at, value_at, bitfield_at, member_at, key_at}
use Rattle.record.specs.Lists.{listed, anything, nothing, a_key, constant_of, enum_of, value_of, bitfield_of, member_of, key_of, constants, values, enums, members, bitfields, keys, fields, structs, unstored}
use Rattle.record.specs.Steps.{constants_at, enums_at, bitfields_at, structs_at, unstored_at}
use Rattle.record.specs.Schema.{Key, Field, Struct}
use Rattle.record.specs.Keys.{field_keys, plugin_keys}
use Rattle.record.specs.Index.{put_at, IndexRoom, Headless}
use Rattle.record.specs.Seek.{after_at, over_of, places_of}
use Rattle.record.specs.Ends.{Reached, there, onward, in_constants, in_enums, in_bitfields, in_keys, Before, EndsOf, noted, no_ends, IndexedTo}
use Rattle.record.specs.declared.command.Cursor.{Cursor}
use Rattle.record.specs.declared.command.Command.{Command}
use Rattle.record.specs.declared.seek.Between.TheVariants.{Anything}
use Rattle.record.specs.declared.ends.Ends.{Ends}
use Rattle.record.proofs.CommandLaws.{step_end, step-next, text_same, opt_same, flag_same, u32-same, u64-same, number_same}
use Rattle.record.proofs.Stream.{step-found, along}
use Rattle.record.proofs.ListLaws.{byte_of, byte-is, listed-stop, listed_here, listed-over, listed-end}
use Rattle.record.proofs.SeekLaws.{Stepped, stepped, ended-there}
use Rattle.record.proofs.IndexLaws.{Filling, fill_start, fill_end, fill-place, fill-entry, fill_on}

-- the walk ---------------------------------------------------------------------------------------------------------------

-- a command further
reached-next : (s : Str) (m : ℕ) (c : Command) (k : Cursor) → step_at s m ≡ Some (c, k) → {at : ℕ} → Reached s m at → Reached s k.at at
reached-next s m c k e (there p) = onward (ap (step_at s) p ∙ e) (there refl)
reached-next s m c k e (onward f r) = onward f (reached-next s m c k e r)

-- as `Before`, of the commands that are seen when the walk is at a place
pub record BeforeTo (s : Str) (is : ℕ → Bool) (e at : ℕ) : Type 0 where
  reached : Reached s e 0
  same : (b : ℕ) → is b ≡ true → places_of s Anything b e ≡ places_of s Anything b at

pub record EndsTo (s : Str) (r : Ends) (at : ℕ) : Type 0 where
  pub reached : Reached s at 0
  pub constants : BeforeTo s in_constants r.constants at
  pub enums : BeforeTo s in_enums r.enums at
  pub bitfields : BeforeTo s in_bitfields r.bitfields at
  pub keys : BeforeTo s in_keys r.keys at

ends-start : (s : Str) (r : Ends) → r ≡ no_ends → EndsTo s r 0
ends-start s r h = rw h (record { reached = there refl; constants = nowhere in_constants; enums = nowhere in_enums; bitfields = nowhere in_bitfields; keys = nowhere in_keys })
  where
    nowhere : (is : ℕ → Bool) → BeforeTo s is 0 0
    nowhere is = record { reached = there refl; same = λ b h. refl }

module _ (s : Str) (at n : ℕ) (e : n ≡ after_at s at) where
  ends-end : n ≡ 0 → (r : Ends) → EndsTo s r at → EndsOf s r
  unfolding places_of
  ends-end z r h = record { constants = all h.constants; enums = all h.enums; bitfields = all h.bitfields; keys = all h.keys }
    where
      all : {is : ℕ → Bool} {k : ℕ} → BeforeTo s is k at → Before s is k
      all f = record { reached = f.reached; none = λ b q. f.same b q ∙ listed-stop s (over_of Anything) b (λ at rest. at) at (ended-there s at n e z) }

  module _ (z : n ≡ 0 → ⊥) (y : ℕ) (i : y ≡ get_or s at 0) where
    t : Stepped s at n
    t = stepped s at n e z

    reach : Reached s at 0 → Reached s n 0
    reach r = subst (λ (k : ℕ). Reached s k 0) t.to (reached-next s at t.command t.cursor t.step r)

    passed : (b : ℕ) → (y ≡ b → ⊥) → places_of s Anything b at ≡ places_of s Anything b n
    unfolding places_of
    passed b w =
        listed-over s (over_of Anything) b (λ at rest. at) at t.command t.cursor t.step (λ h. w (i ∙ t.number ∙ h)) refl ∙ ap (places_of s Anything b) t.to

    seen : (is : ℕ → Bool) (k : ℕ) → Reached s at 0 → BeforeTo s is k at → BeforeTo s is (cond (is y) n k) n
    seen is k r f = go (is y) refl
      where
        go : (v : Bool) → is y ≡ v → BeforeTo s is (cond v n k) n
        go true p = record { reached = reach r; same = λ b h. refl }
        go false p = record { reached = f.reached; same = λ b h. f.same b h ∙ passed b (λ q. false≢true (sym p ∙ ap is q ∙ h)) }

    ends_on : (r q : Ends) → EndsTo s r at → q ≡ noted r y n → EndsTo s q n
    unfolding noted
    ends_on r q h j = rw j (record {
      reached = reach h.reached;
      constants = seen in_constants r.constants h.reached h.constants;
      enums = seen in_enums r.enums h.reached h.enums;
      bitfields = seen in_bitfields r.bitfields h.reached h.bitfields;
      keys = seen in_keys r.keys h.reached h.keys;
    })

-- what the walk has noted before a place, and the index that it fills
pub record Noting (s p : Str) (before x : List ℕ) (r : Ends) (at : ℕ) : Type 0 where
  pub filling : Filling s p before x at
  pub ends : EndsTo s r at

module _ (s p : Str) (before x : List ℕ) (r : Ends) where
  pub noting-start : Headless before x → IndexRoom s before → r ≡ no_ends → Noting s p x x r 0
  noting-start c h e = record { filling = fill_start s p before x c h; ends = ends-start s r e }

  module _ (at n : ℕ) (f : Noting s p before x r at) (e : n ≡ after_at s at) where
    pub noting-end : n ≡ 0 → IndexedTo s p x r
    noting-end z = record { index = fill_end s p before x at f.filling n e z; ends = ends-end s at n e z r f.ends }

    module _ (z : n ≡ 0 → ⊥) (small : length s ≤ 32768) where
      pub noting-place : at < 32768
      noting-place = fill-place s p before x at f.filling n e z small

      pub noting-entry : 256 + at / 7 < length x
      noting-entry = fill-entry s p before x at f.filling n e z small

      pub noting-on : (to : List ℕ) → to ≡ put_at s p x at → (y : ℕ) → y ≡ get_or s at 0 → (q : Ends) → q ≡ noted r y n → Noting s p before to q n
      noting-on to g y i q j = record { filling = fill_on s p before x at f.filling n e z small to g; ends = ends_on s at n e z y i r q f.ends j }

pub ruleset noting-laws = (noting-start, noting-end, noting-on)

-- a list of a stream that is cut off -------------------------------------------------------------------------------------

reached-ahead : (s : Str) (to : ℕ) {at : ℕ} → Reached s to at → at ≤ to
reached-ahead s to (there p) = omega arith
reached-ahead s to (onward {at} {c} {k} e r) = let f = step-found s at c k e in let a = f.on in let b = reached-ahead s to r in omega arith

-- where no command of a number stands from a place on, the command there has another, and none stands after it
module _ (s : Str) (n at : ℕ) (c : Command) (k : Cursor) (e : step_at s at ≡ Some (c, k)) (h : places_of s Anything n at ≡ []) where
  not-here : byte_of c ≡ n → ⊥
  unfolding places_of
  not-here q = Memᴰ.not-nil (subst (λ (l : List ℕ). Memᴰ at l) (sym (listed_here s (over_of Anything) n (λ at rest. at) at c k e q) ∙ h) (Memᴰ.head refl))

  none_after : places_of s Anything n k.at ≡ []
  unfolding places_of
  none_after = sym (listed-over s (over_of Anything) n (λ at rest. at) at c k e not-here refl) ∙ h

-- what is made of a list, one element after the other
module _ {A X : Type 0} (F : List A → X) (h : A → X → X) (step : (x : A) (l : List A) → F (x ∷ l) ≡ h x (F l)) (s : Str) (over : ℕ → Bool) (b : ℕ) (f : ℕ → List ℕ → A) where
  -- the elements count for nothing where no command of a number stands any more
  none_made : (n : ℕ) → ((at : ℕ) (c : Command) (k : Cursor) → byte_of c ≡ b → (byte_of c ≡ n → ⊥) → places_of s Anything n k.at ≡ [] → (x : X) → h (f at (commands_at s k.at)) x ≡ x)
      → (at : ℕ) → places_of s Anything n at ≡ [] → F (listed s over b f (commands_at s at)) ≡ F []
  none_made n idle =
      along s (λ (at : ℕ). places_of s Anything n at ≡ [] → F (listed s over b f (commands_at s at)) ≡ F []) (λ at e m. ap F (listed-stop s over b f at e))
      (λ at c k e ih m. go at c k e ih m (eqb (byte_of c) b) (over (byte_of c)) refl refl)
    where
      go : (at : ℕ) (c : Command) (k : Cursor) → step_at s at ≡ Some (c, k) → (places_of s Anything n k.at ≡ [] → F (listed s over b f (commands_at s k.at)) ≡ F []) → places_of s Anything n at ≡ []
          → (t o : Bool) → eqb (byte_of c) b ≡ t → over (byte_of c) ≡ o → F (listed s over b f (commands_at s at)) ≡ F []
      go at c k e ih m true o p q =
          let w = eqb-true (byte_of c) b p in
          let z = none_after s n at c k e m in
          ap F (listed_here s over b f at c k e w) ∙ step _ _ ∙ idle at c k w (not-here s n at c k e m) z _ ∙ ih z
      go at c k e ih m false true p q = ap F (listed-over s over b f at c k e (eqb-false (byte_of c) b p) q) ∙ ih (none_after s n at c k e m)
      go at c k e ih m false false p q = ap F (listed-end s over b f at c k e (eqb-false (byte_of c) b p) q)

reached-within : (s : Str) (to : ℕ) {at : ℕ} → Reached s to at → at ≤ length s → to ≤ length s
reached-within s to (there p) h = omega arith
reached-within s to (onward {at} {c} {k} e r) h = reached-within s to r (step-found s at c k e).within

module _ (s : Str) (to : ℕ) (l : to ≤ length s) where
  long : length (take to s) ≡ to
  long = length-take-le to s l

  -- what a command before the cut is, once the stream is cut
  record Uncut (at : ℕ) (c : Command) (k : Cursor) : Type 0 where
    command : Command
    step : step_at (take to s) at ≡ Some (command, place k.at)
    number : byte_of command ≡ byte_of c

  uncut : (at : ℕ) (c : Command) (k : Cursor) → step_at s at ≡ Some (c, k) → k.at ≤ to → Uncut at c k
  uncut at c k e h =
      let f = step-found s at c k e in
      let on = f.on in
      let n : length (take to s) ≡ to = long in
      let same : get_or (take to s) at 0 ≡ get_or s at 0 = get_or-take to s at 0 (omega arith) in
      let w : k.at ≡ at + width_of (get_or s at 0) = f.wide in
      let d : Command = command_of (get_or (take to s) at 0) (take (length (take to s) - at) (drop at (take to s))) in
      let step : step_at (take to s) at ≡ Some (d, place k.at) =
      sym (step-next (take to s) at (omega arith) (λ x. f.going (sym same ∙ x)) (width_of (get_or s at 0)) (ap width_of (sym same)) d f.known (omega arith) refl)
      ∙ ap (λ (j : ℕ). Some (d, place j)) (sym w) in
      record { command = d; step = step; number = sym (byte-is (take to s) at d (place k.at) step) ∙ same ∙ byte-is s at c k e }

  -- what is made of a list stays as it is if each element counts as before, and those from the cut on for nothing
  module _ {A X : Type 0} (F : List A → X) (h : A → X → X) (made : (x : A) (l : List A) → F (x ∷ l) ≡ h x (F l)) (over : ℕ → Bool) (b : ℕ) (f g : ℕ → List ℕ → A) (none : F (listed s over b f (commands_at s to)) ≡ F [])
      (same : (at : ℕ) (c : Command) (k : Cursor) → step_at s at ≡ Some (c, k) → get_or s at 0 ≡ b → Reached s to k.at → (x : X) → h (f at (commands_at s k.at)) x ≡ h (g at (commands_at (take to s) k.at)) x) where
    made-front : {at : ℕ} → Reached s to at → F (listed s over b f (commands_at s at)) ≡ F (listed (take to s) over b g (commands_at (take to s) at))
    made-front (there {at} p) =
        ap (λ (x : ℕ). F (listed s over b f (commands_at s x))) p ∙ none
        ∙ sym (ap F (listed-stop (take to s) over b g at (sym (step_end (take to s) at (let n = long in omega arith)))))
    made-front (onward {at} {c} {k} e r) = go (made-front r) (uncut at c k e (reached-ahead s to r)) (eqb (byte_of c) b) (over (byte_of c)) refl refl
      where
        go : F (listed s over b f (commands_at s k.at)) ≡ F (listed (take to s) over b g (commands_at (take to s) k.at)) → Uncut at c k
            → (t o : Bool) → eqb (byte_of c) b ≡ t → over (byte_of c) ≡ o → F (listed s over b f (commands_at s at)) ≡ F (listed (take to s) over b g (commands_at (take to s) at))
        go ih u true o p q =
            let w = eqb-true (byte_of c) b p in
            ap F (listed_here s over b f at c k e w) ∙ made _ _ ∙ same at c k e (byte-is s at c k e ∙ w) r _ ∙ ap (h _) ih ∙ sym (made _ _)
            ∙ sym (ap F (listed_here (take to s) over b g at u.command (place k.at) u.step (u.number ∙ w)))
        go ih u false true p q =
            let w = eqb-false (byte_of c) b p in
            ap F (listed-over s over b f at c k e w q) ∙ ih
            ∙ sym (ap F (listed-over (take to s) over b g at u.command (place k.at) u.step (λ x. w (sym u.number ∙ x)) (ap over u.number ∙ q)))
        go ih u false false p q =
            let w = eqb-false (byte_of c) b p in
            ap F (listed-end s over b f at c k e w q)
            ∙ sym (ap F (listed-end (take to s) over b g at u.command (place k.at) u.step (λ x. w (sym u.number ∙ x)) (ap over u.number ∙ q)))

  -- a list of which all commands stand before the cut is the same if each of its elements is
  listed-front : {A : Type 0} (over : ℕ → Bool) (b : ℕ) (f g : ℕ → List ℕ → A) → places_of s Anything b to ≡ []
      → ((at : ℕ) (c : Command) (k : Cursor) → step_at s at ≡ Some (c, k) → get_or s at 0 ≡ b → Reached s to k.at → f at (commands_at s k.at) ≡ g at (commands_at (take to s) k.at))
      → {at : ℕ} → Reached s to at → listed s over b f (commands_at s at) ≡ listed (take to s) over b g (commands_at (take to s) at)
  listed-front {A} over b f g none same =
      made-front (λ (l : List A). l) (λ (x : A) (l : List A). x ∷ l) (λ x l. refl) over b f g
      (none_made (λ (l : List A). l) (λ (x : A) (l : List A). x ∷ l) (λ x l. refl) s over b f b (λ at c k p q m x. absurd (q p)) to none)
      (λ at c k e i r x. ap (λ (y : A). y ∷ x) (same at c k e i r))

-- the bytes of a command before the cut
byte-front : (s : Str) (to at c : ℕ) → at + c ≤ to → (i : ℕ) → i < c → get_or (drop at s) i 0 ≡ get_or (drop at (take to s)) i 0
byte-front s to at c h i l = get_or-drop at s i 0 ∙ sym (get_or-take to s (at + i) 0 (omega arith)) ∙ sym (get_or-drop at (take to s) i 0)

module _ (s : Str) (to at : ℕ) (c : Command) (k : Cursor) (e : step_at s at ≡ Some (c, k)) (r : Reached s to k.at) where
  bytes-front : (b : ℕ) → get_or s at 0 ≡ b → (i : ℕ) → i < width_of b → get_or (drop at s) i 0 ≡ get_or (drop at (take to s)) i 0
  bytes-front b h =
      byte-front s to at (width_of b) (let a = reached-ahead s to r in let w : k.at ≡ at + width_of b = (step-found s at c k e).wide ∙ ap (λ (x : ℕ). at + width_of x) h in omega arith)

before-short : (s : Str) (is : ℕ → Bool) (to : ℕ) → Before s is to → to ≤ length s
before-short s is to h = reached-within s to h.reached (omega arith)

-- constants --------------------------------------------------------------------------------------------------------------

constant-same : (x y : Str) → ((i : ℕ) → i < 20 → get_or x i 0 ≡ get_or y i 0) → constant_at x ≡ constant_at y
constant-same x y f =
    let n = text_same x y 1 (λ i k l. f i (omega arith)) in
    let t = flag_same x y 4 (f 4 (omega arith)) in
    let v = u64-same x y 5 (λ i k l. f i (omega arith)) in
    let w = opt_same x y 13 (λ i k l. f i (omega arith)) in
    let a = flag_same x y 16 (f 16 (omega arith)) in
    let r = opt_same x y 17 (λ i k l. f i (omega arith)) in
    λ j. record { name = n j; is_text = t j; integer = v j; text = w j; ora_api = a j; first_release = r j }

constants-cut : (s p : Str) (to : ℕ) → Before s in_constants to → constants_at s p 0 ≡ constants_at (take to s) p 0
unfolding constants_at constants width_of width_with operands widths wide bytes
constants-cut s p to h =
    listed-front s to (before-short s in_constants to h) anything 2 _ _ (h.none 2 refl)
    (λ at c k e i r. ap (constant_of p) (constant-same (drop at s) (drop at (take to s)) (bytes-front s to at c k e r 2 i)))
    h.reached

pub constants-front : (s p t : Str) (r : Ends) → EndsOf s r → t ≡ take r.constants s → constants_at t p 0 ≡ constants_at s p 0
constants-front s p t r e h = ap (λ (x : Str). constants_at x p 0) h ∙ sym (constants-cut s p r.constants e.constants)

-- enums ------------------------------------------------------------------------------------------------------------------

enum_same : (x y : Str) → ((i : ℕ) → i < 12 → get_or x i 0 ≡ get_or y i 0) → enum_at x ≡ enum_at y
enum_same x y f =
    let n = text_same x y 1 (λ i k l. f i (omega arith)) in
    let w = u32-same x y 4 (λ i k l. f i (omega arith)) in
    let a = flag_same x y 8 (f 8 (omega arith)) in
    let r = opt_same x y 9 (λ i k l. f i (omega arith)) in
    λ j. record { name = n j; size = w j; ora_api = a j; first_release = r j }

value_same : (x y : Str) → ((i : ℕ) → i < 15 → get_or x i 0 ≡ get_or y i 0) → value_at x ≡ value_at y
value_same x y f =
    let n = text_same x y 1 (λ i k l. f i (omega arith)) in
    let v = u64-same x y 4 (λ i k l. f i (omega arith)) in
    let r = opt_same x y 12 (λ i k l. f i (omega arith)) in
    λ j. record { name = n j; value = v j; first_release = r j }

module _ (s p : Str) (to : ℕ) (h : Before s in_enums to) where
  values-front : {at : ℕ} → Reached s to at → values s p (commands_at s at) ≡ values (take to s) p (commands_at (take to s) at)
  unfolding values width_of width_with operands widths wide bytes
  values-front =
      listed-front s to (before-short s in_enums to h) nothing 5 _ _ (h.none 5 refl)
      (λ at c k e i r. ap (value_of p) (value_same (drop at s) (drop at (take to s)) (bytes-front s to at c k e r 5 i)))

  enums-cut : enums_at s p 0 ≡ enums_at (take to s) p 0
  unfolding enums_at enums width_of width_with operands widths wide bytes
  enums-cut =
      listed-front s to (before-short s in_enums to h) anything 4 _ _ (h.none 4 refl)
      (λ at c k e i r. ap₂ (enum_of p) (enum_same (drop at s) (drop at (take to s)) (bytes-front s to at c k e r 4 i)) (values-front r))
      h.reached

pub enums-front : (s p t : Str) (r : Ends) → EndsOf s r → t ≡ take r.enums s → enums_at t p 0 ≡ enums_at s p 0
enums-front s p t r e h = ap (λ (x : Str). enums_at x p 0) h ∙ sym (enums-cut s p r.enums e.enums)

-- bit fields -------------------------------------------------------------------------------------------------------------

bitfield-same : (x y : Str) → ((i : ℕ) → i < 11 → get_or x i 0 ≡ get_or y i 0) → bitfield_at x ≡ bitfield_at y
bitfield-same x y f =
    let n = text_same x y 1 (λ i k l. f i (omega arith)) in
    let w = u32-same x y 4 (λ i k l. f i (omega arith)) in
    let r = opt_same x y 8 (λ i k l. f i (omega arith)) in
    λ j. record { name = n j; size = w j; first_release = r j }

member-same : (x y : Str) → ((i : ℕ) → i < 16 → get_or x i 0 ≡ get_or y i 0) → member_at x ≡ member_at y
member-same x y f =
    let n = text_same x y 1 (λ i k l. f i (omega arith)) in
    let b = u32-same x y 4 (λ i k l. f i (omega arith)) in
    let w = number_same x y 8 (λ i k l. f i (omega arith)) in
    let r = opt_same x y 13 (λ i k l. f i (omega arith)) in
    λ j. record { name = n j; bit = b j; width = w j; first_release = r j }

module _ (s p : Str) (to : ℕ) (h : Before s in_bitfields to) where
  members-front : {at : ℕ} → Reached s to at → members s p (commands_at s at) ≡ members (take to s) p (commands_at (take to s) at)
  unfolding members width_of width_with operands widths wide bytes
  members-front =
      listed-front s to (before-short s in_bitfields to h) nothing 7 _ _ (h.none 7 refl)
      (λ at c k e i r. ap (member_of p) (member-same (drop at s) (drop at (take to s)) (bytes-front s to at c k e r 7 i)))

  bitfields-cut : bitfields_at s p 0 ≡ bitfields_at (take to s) p 0
  unfolding bitfields_at bitfields width_of width_with operands widths wide bytes
  bitfields-cut =
      listed-front s to (before-short s in_bitfields to h) anything 6 _ _ (h.none 6 refl)
      (λ at c k e i r. ap₂ (bitfield_of p) (bitfield-same (drop at s) (drop at (take to s)) (bytes-front s to at c k e r 6 i)) (members-front r))
      h.reached

pub bitfields-front : (s p t : Str) (r : Ends) → EndsOf s r → t ≡ take r.bitfields s → bitfields_at t p 0 ≡ bitfields_at s p 0
bitfields-front s p t r e h = ap (λ (x : Str). bitfields_at x p 0) h ∙ sym (bitfields-cut s p r.bitfields e.bitfields)

-- plugin keys ------------------------------------------------------------------------------------------------------------

key-same : (x y : Str) → ((i : ℕ) → i < 7 → get_or x i 0 ≡ get_or y i 0) → key_at x ≡ key_at y
key-same x y f =
    let n = text_same x y 1 (λ i k l. f i (omega arith)) in
    let r = opt_same x y 4 (λ i k l. f i (omega arith)) in
    λ j. record { name = n j; first_release = r j }

module _ (s p : Str) where
  -- fields and structures without keys
  none-fielded : (at : ℕ) → places_of s Anything 12 at ≡ [] → (l : List Key) → field_keys (fields s p (commands_at s at)) l ≡ l
  unfolding field_keys fields keys with_some first
  none-fielded at h l =
      none_made (λ (fs : List Field). field_keys fs l) (λ (f : Field). with_some f.key) (λ f fs. refl) s a_key 11 _ 12
      (λ at c k p q m x. ap (λ (ks : List Key). with_some (first ks) x) (none_made (λ (ks : List Key). ks) (λ (a : Key) (ks : List Key). a ∷ ks) (λ a ks. refl) s nothing 12 _ 12 (λ at c k p q m x. absurd (q p)) k.at m)) at h

  none-stored : (at : ℕ) → places_of s Anything 12 at ≡ [] → (l : List Key) → plugin_keys (structs s p (commands_at s at)) l ≡ l
  unfolding plugin_keys structs
  none-stored at h l =
      none_made (λ (ts : List Struct). plugin_keys ts l) (λ (t : Struct). field_keys t.fields) (λ t ts. refl) s anything 8 _ 12 (λ at c k p q m x. none-fielded k.at m x) at h

  module _ (to : ℕ) (h : Before s in_keys to) where
    keys-front : {at : ℕ} → Reached s to at → keys s p (commands_at s at) ≡ keys (take to s) p (commands_at (take to s) at)
    unfolding keys width_of width_with operands widths wide bytes
    keys-front =
        listed-front s to (before-short s in_keys to h) nothing 12 _ _ (h.none 12 refl)
        (λ at c k e i r. ap (key_of p) (key-same (drop at s) (drop at (take to s)) (bytes-front s to at c k e r 12 i)))

    field-keys-front : {at : ℕ} → Reached s to at → (l : List Key) → field_keys (fields s p (commands_at s at)) l ≡ field_keys (fields (take to s) p (commands_at (take to s) at)) l
    unfolding field_keys fields
    field-keys-front g l =
        made-front s to (before-short s in_keys to h) (λ (fs : List Field). field_keys fs l) (λ (f : Field). with_some f.key) (λ f fs. refl) a_key 11 _ _ (none-fielded to (h.none 12 refl) l)
        (λ at c k e i r x. ap (λ (ks : List Key). with_some (first ks) x) (keys-front r)) g

    stored_cut : (l : List Key) → plugin_keys (structs_at s p 0) l ≡ plugin_keys (structs_at (take to s) p 0) l
    unfolding plugin_keys structs_at structs
    stored_cut l =
        made-front s to (before-short s in_keys to h) (λ (ts : List Struct). plugin_keys ts l) (λ (t : Struct). field_keys t.fields) (λ t ts. refl) anything 8 _ _ (none-stored to (h.none 12 refl) l)
        (λ at c k e i r x. field-keys-front r x) h.reached

    unstored-cut : unstored_at s p 0 ≡ unstored_at (take to s) p 0
    unfolding unstored_at unstored width_of width_with operands widths wide bytes
    unstored-cut =
        listed-front s to (before-short s in_keys to h) anything 13 _ _ (h.none 13 refl)
        (λ at c k e i r. ap (key_of p) (key-same (drop at s) (drop at (take to s)) (bytes-front s to at c k e r 13 i)))
        h.reached

pub plugin-keys-front : (s p t : Str) (r : Ends) → EndsOf s r → t ≡ take r.keys s → plugin_keys (structs_at t p 0) (unstored_at t p 0) ≡ plugin_keys (structs_at s p 0) (unstored_at s p 0)
plugin-keys-front s p t r e h =
    ap (λ (x : Str). plugin_keys (structs_at x p 0) (unstored_at x p 0)) h
    ∙ sym (stored_cut s p r.keys e.keys (unstored_at s p 0) ∙ ap (plugin_keys (structs_at (take r.keys s) p 0)) (unstored-cut s p r.keys e.keys))
