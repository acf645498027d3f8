-- The laws that every list of a record shares: what one step along the stream says of the list from there on. Assumes nothing.
use Rattle.std.specs.Prelude.{Some, None}
use mathlib.Core.Path.{◌≡◌, refl, sym, ap, ap₂, ◌∙◌}
use mathlib.Core.List.{List, [], ◌∷◌, map}
use mathlib.Core.Bool.{Bool, true, false, cond}
use Prim.Native.Nat.{ℕ, suc}
use native.Mathlib.Omega.{arith}
use types.Run.{OneOf}
use denote.Enum.Declared.{tag_of}
use lib.ListN.{get_or, drop}
use lib.Dec.{T, eqb}
use borrow.Author.Tests.{eq-eqb, ne_eqb, eqb-true, eqb-false}
use Rattle.record.specs.Base.{find}
use Rattle.record.specs.Commands.{width_of, command_of, step_at, commands_at}
use Rattle.record.specs.Lists.{listed}
use Rattle.record.specs.declared.command.Cursor.{Cursor}
use Rattle.record.specs.declared.command.Command.{Command}
use Rattle.record.specs.declared.command.Command.TheVariants as C
use Rattle.record.specs.contracts.command.Command.{the_type}
use Rattle.record.proofs.CommandLaws.{none-width}
use Rattle.record.proofs.Tags.{absent, not-one-of}
use Rattle.record.proofs.Stream.{step-found, along, commands-stop, commands-next}

-- a command's number
abbrev pub byte_of : Command → ℕ
byte_of (C.Head x) = 1
byte_of (C.Constant x) = 2
byte_of (C.TypeAlias x) = 3
byte_of (C.Enum x) = 4
byte_of (C.Value x) = 5
byte_of (C.Bitfield x) = 6
byte_of (C.Member x) = 7
byte_of (C.Struct x) = 8
byte_of (C.Family x) = 9
byte_of (C.Variant x) = 10
byte_of (C.Field x) = 11
byte_of (C.PluginKey x) = 12
byte_of (C.UnstoredKey x) = 13
byte_of (C.Version x) = 14

tag_is : (c : Command) → byte_of c ≡ suc (tag_of the_type c)
tag_is (C.Head x) = refl
tag_is (C.Constant x) = refl
tag_is (C.TypeAlias x) = refl
tag_is (C.Enum x) = refl
tag_is (C.Value x) = refl
tag_is (C.Bitfield x) = refl
tag_is (C.Member x) = refl
tag_is (C.Struct x) = refl
tag_is (C.Family x) = refl
tag_is (C.Variant x) = refl
tag_is (C.Field x) = refl
tag_is (C.PluginKey x) = refl
tag_is (C.UnstoredKey x) = refl
tag_is (C.Version x) = refl

-- a command whose tag is one of some has no other's number
pub other : (ks : List ℕ) (j : ℕ) (c : Command) → T (absent ks j) → OneOf ks (tag_of the_type c) → byte_of c ≡ suc j → ⊥
other ks j c t h e =
    let i : tag_of the_type c ≡ j = let a = tag_is c in omega arith in
    not-one-of ks j t (rw i at h)

module _ (b : ℕ) where
  test : (k : ℕ) (c d : Command) → byte_of c ≡ k → ((b ≡ k → ⊥) → byte_of d ≡ b) → byte_of (cond (eqb b k) c d) ≡ b
  test k c d e h = go (eqb b k) refl
    where
      go : (t : Bool) → eqb b k ≡ t → byte_of (cond t c d) ≡ b
      go true q = e ∙ sym (eqb-true b k q)
      go false q = h (eqb-false b k q)

  -- the number of the command that a number gives
  number_is : (x : List ℕ) → (width_of b ≡ 0 → ⊥) → (b ≡ 15 → ⊥) → byte_of (command_of b x) ≡ b
  unfolding command_of
  number_is x w l =
      test 1 _ _ refl (λ h1. test 2 _ _ refl (λ h2. test 3 _ _ refl (λ h3. test 4 _ _ refl (λ h4. test 5 _ _ refl (λ h5.
      test 6 _ _ refl (λ h6. test 7 _ _ refl (λ h7. test 8 _ _ refl (λ h8. test 9 _ _ refl (λ h9. test 10 _ _ refl (λ h10.
      test 11 _ _ refl (λ h11. test 12 _ _ refl (λ h12. test 13 _ _ refl (λ h13. last h1 h2 h3 h4 h5 h6 h7 h8 h9 h10 h11 h12 h13 (eqb b 14) refl)))))))))))))
    where
      last : (b ≡ 1 → ⊥) → (b ≡ 2 → ⊥) → (b ≡ 3 → ⊥) → (b ≡ 4 → ⊥) → (b ≡ 5 → ⊥) → (b ≡ 6 → ⊥) → (b ≡ 7 → ⊥) → (b ≡ 8 → ⊥) → (b ≡ 9 → ⊥) → (b ≡ 10 → ⊥) → (b ≡ 11 → ⊥) → (b ≡ 12 → ⊥) → (b ≡ 13 → ⊥) → (t : Bool) → eqb b 14 ≡ t → 14 ≡ b
      last h1 h2 h3 h4 h5 h6 h7 h8 h9 h10 h11 h12 h13 true q = sym (eqb-true b 14 q)
      last h1 h2 h3 h4 h5 h6 h7 h8 h9 h10 h11 h12 h13 false q = absurd (w (sym (none-width b h1 h2 h3 h4 h5 h6 h7 h8 h9 h10 h11 h12 h13 (eqb-false b 14 q) l)))

module _ (s : List ℕ) (at : ℕ) (c : Command) (k : Cursor) (e : step_at s at ≡ Some (c, k)) where
  -- the byte at a command's place is its number
  pub byte-is : get_or s at 0 ≡ byte_of c
  byte-is =
      let f = step-found s at c k e in
      sym (number_is (get_or s at 0) (drop at s) f.known f.going) ∙ ap byte_of f.is-command

  -- and its operands are what the bytes from there give
  pub operands-are : (b : ℕ) → byte_of c ≡ b → command_of b (drop at s) ≡ c
  operands-are b h = let f = step-found s at c k e in ap (λ n. command_of n (drop at s)) (sym h ∙ sym byte-is) ∙ f.is-command

module _ {A : Type 0} (s : List ℕ) (over : ℕ → Bool) (b : ℕ) (f : ℕ → List ℕ → A) (at : ℕ) where
  pub listed-stop : step_at s at ≡ None → listed s over b f (commands_at s at) ≡ []
  unfolding listed
  listed-stop e = rw (commands-stop s at e)

  module _ (c : Command) (k : Cursor) (e : step_at s at ≡ Some (c, k)) where
    pub listed_here : byte_of c ≡ b → listed s over b f (commands_at s at) ≡ f at (commands_at s k.at) ∷ listed s over b f (commands_at s k.at)
    unfolding listed
    listed_here h = rw (commands-next s at c k e, eq-eqb (get_or s at 0) b (byte-is s at c k e ∙ h))

    pub listed-over : (byte_of c ≡ b → ⊥) → over (byte_of c) ≡ true → listed s over b f (commands_at s at) ≡ listed s over b f (commands_at s k.at)
    unfolding listed
    listed-over h o = rw (commands-next s at c k e, byte-is s at c k e, ne_eqb (byte_of c) b h, o)

    pub listed-end : (byte_of c ≡ b → ⊥) → over (byte_of c) ≡ false → listed s over b f (commands_at s at) ≡ []
    unfolding listed
    listed-end h o = rw (commands-next s at c k e, byte-is s at c k e, ne_eqb (byte_of c) b h, o)

-- two lists of one number whose elements give the same
module _ {A B C : Type 0} (s : List ℕ) (over : ℕ → Bool) (b : ℕ) (f : ℕ → List ℕ → A) (g : ℕ → List ℕ → B) (x : A → C) (y : B → C)
    (same : (at : ℕ) (c : Command) (k : Cursor) → step_at s at ≡ Some (c, k) → get_or s at 0 ≡ b → x (f at (commands_at s k.at)) ≡ y (g at (commands_at s k.at))) where
  pub listed_same : (at : ℕ) → map x (listed s over b f (commands_at s at)) ≡ map y (listed s over b g (commands_at s at))
  listed_same =
      along s (λ (at : ℕ). map x (listed s over b f (commands_at s at)) ≡ map y (listed s over b g (commands_at s at)))
      (λ at e. rw (listed-stop s over b f at e, listed-stop s over b g at e)) (λ at c k e ih. go at c k e ih (eqb (byte_of c) b) (over (byte_of c)) refl refl)
    where
      go : (at : ℕ) (c : Command) (k : Cursor) → step_at s at ≡ Some (c, k) → map x (listed s over b f (commands_at s k.at)) ≡ map y (listed s over b g (commands_at s k.at))
          → (t o : Bool) → eqb (byte_of c) b ≡ t → over (byte_of c) ≡ o → map x (listed s over b f (commands_at s at)) ≡ map y (listed s over b g (commands_at s at))
      go at c k e ih true o p q =
          let h = eqb-true (byte_of c) b p in
          rw (listed_here s over b f at c k e h, listed_here s over b g at c k e h) (ap₂ (λ (z : C) (l : List C). z ∷ l) (same at c k e (byte-is s at c k e ∙ h)) ih)
      go at c k e ih false true p q = let h = eqb-false (byte_of c) b p in rw (listed-over s over b f at c k e h q, listed-over s over b g at c k e h q) ih
      go at c k e ih false false p q = let h = eqb-false (byte_of c) b p in rw (listed-end s over b f at c k e h q, listed-end s over b g at c k e h q)

-- a list's first element that passes a test
module _ {A : Type 0} (q : A → Bool) (l : List A) where
  pub find_none : l ≡ [] → find q l ≡ None
  unfolding find
  find_none e = rw e

  pub find-hit : (x : A) (m : List A) → l ≡ x ∷ m → q x ≡ true → find q l ≡ Some x
  unfolding find
  find-hit x m e h = rw (e, h)

  pub find-miss : (x : A) (m : List A) → l ≡ x ∷ m → q x ≡ false → find q l ≡ find q m
  unfolding find
  find-miss x m e h = rw (e, h)
