-- The ways out of the pass over an unreleased copy. s is the released stream, z the cursor at its front. Assumes nothing.
use mathlib.Core.Path.{◌≡◌, sym, ap, ◌∙◌}
use mathlib.Core.List.{List, []}
use Prim.Native.Nat.{ℕ}
use Rattle.std.specs.Prelude.{Ok, Err, Some, None}
use Rattle.record.specs.Base.{Str}
use Rattle.record.specs.Commands.{start}
use Rattle.record.specs.Steps.{constants_at, aliases_at, enums_at, bitfields_at, structs_at, families_at, ConstantsFrom, AliasesFrom, EnumsFrom, BitfieldsFrom, StructsFrom, FamiliesFrom}
use Rattle.record.specs.declared.command as D
use Rattle.record.specs.declared.command.Cursor.{Cursor}
use Rattle.record.proofs.StepLaws.{constants-now, constants-over-now, aliases-now, aliases-over-now, enums-now, enums-over-now, bitfields-now, bitfields-over-now, structs-now, structs-over-now, families-now, families-over-now}
use Rattle.definition.specs.Pass.{ensure, empty}
use Rattle.definition.specs.Unreleased.{check_nothing_released}
use Rattle.compare.specs.Sought.{UnreleasedFrom}
use Rattle.verdicts.specs.Meaning.{violation, meaning}
use Rattle.verdicts.specs.declared.verdict.Verdict.TheVariants.{Described}
use Rattle.record.specs.Commands.{Step}

module _ (s : Str) (z : Cursor) (y : z ≡ start) where
  whole : {A : Type 0} (f : Str → Str → ℕ → List A) (q : Str) → f s q 0 ≡ f s q z.at
  whole f q = ap (λ (c : Cursor). f s q c.at) (sym y)

  module _ (a : Step D.Struct.Struct) (af : StructsFrom s z.at a) where
    pub struct-there : (e : D.Struct.Struct) (k : Cursor) → a ≡ Some (e, k) → UnreleasedFrom s (Err Described)
    unfolding meaning violation check_nothing_released ensure empty
    struct-there e k m = record { this = λ p q. rw (whole structs_at q ∙ structs-now s z.at a af q e k m) }

    module _ (an : a ≡ None) (b : Step D.Constant.Constant) (bf : ConstantsFrom s z.at b) where
      no-structs : (q : Str) → structs_at s q 0 ≡ []
      no-structs q = whole structs_at q ∙ structs-over-now s z.at a af q an

      pub constant-there : (e : D.Constant.Constant) (k : Cursor) → b ≡ Some (e, k) → UnreleasedFrom s (Err Described)
      unfolding meaning violation check_nothing_released ensure empty
      constant-there e k m = record { this = λ p q. rw (no-structs q, whole constants_at q ∙ constants-now s z.at b bf q e k m) }

      module _ (bn : b ≡ None) (c : Step D.Enum.Enum) (cf : EnumsFrom s z.at c) where
        no-constants : (q : Str) → constants_at s q 0 ≡ []
        no-constants q = whole constants_at q ∙ constants-over-now s z.at b bf q bn

        pub enum-there : (e : D.Enum.Enum) (k : Cursor) → c ≡ Some (e, k) → UnreleasedFrom s (Err Described)
        unfolding meaning violation check_nothing_released ensure empty
        enum-there e k m = record { this = λ p q. rw (no-structs q, no-constants q, whole enums_at q ∙ enums-now s z.at c cf q e k m) }

        module _ (cn : c ≡ None) (d : Step D.Bitfield.Bitfield) (df : BitfieldsFrom s z.at d) where
          no-enums : (q : Str) → enums_at s q 0 ≡ []
          no-enums q = whole enums_at q ∙ enums-over-now s z.at c cf q cn

          pub bitfield-there : (e : D.Bitfield.Bitfield) (k : Cursor) → d ≡ Some (e, k) → UnreleasedFrom s (Err Described)
          unfolding meaning violation check_nothing_released ensure empty
          bitfield-there e k m = record { this = λ p q. rw (no-structs q, no-constants q, no-enums q, whole bitfields_at q ∙ bitfields-now s z.at d df q e k m) }

          module _ (dn : d ≡ None) (g : Step D.TypeAlias.TypeAlias) (gf : AliasesFrom s z.at g) where
            no-bitfields : (q : Str) → bitfields_at s q 0 ≡ []
            no-bitfields q = whole bitfields_at q ∙ bitfields-over-now s z.at d df q dn

            pub alias-there : (e : D.TypeAlias.TypeAlias) (k : Cursor) → g ≡ Some (e, k) → UnreleasedFrom s (Err Described)
            unfolding meaning violation check_nothing_released ensure empty
            alias-there e k m = record { this = λ p q. rw (no-structs q, no-constants q, no-enums q, no-bitfields q, whole aliases_at q ∙ aliases-now s z.at g gf q e k m) }

            module _ (gn : g ≡ None) (h : Step D.Family.Family) (hf : FamiliesFrom s z.at h) where
              no-aliases : (q : Str) → aliases_at s q 0 ≡ []
              no-aliases q = whole aliases_at q ∙ aliases-over-now s z.at g gf q gn

              pub family-there : (e : D.Family.Family) (k : Cursor) → h ≡ Some (e, k) → UnreleasedFrom s (Err Described)
              unfolding meaning violation check_nothing_released ensure empty
              family-there e k m = record { this = λ p q. rw (no-structs q, no-constants q, no-enums q, no-bitfields q, no-aliases q, whole families_at q ∙ families-now s z.at h hf q e k m) }

              pub none-there : h ≡ None → UnreleasedFrom s (Ok tt)
              unfolding meaning violation check_nothing_released ensure empty
              none-there m = record { this = λ p q. rw (no-structs q, no-constants q, no-enums q, no-bitfields q, no-aliases q, whole families_at q ∙ families-over-now s z.at h hf q m) }

pub ruleset unreleased-laws = (struct-there, constant-there, enum-there, bitfield-there, alias-there, family-there, none-there)
