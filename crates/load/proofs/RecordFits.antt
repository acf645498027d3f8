-- A record of a pair: its commands fit. Assumes nothing.
use mathlib.Core.Path.{refl}
use mathlib.Core.List.{List, [], ◌∷◌, ◌++◌, Memᴰ}
use Prim.Native.Nat.{ℕ}
use native.Mathlib.Omega.{arith}
use Rattle.texts.specs.Utf8.{inside, is_tail, no_tail}
use Rattle.record.specs.Base.{Str, bytes}
use Rattle.record.specs.Le.{u16_at}
use Rattle.record.specs.Operands.{text_at, opt_text, opt_text_at, flag_at}
use Rattle.record.specs.Commands.{operands, wide, widths}
use Rattle.record.specs.Judge.{missing_in, if_absent, flag_fault, operand_fault, faults_from, follows, may_stand, parent_after}
use Rattle.record.specs.declared.text.Text.{Text}
use Rattle.record.specs.declared.command.Parent.TheVariants.{NoParent}
use Rattle.record.specs.declared.refusal.Side.{Side}
use Rattle.record.specs.declared.judge.Fault.TheVariants.{Outside}
use Rattle.load.specs.Pool as W
use Rattle.load.specs.Commands.{StructCommand}
use Rattle.load.specs.Draws
use Rattle.load.specs.Generator.{head_bytes, integer_bytes, vendor_bytes, version_bytes, shared_commands, struct_commands}
use Rattle.load.specs.Written.{opcode, Fits, AllFit}
use Rattle.load.proofs.CommandLaws.{InPool, text-fine, StructFits, structs-fit}
use Rattle.load.specs.declared.settings.Setting.{Setting}

-- the commands fit -----------------------------------------------------------------------------------------------------------------------------------------

module _ (side : Side) where
  shared-fit : (cs : List Str) → AllFit side W.pool 13 NoParent cs → AllFit side W.pool 2 NoParent (shared_commands ++ cs)
  unfolding shared_commands opcode operands wide widths bytes may_stand follows parent_after faults_from operand_fault if_absent flag_fault opt_text_at opt_text text_at flag_at u16_at
      W.pool W.struct_names W.field_names W.kind_texts W.word_texts no_tail is_tail inside
  shared-fit cs k = (
    record { row = bytes "TT"; has-row = refl; whole = refl; stands = λ at. refl; fine = λ x. refl; going = λ e. omega arith },
    (
      record { row = bytes "TT"; has-row = refl; whole = refl; stands = λ at. refl; fine = λ x. refl; going = λ e. omega arith },
      (
        record { row = bytes "TWFO"; has-row = refl; whole = refl; stands = λ at. refl; fine = λ x. refl; going = λ e. omega arith },
        (
          record { row = bytes "TVO"; has-row = refl; whole = refl; stands = λ at. refl; fine = λ x. refl; going = λ e. omega arith },
          (
            record { row = bytes "TVO"; has-row = refl; whole = refl; stands = λ at. refl; fine = λ x. refl; going = λ e. omega arith },
            (
              record { row = bytes "TVO"; has-row = refl; whole = refl; stands = λ at. refl; fine = λ x. refl; going = λ e. omega arith },
              (
                record { row = bytes "TWFO"; has-row = refl; whole = refl; stands = λ at. refl; fine = λ x. refl; going = λ e. omega arith },
                (
                  record { row = bytes "TVO"; has-row = refl; whole = refl; stands = λ at. refl; fine = λ x. refl; going = λ e. omega arith },
                  (
                    record { row = bytes "TVO"; has-row = refl; whole = refl; stands = λ at. refl; fine = λ x. refl; going = λ e. omega arith },
                    (
                      record { row = bytes "TVO"; has-row = refl; whole = refl; stands = λ at. refl; fine = λ x. refl; going = λ e. omega arith },
                      (
                        record { row = bytes "TW!"; has-row = refl; whole = refl; stands = λ at. refl; fine = λ x. refl; going = λ e. omega arith },
                        (
                          record { row = bytes "TWNO"; has-row = refl; whole = refl; stands = λ at. refl; fine = λ x. refl; going = λ e. omega arith },
                          (
                            record { row = bytes "TWNO"; has-row = refl; whole = refl; stands = λ at. refl; fine = λ x. refl; going = λ e. omega arith },
                            (
                              record { row = bytes "TTTTOF"; has-row = refl; whole = refl; stands = λ at. refl; fine = λ x. refl; going = λ e. omega arith },
                              (
                                record { row = bytes "TTOONNNN"; has-row = refl; whole = refl; stands = λ at. refl; fine = λ x. refl; going = λ e. omega arith },
                                (
                                  record { row = bytes "T"; has-row = refl; whole = refl; stands = λ at. refl; fine = λ x. refl; going = λ e. omega arith },
                                  (
                                    record { row = bytes "TTOONNNN"; has-row = refl; whole = refl; stands = λ at. refl; fine = λ x. refl; going = λ e. omega arith },
                                    (
                                      record { row = bytes "TTOONNNN"; has-row = refl; whole = refl; stands = λ at. refl; fine = λ x. refl; going = λ e. omega arith },
                                      (
                                        record { row = bytes "T"; has-row = refl; whole = refl; stands = λ at. refl; fine = λ x. refl; going = λ e. omega arith },
                                        (
                                          record { row = bytes "TTOONNNN"; has-row = refl; whole = refl; stands = λ at. refl; fine = λ x. refl; going = λ e. omega arith },
                                          (
                                            record { row = bytes "TTTTOF"; has-row = refl; whole = refl; stands = λ at. refl; fine = λ x. refl; going = λ e. omega arith },
                                            (
                                              record { row = bytes "TTOONNNN"; has-row = refl; whole = refl; stands = λ at. refl; fine = λ x. refl; going = λ e. omega arith },
                                              (
                                                record { row = bytes "T"; has-row = refl; whole = refl; stands = λ at. refl; fine = λ x. refl; going = λ e. omega arith },
                                                (
                                                  record { row = bytes "TTOONNNN"; has-row = refl; whole = refl; stands = λ at. refl; fine = λ x. refl; going = λ e. omega arith },
                                                  (
                                                    record { row = bytes "T!"; has-row = refl; whole = refl; stands = λ at. refl; fine = λ x. refl; going = λ e. omega arith },
                                                    (
                                                      record { row = bytes "T!"; has-row = refl; whole = refl; stands = λ at. refl; fine = λ x. refl; going = λ e. omega arith },
                                                      k,
                                                    ),
                                                  ),
                                                ),
                                              ),
                                            ),
                                          ),
                                        ),
                                      ),
                                    ),
                                  ),
                                ),
                              ),
                            ),
                          ),
                        ),
                      ),
                    ),
                  ),
                ),
              ),
            ),
          ),
        ),
      ),
    ),
  )

  head-fits : (t : Text) → InPool t → Fits side W.pool 0 NoParent (head_bytes t)
  unfolding head_bytes opcode operands wide widths bytes may_stand faults_from operand_fault if_absent flag_fault opt_text_at text_at u16_at
  head-fits t h = record { row = bytes "!F"; has-row = refl; whole = refl; stands = λ at. refl; fine = λ x. rw (text-fine t h (missing_in side)); going = λ e. omega arith }

  version-fits : (t : Text) (n : ℕ) → InPool t → Fits side W.pool 13 NoParent (version_bytes t n)
  unfolding version_bytes opcode operands wide widths bytes may_stand faults_from operand_fault if_absent opt_text_at text_at u16_at
  version-fits t n h = record { row = bytes "TW"; has-row = refl; whole = refl; stands = λ at. refl; fine = λ x. rw (text-fine t h Outside); going = λ e. omega arith }

  module _ (g : Setting) (release : Text) (n : ℕ) (ss : List StructCommand) (a : InPool release) (b : InPool (Draws.struct_name g g.root)) (h : (s : StructCommand) → Memᴰ s ss → StructFits s) where
    abbrev pub tail : List Str
    tail = integer_bytes W.t·PLUGIN-API 4 1 W.absent ∷ vendor_bytes ∷ (shared_commands ++ (version_bytes (Draws.struct_name g g.root) n ∷ struct_commands ss []))

    tail-fit : AllFit side W.pool 2 NoParent tail
    unfolding integer_bytes vendor_bytes version_bytes opcode operands wide widths bytes may_stand parent_after faults_from operand_fault if_absent flag_fault opt_text_at opt_text text_at flag_at u16_at
        W.pool W.struct_names W.field_names W.kind_texts W.word_texts no_tail is_tail inside
    tail-fit = (
      record { row = bytes "TFV?FO"; has-row = refl; whole = refl; stands = λ at. refl; fine = λ x. refl; going = λ e. omega arith },
      (
        record { row = bytes "TFV?FO"; has-row = refl; whole = refl; stands = λ at. refl; fine = λ x. refl; going = λ e. omega arith },
        shared-fit (version_bytes (Draws.struct_name g g.root) n ∷ struct_commands ss []) (version-fits (Draws.struct_name g g.root) n b, structs-fit side ss h 14 NoParent (λ e. omega arith)),
      ),
    )

    pub fit-without : AllFit side W.pool 0 NoParent (head_bytes release ∷ integer_bytes W.t·GENERATION n 0 W.absent ∷ tail)
    unfolding head_bytes integer_bytes opcode operands wide widths bytes may_stand parent_after faults_from operand_fault if_absent flag_fault opt_text_at opt_text text_at flag_at u16_at
        W.pool W.struct_names W.field_names W.kind_texts W.word_texts no_tail is_tail inside
    fit-without = (head-fits release a, (record { row = bytes "TFV?FO"; has-row = refl; whole = refl; stands = λ at. refl; fine = λ x. refl; going = λ e. omega arith }, tail-fit))

    pub fit-with : (v : ℕ) → AllFit side W.pool 0 NoParent (head_bytes release ∷ integer_bytes W.t·GENERATION n 0 W.absent ∷ integer_bytes W.t·TILE-LIMIT v 1 W.t·0·8·0 ∷ tail)
    unfolding head_bytes integer_bytes opcode operands wide widths bytes may_stand parent_after faults_from operand_fault if_absent flag_fault opt_text_at opt_text text_at flag_at u16_at
        W.pool W.struct_names W.field_names W.kind_texts W.word_texts no_tail is_tail inside
    fit-with v = (head-fits release a, (record { row = bytes "TFV?FO"; has-row = refl; whole = refl; stands = λ at. refl; fine = λ x. refl; going = λ e. omega arith }, (record { row = bytes "TFV?FO"; has-row = refl; whole = refl; stands = λ at. refl; fine = λ x. refl; going = λ e. omega arith }, tail-fit)))
