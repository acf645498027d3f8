-- The verdict that a plan's outcome names, with its message. Assumes nothing.
use Rattle.std.specs.Prelude.{List, [], ◌∷◌, ℕ, ◌+◌}
use Rattle.record.specs.Schema.{Schema, Field}
use Rattle.record.specs.Shapes.{shape_size}
use Rattle.definition.specs.Verdicts.{Verdict, pass, constant_gone, field_gone, moved, resized, unraised}
use Rattle.load.specs.Plan.{Plan, released}
use Rattle.load.specs.declared.outcomes.Outcome.{Outcome}
use Rattle.load.specs.declared.outcomes.Outcome.TheVariants as O

-- where fields from a place on end
unfoldable pub end_of : Schema → ℕ → List Field → ℕ
end_of s at [] = at
end_of s at (f ∷ fs) = end_of s (at + shape_size s f) fs

-- where the target field begins
unfoldable pub target_offset : Plan → ℕ
target_offset p = end_of (released p) 0 p.front

unfoldable pub wanted : Outcome → Plan → Verdict
wanted O.Accepted p = pass
wanted O.ConstantGone p = constant_gone p.spare.name
wanted O.FieldGone p = field_gone p.name p.target.name
wanted O.FieldMoved p = moved p.name p.target.name (target_offset p) (target_offset p + shape_size (released p) p.inserted)
wanted O.FieldResized p = resized p.name p.target.name (shape_size (released p) p.target) (shape_size (released p) p.retyped)
wanted O.Unraised p = unraised p.name p.generation p.name p.constant (p.generation + 1)
