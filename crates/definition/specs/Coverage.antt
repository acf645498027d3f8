-- Coverage: which generation number covers a changed type, in check_generations of layout.rs; verdict 40. Assumes nothing.
use Rattle.std.specs.Prelude.{List, [], ◌∷◌, Bool, ◌&&◌, not, cond, eqb, Option}
use Rattle.record.specs.Base.{Str, eqs, is_text, map_option, find, any}
use Rattle.record.specs.Schema.{Family}
use Rattle.record.specs.Owner.{Types, owner_of}
use Rattle.layout.specs.Layout.{TypeLayout}
use Rattle.definition.specs.Verdicts.{Verdict, pass, uncovered}
use Rattle.definition.specs.Pass.{ensure, each, on_found}

-- 01: a changed layout is looked up by its name before the first "::"
unfoldable pub owning : Str → Str
owning [] = []
owning (a ∷ []) = a ∷ []
owning (a ∷ b ∷ s) = cond (eqb a 58 && eqb b 58) [] (a ∷ owning (b ∷ s))

-- a family of that name is standalone: it answers to its own pass
unfoldable pub stands_alone : List Family → Str → Bool
stands_alone ms n = any (λ (m : Family). m.standalone && eqs m.name n) ms

unfoldable pub check_covered : Types → TypeLayout → Verdict
check_covered ts t =
    ensure (stands_alone ts.families (owning t.name))
    (on_found (owner_of ts (owning t.name)) (uncovered t.name) (λ (root : Str). pass))

unfoldable pub check_all_covered : Types → List TypeLayout → Verdict
check_all_covered ts changed = each (check_covered ts) changed

-- a type under the number of this root
unfoldable pub under : Types → Str → TypeLayout → Bool
under ts root t = not (stands_alone ts.families (owning t.name)) && is_text (owner_of ts (owning t.name)) root

-- the first changed one, in byte order
unfoldable pub first_under : Types → List TypeLayout → Str → Option Str
first_under ts changed root = map_option (λ (t : TypeLayout). t.name) (find (under ts root) changed)
