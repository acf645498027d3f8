use Rattle.layout.proofs.HandleLaws.{all-count, all-filled}
use borrow.Author.Rules.{rules}
use Rattle.layout.proofs.handles.fill_handles.Goals as goal

pub returns : goal.returns
returns c = (
  search all-count,
  all-filled _ _ c.fill_structs-structs.ensures.0 _ c.fill_structs-structs.ensures.3 _ _ _ c.fill_structs-structs.ensures.1 (search rules) c.fill_families-m.ensures.1,
  search rules,
)
