use mathlib.Core.Logic.{inl}
use borrow.Author.Rules.{rules}
use Rattle.layout.proofs.tables.fill_tables.Goals as goal

pub fill_with-requires : goal.fill_with-requires
fill_with-requires c = (search rules, search rules, record { by = inl (search rules) }, search rules, search rules, search rules, search rules)
