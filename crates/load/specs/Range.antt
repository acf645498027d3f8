-- The range of each draw, and of a setting. Assumes nothing.
use Rattle.std.specs.Prelude.{◌≤◌, ◌<◌}
use Rattle.load.specs.declared.settings.Setting.{Setting}

pub record InRange (g : Setting) : Type 0 where
  pub structs : g.structs ≤ 8
  pub fields : g.fields ≤ 17
  pub releases : g.releases < 4
  pub slot : g.slot < 3
  pub lengths : g.lengths < 14
  pub generation : g.generation < 32768
  pub spare : g.spare < 32768
  pub root : g.root < g.structs
  pub target : g.target < g.fields
  pub word : g.word < 4
  pub fresh : g.fresh < 4
