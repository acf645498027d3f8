use Rattle.layout.proofs.TableLaws.{cut-long}
use Rattle.drafts.proofs.PackLaws.{desk-made}
use borrow.Author.Rules.{rules}
use Rattle.drafts.proofs.pack.pack.Goals as goal

pub slice_bounds-pack_by-end : goal.slice_bounds-pack_by-end
slice_bounds-pack_by-end c = cut-long _ _ (search rules)

pub slice_bounds-pack_by-end-2 : goal.slice_bounds-pack_by-end-2
slice_bounds-pack_by-end-2 c = cut-long _ _ (search rules)

pub pack_by-requires : goal.pack_by-requires
pack_by-requires c = search desk-made
