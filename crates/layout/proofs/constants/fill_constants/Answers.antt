use Rattle.layout.proofs.TableLaws.{cut-long, cuts-agree, cut_small, cut-few}
use Rattle.layout.proofs.ConstantLaws.{constants-kept}
use borrow.Author.Rules.{rules}
use Rattle.layout.proofs.constants.fill_constants.Goals as goal

pub slice_bounds-arrange_handles-end-2 : goal.slice_bounds-arrange_handles-end-2
slice_bounds-arrange_handles-end-2 c = cut-long _ _ (search rules)

pub slice_bounds-arrange_handles-end-4 : goal.slice_bounds-arrange_handles-end-4
slice_bounds-arrange_handles-end-4 c = cut-long _ _ (search rules)

pub arrange_handles-requires : goal.arrange_handles-requires
arrange_handles-requires c = (
  cuts-agree c.args.scratch.now c.fill_places-n.new.out c.fill_places-n.result (search rules) (search rules),
  cut_small c.fill_places-n.new.out c.fill_places-n.result (search rules) (search rules),
  search rules,
)

pub returns : goal.returns
returns c = (
  constants-kept _ _ (search rules) _ _ c.arrange_handles.new.handles _ c.arrange_handles.result c.fill_places-n.ensures.0 c.fill_places-n.ensures.1 c.arrange_handles.ensures.0 (search rules),
  cut-few c.fill_places-n.new.out c.fill_places-n.result _ _ c.arrange_handles.ensures.1 (search rules),
)
