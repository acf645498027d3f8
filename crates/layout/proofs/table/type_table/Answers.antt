use Rattle.layout.proofs.TableLaws.{table_is, cut-long, cuts-agree, cut_small, cut-few}
use borrow.Author.Rules.{rules}
use Rattle.layout.proofs.table.type_table.Goals as goal

pub slice_bounds-arrange_types-end-2 : goal.slice_bounds-arrange_types-end-2
slice_bounds-arrange_types-end-2 g c = cut-long _ _ (search rules)

pub slice_bounds-arrange_types-end-4 : goal.slice_bounds-arrange_types-end-4
slice_bounds-arrange_types-end-4 g c = cut-long _ _ (search rules)

pub arrange_types-requires : goal.arrange_types-requires
arrange_types-requires g c = (
  cuts-agree c.args.scratch.now c.fill_handles-n.new.out c.fill_handles-n.result (search rules) (search rules),
  cut_small c.fill_handles-n.new.out c.fill_handles-n.result (search rules) (search rules),
  search rules,
)

pub returns : goal.returns
returns g c = (
  table_is _ _ (search rules) _ _ c.arrange_types.new.types _ c.arrange_types.result c.fill_handles-n.ensures.0 c.fill_handles-n.ensures.1 c.arrange_types.ensures.0 (search rules),
  cut-few c.fill_handles-n.new.out c.fill_handles-n.result _ _ c.arrange_types.ensures.1 (search rules),
)
