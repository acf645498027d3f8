use Rattle.record.proofs.ownership.owner_among.Goals as goal

pub returns : goal.returns
returns c = λ g i l. c.owner_by.ensures g i (c.lead_to-lead.ensures.by g.index _ l)
