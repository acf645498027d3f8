use Rattle.layout.proofs.SpotLaws.{next-front, next-middle, next-body}
use Rattle.layout.proofs.spots.next_spot.Goals as goal

pub returns-in-Front : goal.returns-in-Front
returns-in-Front c = search next-front

pub returns-in-Middle : goal.returns-in-Middle
returns-in-Middle c = search next-middle

pub returns-in-Body : goal.returns-in-Body
returns-in-Body c = search next-body
