use Rattle.lists.proofs.Kit.{arith}
use Rattle.placing.proofs.Copying.{ready_part}
use Rattle.rectangle_pack.proofs.Serving.{first_stops}
use Rattle.rectangle_pack.proofs.groups.fit_in.Goals as goal

pub has_place-requires : goal.has_place-requires
has_place-requires c =
    (ready_part _ _ _ _ c.requires.0 (omega arith), c.requires.1, omega (arith, c.requires.2.listed.listed 0 c.requires.2.some))

pub returns-then-not-has_place : goal.returns-then-not-has_place
returns-then-not-has_place c =
    first_stops _ _ _ _ _ c.requires.2.some c.has_place.ensures c.if-not-has_place.true
