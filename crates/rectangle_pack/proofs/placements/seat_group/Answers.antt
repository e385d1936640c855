use Rattle.lists.proofs.Kit.{rules}
use Rattle.rectangle_pack.proofs.Seating.{seating_none, seating_more}
use Rattle.rectangle_pack.proofs.placements.seat_group.Goals as goal

pub loop-i-init : goal.loop-i-init
loop-i-init c = seating_none _ _ _ _

pub loop-i-preserved : goal.loop-i-preserved
loop-i-preserved c =
    seating_more _ _ _ _ _ _ c.loop-i.invariant _ _ c.loop-i-test.true c.requires.0 c.read.ensures (search rules) c.write_placement.ensures
