use Rattle.lists.proofs.Kit.{rules, arith}
use Rattle.placing.proofs.Stepping.{placing_none, room_next, placing_more, placing_stops}
use Rattle.placing.proofs.step.place_group.Goals as goal

pub loop-i-init : goal.loop-i-init
loop-i-init c = placing_none _ _ _ _ _ c.requires.1

pub place_next-requires : goal.place_next-requires
place_next-requires c =
    (room_next _ _ _ _ _ _ _ _ _ c.loop-i.invariant c.loop-i-test.true c.requires.0, c.loop-i.invariant.reach, omega (arith, c.requires.2.listed c.loop-i.i c.loop-i-test.true))

pub returns-in_default : goal.returns-in_default
returns-in_default c = placing_stops _ _ _ _ _ _ _ _ _ c.loop-i.invariant c.loop-i-test.true _ c.in_default.ensures

pub loop-i-preserved : goal.loop-i-preserved
loop-i-preserved c = placing_more _ _ _ _ _ _ _ _ _ c.loop-i.invariant c.loop-i-test.true _ _ _ (search rules) (search rules) c.in-Some.ensures c.append_location.ensures
