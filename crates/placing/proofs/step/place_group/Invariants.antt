use Rattle.placing.proofs.Stepping.{Placing}
use Rattle.placing.proofs.step.place_group.Given as goal

abbrev pub invariant-loop-i : goal.invariant-loop-i
invariant-loop-i l = Placing l.rects l.group l.count l.initial.copy l.initial.locations l.i l.left l.copy l.locations
