use Rattle.rectangle_pack.proofs.Seating.{Seating}
use Rattle.rectangle_pack.proofs.placements.seat_group.Given as goal

abbrev pub invariant-loop-i : goal.invariant-loop-i
invariant-loop-i l = Seating l.id l.group l.locations l.initial.placements l.i l.placements
