use Rattle.std.proofs.Common.{◌≡◌, length}
use Rattle.lists.specs.Tab.{tab}
use Rattle.placement.specs.Placements.{placement_at}
use Rattle.planner.proofs.tables.read_placements.Given as goal

abbrev pub invariant-loop-i : goal.invariant-loop-i
invariant-loop-i l = record { count : length l.placements.items ≡ l.i; items : l.placements.items ≡ tab l.i (placement_at l.table) }
