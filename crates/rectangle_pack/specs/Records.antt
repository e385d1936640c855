-- The placement table that a pack leaves.
use Rattle.std.specs.Prelude.{List, map, ℕ}
use Rattle.placement.specs.declared.Placement.{Placement}
use Rattle.placement.specs.Placements.{placement, no_placement, placement_table}
use Rattle.packing_rules.specs.Seats.{Seat, unplaced, seat}

-- "1 if placed else 0, chamber id, x, y, z. An unplaced record is five zeros."
abbrev pub placement_of : Seat → Placement
placement_of unplaced = no_placement
placement_of (seat id l) = placement 1 id l.x l.y l.z

-- the table written
abbrev pub placements_of : List Seat → List ℕ
placements_of seats = placement_table (map placement_of seats)
