-- What functions below the jobs lean on and leave. No job's contract cites it, and a reader of the rules needs none of it.
use Rattle.std.specs.Prelude.{ℕ, ◌+◌, ◌*◌, ◌≤◌, List, length}
use Rattle.placement.specs.Placements.{placement_width}

abbrev pub HasPlacement : List ℕ → ℕ → Type 0
HasPlacement w i = i * placement_width + placement_width ≤ length w

abbrev pub HasPlacements : List ℕ → ℕ → Type 0
HasPlacements w n = n * placement_width ≤ length w
