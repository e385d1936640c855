-- What a placing step answers, "the new sections with the locations, or a failure" (02, K9): the trial of the rules, read from the copy and from the
-- table of locations that it leaves.
use Rattle.std.specs.Prelude.{ℕ, List, map, Result, Ok, Err}
use Rattle.bin_section.specs.declared.section.BinSection.{BinSection}
use Rattle.sections.specs.Sections.{sections}
use Rattle.try_place.specs.declared.packed_location.PackedLocation.{PackedLocation}
use Rattle.packing_rules.specs.Rules.{Trial, stops, whole}
use Rattle.placing.specs.declared.step.Stop.{Stop}

-- a location is kept as the box that stands there
abbrev pub as_location : BinSection → PackedLocation
as_location b = record { x = b.x; y = b.y; z = b.z; whd = b.whd }

-- the first n locations of a table
unfoldable pub locations_in : List ℕ → ℕ → List PackedLocation
locations_in w n = map as_location (sections w n)

-- the trial of m rectangles: they are all in, at these locations, or it stops at one; the copy has the sections that are free then
abbrev pub trial_of : Result ℕ Stop → ℕ → List ℕ → List ℕ → Trial
trial_of (Ok count) m copy table = whole (locations_in table m) (sections copy count)
trial_of (Err stop) m copy table = stops stop.at (sections copy stop.count)
