-- Where a rectangle is placed.
use Rattle.bin_section.specs.declared.rect_to_insert.RectToInsert.{RectToInsert}
use Rattle.bin_section.specs.declared.section.BinSection.{BinSection}
use Rattle.bin_section.specs.Section.{section}
use Rattle.bin_section.specs.Sides.{sides}
use Rattle.try_place.specs.declared.packed_location.PackedLocation.{PackedLocation}

-- in the corner of a section: at its origin
abbrev pub location_in : BinSection → RectToInsert → PackedLocation
location_in s r = record { x = s.x; y = s.y; z = s.z; whd = r.whd }

abbrev pub zero_location : PackedLocation
zero_location = record { x = 0; y = 0; z = 0; whd = sides 0 0 0 }

-- the box that is placed at a location
abbrev pub location_box : PackedLocation → BinSection
location_box l = section l.x l.y l.z l.whd
