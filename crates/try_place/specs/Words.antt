-- The words of what a try answers.
use Rattle.std.specs.Prelude.{ℕ, List, [], ◌∷◌, ◌++◌, get_or}
use Rattle.bin_section.specs.declared.section.BinSection.{BinSection}
use Rattle.bin_section.specs.Section.{zero_section, section_words}
use Rattle.try_place.specs.declared.packed_location.PackedLocation.{PackedLocation}
use Rattle.try_place.specs.declared.Tried.{Tried}
use Rattle.try_place.specs.Try.{location_of}

abbrev pub location_words : PackedLocation → List ℕ
location_words l = l.x ∷ l.y ∷ l.z ∷ []

-- "right, above, behind"
unfoldable pub three_words : List BinSection → List ℕ
three_words three =
    section_words (get_or three 0 zero_section) ++ (section_words (get_or three 1 zero_section) ++ section_words (get_or three 2 zero_section))

-- "21 words: location, then right, above, behind"
unfoldable pub tried_words : Tried → List ℕ
tried_words t = location_words (location_of t.answer) ++ three_words t.sections
