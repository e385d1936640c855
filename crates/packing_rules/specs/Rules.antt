-- "Packing", for one rectangle and for the rectangles of one group in one chamber.
use Rattle.std.specs.Prelude.{ℕ, zero, suc, List, [], ◌∷◌, ◌++◌, Bool, true, false, length, get_or}
use Rattle.lists.specs.Tab.{remove_at}
use Rattle.bin_section.specs.declared.section.BinSection.{BinSection}
use Rattle.bin_section.specs.declared.rect_to_insert.RectToInsert.{RectToInsert}
use Rattle.bin_section.specs.Section.{zero_section}
use Rattle.try_place.specs.declared.packed_location.PackedLocation.{PackedLocation}
use Rattle.try_place.specs.Try.{fit_of, on_placed, chosen_three}
use Rattle.packing_rules.specs.Appended.{appended_of}

-- one rectangle: no free section fits it, or where it goes and what is free afterwards
pub data One : Type 0 where
  nowhere : One
  placed : PackedLocation → List BinSection → One

-- "the free sections are tried from the last to the first, the first that fits is removed, later ones move down one, and the chosen
-- three are appended": here the first n sections are left to be tried
unfoldable pub place_from : List BinSection → RectToInsert → ℕ → One
place_from free r zero = nowhere
place_from free r (suc n) =
    let s = get_or free n zero_section in
    on_placed (fit_of s r) (λ l. placed l (remove_at n free ++ appended_of (chosen_three s r))) (place_from free r n)

unfoldable pub place_one : List BinSection → RectToInsert → One
place_one free r = place_from free r (length free)

-- the rectangles of a group, one after the other: "at which rectangle of the group the trial stops", by its place there, with the sections "then
-- free" (02, K6); or the whole group goes in, each at its location
pub data Trial : Type 0 where
  stops : ℕ → List BinSection → Trial
  whole : List PackedLocation → List BinSection → Trial

abbrev pub after_one : List PackedLocation → List BinSection → One → Trial
after_one locations free nowhere = stops (length locations) free
after_one locations free (placed l left) = whole (locations ++ (l ∷ [])) left

abbrev pub next : Trial → RectToInsert → Trial
next (stops i free) r = stops i free
next (whole locations free) r = after_one locations free (place_one free r)

unfoldable pub place_all : Trial → List RectToInsert → Trial
place_all t [] = t
place_all t (r ∷ rs) = place_all (next t r) rs

-- "for each rectangle the free sections are tried ..", in table order
unfoldable pub place_group : List BinSection → List RectToInsert → Trial
place_group free rs = place_all (whole [] free) rs

-- "all fit"
abbrev pub is_whole : Trial → Bool
is_whole (stops i free) = false
is_whole (whole locations free) = true

-- the locations of a group that went in whole
abbrev pub locations_of : Trial → List PackedLocation
locations_of (stops i free) = []
locations_of (whole locations free) = locations

-- the sections that are free when the trial ends
abbrev pub free_then : Trial → List BinSection
free_then (stops i free) = free
free_then (whole locations free) = free
