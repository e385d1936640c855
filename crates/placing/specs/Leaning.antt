-- What functions below the jobs lean on and leave. No job's contract cites it, and a reader of the rules needs none of it.
use Rattle.std.specs.Prelude.{ℕ, ◌*◌, ◌≤◌, ◌<◌, ◌≡◌, List, [], ◌++◌, Bool, true, false, length, get_or, take, Option, Some, None}
use Rattle.lists.specs.Sort.{Each}
use Rattle.lists.specs.Tab.{remove_at}
use Rattle.bin_section.specs.declared.section.BinSection.{BinSection}
use Rattle.bin_section.specs.Inside.{Inside}
use Rattle.bin_section.specs.Leaning.{Small}
use Rattle.sections.specs.Sections.{sections}
use Rattle.bin_section.specs.declared.rect_to_insert.RectToInsert.{RectToInsert}
use Rattle.bin_section.specs.Section.{section_at}
use Rattle.try_place.specs.declared.packed_location.PackedLocation.{PackedLocation}
use Rattle.try_place.specs.Location.{location_in}
use Rattle.try_place.specs.Try.{chosen_three}
use Rattle.try_place.specs.Leaning.{Reachable, Fitting}
use Rattle.target_bin.specs.Chambers.{chamber_at, chamber_count}
use Rattle.target_bin.specs.Leaning.{Shaped}
use Rattle.target_bin.specs.Store.{free_of}
use Rattle.grouped_rects_to_place.specs.declared.rect_to_place.RectToPlace.{RectToPlace}
use Rattle.grouped_rects_to_place.specs.Rect.{rect_at, rect_count}
use Rattle.packing_rules.specs.Appended.{appended_of}
use Rattle.packing_rules.specs.Rules.{One, nowhere, placed, place_one, whole, place_group}
use Rattle.packing_rules.specs.Packing.{rect_of, rects_at, most_sections}
use Rattle.placing.specs.declared.place.PlacedRect.{PlacedRect}

-- each counted section ends at 65,535 at most
pub record Reaching (count : ℕ) (w : List ℕ) : Type 0 where
  pub at : (i : ℕ) → i < count → Reachable (section_at w i)

-- ---- one rectangle

-- some section fits
abbrev pub is_somewhere : One → Bool
is_somewhere nowhere = false
is_somewhere (placed l free) = true

-- the section at i takes the rectangle, by the rules
pub record Taken (count : ℕ) (r : RectToInsert) (i : ℕ) (w : List ℕ) : Type 0 where
  pub within : i < count
  pub fits : Fitting (section_at w i) r
  pub here :
      place_one (sections w count) r
      ≡ placed (location_in (section_at w i) r) (remove_at i (sections w count) ++ appended_of (chosen_three (section_at w i) r))

-- it does so, or none does
abbrev pub TakenAt : ℕ → RectToInsert → Option ℕ → List ℕ → Type 0
TakenAt count r (Some i) w = Taken count r i w
TakenAt count r None w = place_one (sections w count) r ≡ nowhere

-- the words have room for the free sections, and for those that are free once the rectangle is placed
pub record RoomAfter (count : ℕ) (r : RectToInsert) (w : List ℕ) : Type 0 where
  pub here : count * 6 ≤ length w
  pub at : (l : PackedLocation) (free : List BinSection) → place_one (sections w count) r ≡ placed l free → length free * 6 ≤ length w

-- what the code's answer says, with the words that it leaves
abbrev pub one_of : Option PlacedRect → List ℕ → One
one_of (Some p) w = placed p.location (sections w p.count)
one_of None w = nowhere

-- the answer and the sections afterwards are those of the rules; where none fits, no word changes
pub record PlacedOne (count : ℕ) (r : RectToInsert) (p : Option PlacedRect) (w w' : List ℕ) : Type 0 where
  pub answer : one_of p w' ≡ place_one (sections w count) r
  pub none : place_one (sections w count) r ≡ nowhere → w' ≡ w

-- ---- a group

-- the rectangle at an index of the table
abbrev pub rect_in : List ℕ → ℕ → RectToInsert
rect_in rects i = rect_of (rect_at rects) i

-- the entries of group are indices of the table
pub record GroupOf (rects group : List ℕ) : Type 0 where
  pub listed : (k : ℕ) → k < length group → get_or group k 0 < rect_count rects

-- the words have room for what is free, however many of the group are placed
pub record RoomThrough (count : ℕ) (r : ℕ → RectToPlace) (group w : List ℕ) : Type 0 where
  pub at :
      (i : ℕ) (ls : List PackedLocation) (free : List BinSection)
      → place_group (sections w count) (rects_at r (take i group)) ≡ whole ls free
      → length free * 6 ≤ length w

-- ---- the chambers

-- the tables are whole, every chamber's free sections lie inside it, and it has room for what n rectangles more can make of them
pub record Ready (c st : List ℕ) (n : ℕ) : Type 0 where
  pub shaped : Shaped c st
  pub small : (k : ℕ) → k < chamber_count c → Small (chamber_at c k).whd
  pub inside : (k : ℕ) → k < chamber_count c → Each (Inside (chamber_at c k).whd) (get_or (free_of c st) k [])
  pub room : (k : ℕ) → k < chamber_count c → most_sections (length (get_or (free_of c st) k [])) n ≤ 128
