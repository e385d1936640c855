-- Where each rectangle stands: nowhere, or in the chamber of an id at a location. The seats are dealt out once it is known where each group went.
use Rattle.std.specs.Prelude.{ℕ, List, [], ◌∷◌, set}
use Rattle.try_place.specs.declared.packed_location.PackedLocation.{PackedLocation}

-- where a group went: the index of its chamber, and the location of each of its rectangles
pub record Home : Type 0 where
  pub chamber : ℕ
  pub locations : List PackedLocation

abbrev pub home : ℕ → List PackedLocation → Home
home chamber locations = record { chamber = chamber; locations = locations }

pub data Seat : Type 0 where
  unplaced : Seat
  seat : ℕ → PackedLocation → Seat

-- the rectangles of a group take their seats, each at its own location and "at the rectangle's index", as its placement record will stand
unfoldable pub seated : ℕ → List ℕ → List PackedLocation → List Seat → List Seat
seated id [] ls seats = seats
seated id (i ∷ is) [] seats = seats
seated id (i ∷ is) (l ∷ ls) seats = seated id is ls (set seats i (seat id l))

-- the groups take their seats, as far as they have homes. ids: the id of each chamber
unfoldable pub dealt : (ℕ → ℕ) → List (List ℕ) → List Home → List Seat → List Seat
dealt ids [] homes seats = seats
dealt ids (group ∷ groups) [] seats = seats
dealt ids (group ∷ groups) (h ∷ homes) seats = dealt ids groups homes (seated (ids h.chamber) group h.locations seats)
