-- What a planner and a statistician may rely on, whatever is packed. Laws: proofs/Planner.antt, proofs/Seating.antt, proofs/Boxes.antt.
use Rattle.std.specs.Prelude.{ℕ, ◌<◌, ◌≡◌, List, [], ◌∷◌, ◌++◌, true, false, length, get_or}
use Rattle.lists.specs.Sort.{Each}
use Rattle.bin_section.specs.declared.rect_to_insert.RectToInsert.{RectToInsert}
use Rattle.bin_section.specs.declared.section.BinSection.{BinSection}
use Rattle.replies.specs.Replies.{reply}
use Rattle.bin_section.specs.Section.{zero_section}
use Rattle.try_place.specs.declared.packed_location.PackedLocation.{PackedLocation}
use Rattle.try_place.specs.Location.{location_box}
use Rattle.try_place.specs.Try.{Fits}
use Rattle.packing_rules.specs.Rules.{is_whole}
use Rattle.grouped_rects_to_place.specs.declared.rect_to_place.RectToPlace.{RectToPlace}
use Rattle.packing_rules.specs.Seats.{Seat, unplaced, seat}
use Rattle.packing_rules.specs.Packing.{trial_in, rects_at, State, Ended, ended, pack_groups}

-- "no free section of any chamber fits it"
pub record NoSectionFits (order : List ℕ) (r : RectToInsert) (frees : List (List BinSection)) : Type 0 where
  pub at : (t j : ℕ) → t < length order → j < length (get_or frees (get_or order t 0) []) → Fits (get_or (get_or frees (get_or order t 0) []) j zero_section) r → ⊥

-- "The first chamber where all fit" is at place t of the trial order
pub record Serves (order : List ℕ) (group : List RectToInsert) (frees : List (List BinSection)) (t : ℕ) : Type 0 where
  pub within : t < length order
  pub earlier_stop : (u : ℕ) → u < t → is_whole (trial_in group frees (get_or order u 0)) ≡ false
  pub all_fit : is_whole (trial_in group frees (get_or order t 0)) ≡ true

-- "If none serves"
pub record NoneServes (order : List ℕ) (group : List RectToInsert) (frees : List (List BinSection)) : Type 0 where
  pub at : (t : ℕ) → t < length order → is_whole (trial_in group frees (get_or order t 0)) ≡ false

-- "If none serves, the answer is 7, the later groups are not tried, and earlier groups stay": the groups before the refused one were
-- all placed, and nothing has changed since. e: how the packing of the groups ended
pub record RefusedAt (order : List ℕ) (ids : ℕ → ℕ) (r : ℕ → RectToPlace) (groups : List (List ℕ)) (s : State) (e : Ended) (earlier : List (List ℕ)) (refused : List ℕ) (later : List (List ℕ)) : Type 0 where
  pub among : groups ≡ earlier ++ (refused ∷ later)
  pub stay : pack_groups order ids r earlier s ≡ ended (reply 0 0) e.after
  pub seven : e.reply ≡ reply 7 (get_or refused 0 0)
  pub none_serves : NoneServes order (rects_at r refused) e.after.frees

-- a group is whole in one chamber or nowhere
pub data WholeOrNowhere (order : List ℕ) (ids : ℕ → ℕ) (seats : List Seat) (group : List ℕ) : Type 0 where
  in_one : (t : ℕ) → t < length order → Each (λ i. (l : PackedLocation) × (get_or seats i unplaced ≡ seat (ids (get_or order t 0)) l)) group → WholeOrNowhere order ids seats group
  in_none : Each (λ i. get_or seats i unplaced ≡ unplaced) group → WholeOrNowhere order ids seats group

-- every placed box is as P says of a chamber, one of n, whose id stands in its record
pub record BoxesAre (n : ℕ) (ids : ℕ → ℕ) (P : ℕ → BinSection → Type 0) (seats : List Seat) : Type 0 where
  pub at : (i id : ℕ) (l : PackedLocation) → get_or seats i unplaced ≡ seat id l → (k : ℕ) × (k < n) × (id ≡ ids k) × P k (location_box l)
