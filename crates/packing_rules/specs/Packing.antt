-- "Packing": groups in their order, each into the first chamber where all of it fits.
use Rattle.std.specs.Prelude.{ℕ, ◌+◌, ◌*◌, List, [], ◌∷◌, map, Bool, cond, ltb, length, get_or, set, replicate}
use Rattle.lists.specs.Lowest.{lowest}
use Rattle.replies.specs.declared.reply.Reply.{Reply}
use Rattle.bin_section.specs.declared.rect_to_insert.RectToInsert.{RectToInsert}
use Rattle.bin_section.specs.declared.section.BinSection.{BinSection}
use Rattle.replies.specs.Replies.{reply}
use Rattle.target_bin.specs.Chambers.{chamber_at}
use Rattle.target_bin.specs.Store.{free_of}
use Rattle.grouped_rects_to_place.specs.declared.rect_to_place.RectToPlace.{RectToPlace}
use Rattle.grouped_rects_to_place.specs.Rect.{rect_at, rect_count}
use Rattle.grouped_rects_to_place.specs.Groups.{groups_of}
use Rattle.packing_rules.specs.Order.{trial_order}
use Rattle.packing_rules.specs.Rules.{Trial, place_group, is_whole, locations_of, free_then}
use Rattle.packing_rules.specs.Seats.{Home, home, Seat, unplaced, dealt}

-- ---- Groups as lists of rectangles: where each goes.

-- "A group is tried in each chamber in turn": the trial in the chamber at k
unfoldable pub trial_in : List RectToInsert → List (List BinSection) → ℕ → Trial
trial_in group frees k = place_group (get_or frees k []) group

-- "The first chamber where all fit": its place in the trial order; the number of chambers "If none serves"
unfoldable pub first_whole : List ℕ → List RectToInsert → List (List BinSection) → ℕ
first_whole order group frees = lowest (length order) (λ t. is_whole (trial_in group frees (get_or order t 0)))

-- the homes of the groups that were served, which are the first ones, and the free sections of each chamber
pub record Housed : Type 0 where
  pub homes : List Home
  pub frees : List (List BinSection)

abbrev pub housed : List Home → List (List BinSection) → Housed
housed homes frees = record { homes = homes; frees = frees }

-- one group more was served before all these
abbrev pub served_first : Home → Housed → Housed
served_first h p = housed (h ∷ p.homes) p.frees

-- "The first chamber where all fit is changed so; others aren't. If none serves, .. the later groups are not tried, and earlier groups stay."
unfoldable pub place_groups : List ℕ → List (List RectToInsert) → List (List BinSection) → Housed
place_groups order [] frees = housed [] frees
place_groups order (group ∷ groups) frees =
    let t = first_whole order group frees in
    let k = get_or order t 0 in
    let trial = trial_in group frees k in
    cond (ltb t (length order))
    (served_first (home k (locations_of trial)) (place_groups order groups (set frees k (free_then trial))))
    (housed [] frees)

-- ---- Groups as lists of indices: the answer, and the seats dealt out.

-- the rectangle at an index, without its id and group
abbrev pub rect_of : (ℕ → RectToPlace) → ℕ → RectToInsert
rect_of r i = record { whd = (r i).whd }

-- the rectangles of a group, which is given by their indices in table order
unfoldable pub rects_at : (ℕ → RectToPlace) → List ℕ → List RectToInsert
rects_at r group = map (rect_of r) group

-- "If none serves, the answer is 7", with the first index of the group that has no home
unfoldable pub answer_of : List (List ℕ) → List Home → Reply
answer_of [] homes = reply 0 0
answer_of (group ∷ groups) [] = reply 7 (get_or group 0 0)
answer_of (group ∷ groups) (h ∷ homes) = answer_of groups homes

-- the free sections of each chamber, and the seat of each rectangle
pub record State : Type 0 where
  pub frees : List (List BinSection)
  pub seats : List Seat

abbrev pub state : List (List BinSection) → List Seat → State
state frees seats = record { frees = frees; seats = seats }

pub record Ended : Type 0 where
  pub reply : Reply
  pub after : State

abbrev pub ended : Reply → State → Ended
ended answer after = record { reply = answer; after = after }

-- the groups in their order, from a state. ids: the id of each chamber
unfoldable pub pack_groups : List ℕ → (ℕ → ℕ) → (ℕ → RectToPlace) → List (List ℕ) → State → Ended
pack_groups order ids r groups s =
    let p = place_groups order (map (rects_at r) groups) s.frees in
    ended (answer_of groups p.homes) (state p.frees (dealt ids groups p.homes s.seats))

-- ---- From lent tables.

-- the free sections as they are lent, and every rectangle unplaced
unfoldable pub start : List ℕ → List ℕ → List ℕ → State
start chambers store rects = state (free_of chambers store) (replicate (rect_count rects) unplaced)

-- the packing of the groups in their order
unfoldable pub packing : List ℕ → List ℕ → List ℕ → Ended
packing chambers store rects =
    pack_groups (trial_order chambers) (λ k. (chamber_at chambers k).id) (rect_at rects) (groups_of (rect_count rects) (rect_at rects))
    (start chambers store rects)

-- "free count + 2 x rectangles of the call": as many sections as a chamber can come to have
unfoldable pub most_sections : ℕ → ℕ → ℕ
most_sections count n = count + 2 * n

-- 6: it "is above 128", so that the packing could overflow the store
unfoldable pub no_room : List ℕ → ℕ → ℕ → Bool
no_room chambers n k = ltb 128 (most_sections (chamber_at chambers k).count n)
