-- What functions below the jobs lean on and leave. No job's contract cites it, and a reader of the rules needs none of it.
use Rattle.std.specs.Prelude.{ℕ, ◌*◌, ◌≤◌, ◌<◌, ◌≡◌, List, false, cond, ltb, length, get_or, set, Option, Some, None}
use Rattle.bin_section.specs.declared.rect_to_insert.RectToInsert.{RectToInsert}
use Rattle.bin_section.specs.declared.section.BinSection.{BinSection}
use Rattle.bin_section.specs.Leaning.{Small}
use Rattle.bin_section.specs.Sides.{volume_of}
use Rattle.sections.specs.Sections.{sections}
use Rattle.sections.specs.Leaning.{ZeroPast}
use Rattle.target_bin.specs.Chambers.{chamber_at, chamber_count}
use Rattle.target_bin.specs.Leaning.{Shaped}
use Rattle.target_bin.specs.Store.{part_at, free_of}
use Rattle.grouped_rects_to_place.specs.declared.rect_to_place.RectToPlace.{RectToPlace}
use Rattle.replies.specs.declared.reply.Reply.{Reply}
use Rattle.grouped_rects_to_place.specs.Rect.{rect_count}
use Rattle.grouped_rects_to_place.specs.Leaning.{GoodRects}
use Rattle.grouped_rects_to_place.specs.Groups.{groups_of}
use Rattle.placement.specs.Placements.{placement_width}
use Rattle.placement.specs.Leaning.{HasPlacement}
use Rattle.packing_rules.specs.Rules.{whole, is_whole}
use Rattle.packing_rules.specs.Packing.{trial_in, state, Ended, pack_groups}
use Rattle.packing_rules.specs.Promises.{Serves, NoneServes}
use Rattle.packing_rules.specs.Order.{trial_order}
use Rattle.packing_rules.specs.Seats.{Seat, seated}
use Rattle.placing.specs.Leaning.{GroupOf, Ready}
use Rattle.placing.specs.Step.{locations_in}
use Rattle.rectangle_pack.specs.declared.groups.Fit.{Fit}
use Rattle.rectangle_pack.specs.declared.order.Turn.{Turn}
use Rattle.rectangle_pack.specs.Records.{placements_of}

-- no side of a chamber is above 65,535
pub record SmallChambers (chambers : List ℕ) : Type 0 where
  pub at : (i : ℕ) → i < chamber_count chambers → Small (chamber_at chambers i).whd

-- what the chamber at i is sorted by
abbrev pub turn_of : List ℕ → ℕ → Turn
turn_of chambers i = record { volume = volume_of (chamber_at chambers i).whd; id = (chamber_at chambers i).id; index = i }

-- the same, and zeros past the last
unfoldable pub turn_at : List ℕ → ℕ → Turn
turn_at chambers i = cond (ltb i (chamber_count chambers)) (turn_of chambers i) (record { volume = 0; id = 0; index = i })

-- ---- one group

-- a group that is to be placed, with the copy and the table of locations that are lent for it
pub record Wanted (rects group copy table : List ℕ) : Type 0 where
  pub some : 0 < length group
  pub listed : GroupOf rects group
  pub copy_long : length copy ≡ 768
  pub table_long : length group * 6 ≤ length table

-- the chamber at k takes all m of the group, with the copy and the locations that its step left; or all do not fit there
abbrev pub FitHere : Option Fit → ℕ → List RectToInsert → List (List BinSection) → ℕ → List ℕ → List ℕ → Type 0
FitHere (Some fit) k group frees m copy table = (k ≡ fit.chamber) × (trial_in group frees k ≡ whole (locations_in table m) (sections copy fit.count))
FitHere None k group frees m copy table = is_whole (trial_in group frees k) ≡ false

-- the first chamber where all m of the group fit, with the copy and the locations that its step left; or none serves
abbrev pub FirstFit : Option Fit → List ℕ → List RectToInsert → List (List BinSection) → ℕ → List ℕ → List ℕ → Type 0
FirstFit (Some fit) order group frees m copy table =
    (t : ℕ)
    × Serves order group frees t
    × (get_or order t 0 ≡ fit.chamber)
    × (trial_in group frees fit.chamber ≡ whole (locations_in table m) (sections copy fit.count))
FirstFit None order group frees m copy table = NoneServes order group frees

-- the chambers are the same, but for their counts
pub record SameShape (c c' : List ℕ) : Type 0 where
  pub long : length c' ≡ length c
  pub ids : (i : ℕ) → (chamber_at c' i).id ≡ (chamber_at c i).id
  pub sides : (i : ℕ) → (chamber_at c' i).whd ≡ (chamber_at c i).whd

-- the chamber at k "is changed so; others aren't"
pub record KeptIn (k : ℕ) (free : List BinSection) (c st c' st' : List ℕ) : Type 0 where
  pub same : SameShape c c'
  pub shaped : Shaped c' st'
  pub frees : free_of c' st' ≡ set (free_of c st) k free

-- one group served, its locations in the table; or no word of chambers and store changed
abbrev pub Grouped : Option Fit → List ℕ → List RectToInsert → ℕ → List ℕ → List ℕ → List ℕ → List ℕ → List ℕ → Type 0
Grouped (Some fit) order group m table c st c' st' =
    (t : ℕ)
    × Serves order group (free_of c st) t
    × (get_or order t 0 ≡ fit.chamber)
    × (free : List BinSection)
    × (length free ≡ fit.count)
    × (trial_in group (free_of c st) fit.chamber ≡ whole (locations_in table m) free)
    × KeptIn fit.chamber free c st c' st'
Grouped None order group m table c st c' st' = NoneServes order group (free_of c st) × (c' ≡ c) × (st' ≡ st)

-- the placement table has a record for each of the group
pub record SeatsFor (group p : List ℕ) : Type 0 where
  pub at : (k : ℕ) → k < length group → HasPlacement p (get_or group k 0)

-- the group has taken its seats, at the locations of the table
pub record Seated (id : ℕ) (group table p p' : List ℕ) : Type 0 where
  pub seats : (ss : List Seat) → p ≡ placements_of ss → p' ≡ placements_of (seated id group (locations_in table (length group)) ss)

-- ---- all groups

-- the packing has ended so: this is the answer, and the tables hold the state
pub record PackedTo (e : Ended) (answer : Reply) (c' st' p' : List ℕ) : Type 0 where
  pub answers : answer ≡ e.reply
  pub frees : free_of c' st' ≡ e.after.frees
  pub seats : p' ≡ placements_of e.after.seats

-- the groups of n rectangles are packed from the state that the tables held
pub record GroupsPacked (r : ℕ → RectToPlace) (n : ℕ) (answer : Reply) (c st p c' st' p' : List ℕ) : Type 0 where
  pub same : SameShape c c'
  pub shaped : Shaped c' st'
  pub packed :
      (seats : List Seat)
      → p ≡ placements_of seats
      → PackedTo (pack_groups (trial_order c) (λ k. (chamber_at c k).id) r (groups_of n r) (state (free_of c st) seats)) answer c' st' p'

-- ---- before and after

-- what the checks leave
pub record Passed (c st rects p : List ℕ) : Type 0 where
  pub ready : Ready c st (rect_count rects)
  pub rects_good : GoodRects rects (rect_count rects)
  pub places_long : length p ≡ rect_count rects * placement_width

-- "words past each count are 0"
pub record Clean (c st : List ℕ) : Type 0 where
  pub zeros : (k : ℕ) → k < chamber_count c → ZeroPast (chamber_at c k).count (part_at st k)

-- the sections are as they were, and zeros stand past each count
pub record Tidied (c st st' : List ℕ) : Type 0 where
  pub long : length st' ≡ length st
  pub same : (k : ℕ) → k < chamber_count c → sections (part_at st' k) (chamber_at c k).count ≡ sections (part_at st k) (chamber_at c k).count
  pub clean : Clean c st'
