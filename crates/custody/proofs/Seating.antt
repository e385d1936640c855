-- The seats of rectangles weighed: what a group that takes its seats adds, and to which chamber.
use Prim.Native.Nat.{ℕ, ◌+◌, ◌<◌}
use mathlib.Core.Path.{◌≡◌, refl, ap, ◌∙◌}
use mathlib.Core.List.{List, [], ◌∷◌}
use mathlib.Core.Bool.{Bool, true, false, cond}
use native.Mathlib.Omega.{arith}
use lib.Dec.{eqb}
use lib.ListN.{length, get_or, set, length-set}
use lib.Seq.{get_or-set_same, get_or-set_other}
use Rattle.lists.specs.Sum.{sum_to}
use Rattle.lists.specs.Sort.{none, also}
use Rattle.lists.proofs.Sorts.{each_map, each_head, each_tail, two_head, two_tail}
use Rattle.lists.proofs.Sums.{sum_raised}
use Rattle.lists.proofs.Totals.{total}
use Rattle.bin_section.specs.declared.width_height_depth.WidthHeightDepth.{WidthHeightDepth}
use Rattle.bin_section.specs.declared.section.BinSection.{BinSection}
use Rattle.try_place.specs.declared.packed_location.PackedLocation.{PackedLocation}
use Rattle.grouped_rects_to_place.specs.declared.rect_to_place.RectToPlace.{RectToPlace}
use Rattle.packing_rules.specs.Seats.{Seat, unplaced, seat, seated}
use Rattle.packing_rules.specs.Packing.{rects_at}
use Rattle.packing_rules.proofs.Seating.{Waiting, still_waiting}
use Rattle.custody.proofs.Placements.{box_at_location, boxes_at}

-- what a seat weighs for a chamber id: its box, if it is one of that chamber's
unfoldable pub seat_weight : (BinSection → ℕ) → ℕ → WidthHeightDepth → Seat → ℕ
seat_weight w id whd unplaced = 0
seat_weight w id whd (seat at l) = cond (eqb at id) (w (box_at_location l whd)) 0

unfoldable pub seat_total : (BinSection → ℕ) → (ℕ → RectToPlace) → ℕ → ℕ → List Seat → ℕ
seat_total w r n id seats = sum_to n (λ i. seat_weight w id (r i).whd (get_or seats i unplaced))

pub no_weight : (w : BinSection → ℕ) (at : ℕ) (whd : WidthHeightDepth) → seat_weight w at whd unplaced ≡ 0
unfolding seat_weight
no_weight w at whd = refl

-- the others of the group still wait when its first rectangle has its seat
wait_rest : (id i : ℕ) (g : List ℕ) (l : PackedLocation) (seats : List Seat) → Waiting seats (i ∷ g) → Waiting (set seats i (seat id l)) g
unfolding seated
wait_rest id i g l seats p =
    still_waiting id (l ∷ []) seats (i ∷ []) g (also (each_map (λ j h e. omega arith) (two_head p.rising)) none)
    (record { below = each_tail p.below; rising = two_tail p.rising; empty_yet = each_tail p.empty_yet })

cond_sum : (t : Bool) (a b : ℕ) → cond t (a + b) 0 ≡ cond t a 0 + cond t b 0
cond_sum true a b = refl
cond_sum false a b = refl

module _ (r : ℕ → RectToPlace) (n : ℕ) (w : BinSection → ℕ) (at id : ℕ) where
  -- one rectangle takes its seat
  seat_one :
      (l : PackedLocation) (seats : List Seat) (i : ℕ)
      → length seats ≡ n
      → i < length seats
      → get_or seats i unplaced ≡ unplaced
      → seat_total w r n at (set seats i (seat id l)) ≡ seat_total w r n at seats + cond (eqb id at) (w (box_at_location l (r i).whd)) 0
  unfolding seat_total seat_weight
  seat_one l seats i long low empty =
      sum_raised n (λ j. seat_weight w at (r j).whd (get_or seats j unplaced)) (λ j. seat_weight w at (r j).whd (get_or (set seats i (seat id l)) j unplaced)) i
      (seat_weight w at (r i).whd (seat id l)) (omega (arith, long))
      (omega (
        arith,
        ap (seat_weight w at (r i).whd) (get_or-set_same seats i (seat id l) unplaced low),
        ap (seat_weight w at (r i).whd) empty,
      ))
      (λ j ne. ap (seat_weight w at (r j).whd) (get_or-set_other seats i j (seat id l) unplaced ne))

  -- a group takes its seats in the chamber of that id: its boxes are added there, and none elsewhere
  pub seated_adds :
      (g : List ℕ) (ls : List PackedLocation) (seats : List Seat)
      → length seats ≡ n
      → length ls ≡ length g
      → Waiting seats g
      → seat_total w r n at (seated id g ls seats) ≡ seat_total w r n at seats + cond (eqb id at) (total w (boxes_at (rects_at r g) ls)) 0
  unfolding seated boxes_at rects_at total
  seated_adds [] ls seats long same p = omega (arith, cond_sum (eqb id at) 0 0)
  seated_adds (i ∷ g) [] seats long same p = absurd (omega arith)
  seated_adds (i ∷ g) (l ∷ ls) seats long same p =
      omega (
        arith,
        seated_adds g ls (set seats i (seat id l)) (length-set seats i (seat id l) ∙ long) (omega arith) (wait_rest id i g l seats p),
        seat_one l seats i long (each_head p.below) (each_head p.empty_yet),
        cond_sum (eqb id at) (w (box_at_location l (r i).whd)) (total w (boxes_at (rects_at r g) ls)),
      )
