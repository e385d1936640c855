-- The ledger weighed: what a pack's records add, and what a return takes out.
use Prim.Native.Nat.{ℕ, ◌+◌, ◌<◌}
use mathlib.Core.Path.{◌≡◌, refl, sym, ap, ◌∙◌}
use mathlib.Core.List.{List, ◌∷◌, map}
use mathlib.Core.Bool.{Bool, true, false, ◌&&◌, cond}
use native.Mathlib.Omega.{arith}
use borrow.Author.Tests.{eqb-true, eq-eqb}
use lib.Dec.{eqb}
use lib.ListN.{length, get_or, length-map, get_or-map}
use Rattle.lists.proofs.Flags.{cond_yes, and_both, and_first, and_second}
use Rattle.lists.proofs.Sums.{sum_ext}
use Rattle.words.proofs.Records.{at_joined}
use Rattle.bin_section.specs.declared.section.BinSection.{BinSection}
use Rattle.bin_section.specs.declared.width_height_depth.WidthHeightDepth.{WidthHeightDepth}
use Rattle.bin_section.specs.Section.{section}
use Rattle.grouped_rects_to_place.specs.Rect.{rect_at, rect_count}
use Rattle.placement.specs.declared.Placement.{Placement}
use Rattle.placement.specs.Placements.{no_placement, placement_width, placement_at, placement_words}
use Rattle.placement.specs.Layouts.{placement_layout}
use Rattle.packing_rules.specs.Seats.{Seat, unplaced, seat}
use Rattle.rectangle_pack.specs.Records.{placement_of, placements_of}
use Rattle.custody.specs.Ledger.{placed_in, record_box, new_boxes, In, first, later, same_box, taken_out}
use Rattle.lists.proofs.Totals.{total}
use Rattle.custody.proofs.Totals.{total_boxes}
use Rattle.custody.proofs.Seating.{seat_weight, seat_total}

-- ---- a pack

placement_at_lem : (seats : List Seat) (i : ℕ) → i < length seats → placement_at (placements_of seats) i ≡ placement_of (get_or seats i unplaced)
placement_at_lem seats i h =
    at_joined placement_width placement_at (λ p. placement_words p) placement_layout (map placement_of seats) i no_placement (omega (arith, length-map seats placement_of))
    ∙ get_or-map placement_of seats i unplaced

seat_weighs :
    (w : BinSection → ℕ) (id : ℕ) (whd : WidthHeightDepth) (s : Seat) (p : Placement)
    → p ≡ placement_of s
    → cond (eqb p.placed 1 && eqb p.chamber id) (w (section p.x p.y p.z whd)) 0 ≡ seat_weight w id whd s
unfolding seat_weight
seat_weighs w id whd unplaced p e = rw e refl
seat_weighs w id whd (seat at l) p e = rw e refl

-- what an onlooker reads from the records is what the seats hold
pub new_total :
    (w : BinSection → ℕ) (rects : List ℕ) (id : ℕ) (seats : List Seat)
    → length seats ≡ rect_count rects
    → total w (new_boxes rects (placements_of seats) id) ≡ seat_total w (rect_at rects) (rect_count rects) id seats
unfolding new_boxes seat_total placed_in record_box
new_total w rects id seats long =
    total_boxes w (record_box rects (placements_of seats)) (placed_in (placements_of seats) id) (rect_count rects)
    ∙ sum_ext (rect_count rects)
    (λ i. cond (placed_in (placements_of seats) id i) (w (record_box rects (placements_of seats) i)) 0)
    (λ i. seat_weight w id (rect_at rects i).whd (get_or seats i unplaced))
    (λ i h. seat_weighs w id (rect_at rects i).whd (get_or seats i unplaced) (placement_at (placements_of seats) i) (placement_at_lem seats i (omega arith)))

-- ---- a return

module _ (a b : BinSection) where
  pub same_box_lem : same_box a b ≡ true → a ≡ b
  unfolding same_box
  same_box_lem e =
      let x : a.x ≡ b.x = search (and_first, eqb-true) in
      let y : a.y ≡ b.y = search (and_first, and_second, eqb-true) in
      let z : a.z ≡ b.z = search (and_first, and_second, eqb-true) in
      let w : a.whd.width ≡ b.whd.width = search (and_first, and_second, eqb-true) in
      let h : a.whd.height ≡ b.whd.height = search (and_first, and_second, eqb-true) in
      let d : a.whd.depth ≡ b.whd.depth = search (and_first, and_second, eqb-true) in
      λ t. record { x = x t; y = y t; z = z t; whd = record { width = w t; height = h t; depth = d t } }

same_self : (a : BinSection) → same_box a a ≡ true
unfolding same_box
same_self a = let q : (n : ℕ) → eqb n n ≡ true = λ n. eq-eqb n n refl in search (and_both, q)

-- the box taken out and the rest are the list
pub taken_total : (w : BinSection → ℕ) (box : BinSection) {boxes : List BinSection} → In box boxes → w box + total w (taken_out box boxes) ≡ total w boxes
unfolding taken_out total
taken_total w box (first {boxes}) =
    ap (λ (l : List BinSection). w box + total w l) (cond_yes boxes (box ∷ taken_out box boxes) (same_box box box) (same_self box))
taken_total w box (later {other} {boxes} p) = go (same_box other box) refl (taken_total w box p)
  where
    go :
        (t : Bool)
        → same_box other box ≡ t
        → w box + total w (taken_out box boxes) ≡ total w boxes
        → w box + total w (cond t boxes (other ∷ taken_out box boxes)) ≡ w other + total w boxes
    go true e rest = ap (λ (b : BinSection). w b + total w boxes) (sym (same_box_lem other box e))
    go false e rest = omega (arith, rest)
