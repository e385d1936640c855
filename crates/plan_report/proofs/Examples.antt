-- Reports worked out whole: a pack, a pack that stops at a group, a refused pack, a slip.
use mathlib.Core.Path.{◌≡◌, refl}
use mathlib.Core.List.{[], ◌∷◌}
use lib.Chars.{codes}
use Prim.Native.Nat.{ℕ}
use Rattle.bin_section.specs.declared.width_height_depth.WidthHeightDepth.{WidthHeightDepth}
use Rattle.bin_section.specs.Sides.{sides}
use Rattle.grouped_rects_to_place.specs.declared.rect_to_place.RectToPlace.{RectToPlace}
use Rattle.target_bin.specs.Chambers.{bin}
use Rattle.placement.specs.declared.Placement.{Placement}
use Rattle.placement.specs.Placements.{placement, no_placement}
use Rattle.replies.specs.Replies.{reply}
use Rattle.text.specs.Decimal.{digits_in, decimal}
use Rattle.plan_list.specs.declared.slip.Slip.TheVariants.{NoNumber}
use Rattle.plan_list.specs.declared.list.PlanList.{PlanList}
use Rattle.plan_list.specs.List.{on_line, slip_at, plan_list}
use Rattle.plan_report.specs.Texts.{line_tag, nothing_placed, slip_text, slip_report, refusal_text, refused_line, refusal, place_text, goes_to, coil_texts, placed_count, summary, pack_report}

-- a coil of no group
rect : ℕ → WidthHeightDepth → RectToPlace
rect id whd = record { id = id; group = 0; whd = whd }

-- two coils, with the ids 7 and 12, whose lines are 3 and 5; the chamber's line is 2
list : PlanList
list =
    plan_list (on_line 2 (bin 3 (sides 200 100 100) 0) ∷ [])
    (on_line 3 (rect 7 (sides 10 10 10)) ∷ on_line 5 (rect 12 (sides 20 20 20)) ∷ []) 5

first : Placement
first = placement 1 3 100 0 65535

packed :
    pack_report list (first ∷ placement 1 3 0 20 0 ∷ []) (reply 0 0)
    ≡ codes "coil 7 goes to chamber 3 at 100 0 65535\ncoil 12 goes to chamber 3 at 0 20 0\n2 placed, 0 waiting\n"
unfolding rect list first digits_in decimal place_text goes_to coil_texts placed_count summary pack_report
packed = refl

partly :
    pack_report list (first ∷ no_placement ∷ []) (reply 7 1)
    ≡ codes "coil 7 goes to chamber 3 at 100 0 65535\ncoil 12 waits\nline 5: refused with 7: no chamber takes the coil with its whole group; it waits, and so do the groups after it, by falling volume\n1 placed, 1 waiting\n"
unfolding rect list first digits_in decimal place_text goes_to coil_texts placed_count summary line_tag refusal_text refused_line refusal pack_report
partly = refl

refused :
    pack_report list [] (reply 2 0)
    ≡ codes "line 2: refused with 2: the chamber's id is not above the one before it, or a side is not 1 to 65535\nnothing is placed\n"
unfolding rect list digits_in decimal line_tag nothing_placed refusal_text refused_line refusal pack_report
refused = refl

slipped : slip_report (slip_at 14 (NoNumber 3)) ≡ codes "line 14: word 3 is not a number from 0 to 4294967295\nnothing is placed\n"
unfolding digits_in decimal line_tag nothing_placed slip_text slip_report
slipped = refl
