-- How long the texts are, where each number is below 2 ^ 32 and there are at most 63 coils.
use Prim.Native.Nat.{ℕ, zero, suc, ◌+◌, ◌*◌, ◌-◌, ◌^◌, ◌≤◌, ◌<◌}
use mathlib.Core.List.{List, [], ◌∷◌}
use mathlib.Core.Bool.{Bool, true, false, cond}
use native.Mathlib.Omega.{arith}
use lib.Dec.{eqb}
use lib.ListN.{length, length-append}
use Rattle.std.specs.Prelude.{codes, flat_map, zip, count_by}
use Rattle.std.proofs.lemmas.List.Sums.{count_by-le-length}
use Rattle.lists.specs.Sort.{Each, none, also}
use Rattle.replies.specs.declared.reply.Reply.{Reply}
use Rattle.placement.specs.declared.Placement.{Placement}
use Rattle.grouped_rects_to_place.specs.declared.rect_to_place.RectToPlace.{RectToPlace}
use Rattle.plan_list.specs.declared.list.OnLine.{OnLine}
use Rattle.plan_list.specs.declared.list.PlanList.{PlanList}
use Rattle.plan_list.specs.declared.slip.Slip.{Slip}
use Rattle.plan_list.specs.declared.slip.Slip.TheVariants.{Neither, ChamberWords, CoilWords, NoNumber, ManyChambers, ManyCoils, TooLong, NoGroup}
use Rattle.plan_list.specs.declared.slip.SlipAt.{SlipAt}
use Rattle.plan_list.proofs.Small.{SmallSlip, SmallLine, SmallCoil, SmallList, SmallSlipAt}
use Rattle.text.specs.Decimal.{decimal, item}
use Rattle.text.proofs.Decimals.{decimal_most}
use Rattle.plan_report.specs.Texts.{line_tag, nothing_placed, slip_text, slip_report, refusal_text, refusal, refused_line, place_text, goes_to, coil_text, coil_with, coil_texts, names_chamber, line_at, is_placed, placed_count, summary, pack_report}

-- ---- what the texts are made of

item_most : (text : List ℕ) (n : ℕ) → n < 2 ^ 32 → length (item text n) ≤ length text + 10
item_most text n h = omega (arith, length-append text (decimal n), decimal_most n h)

either_most : (t : Bool) (x y : List ℕ) (m : ℕ) → length x ≤ m → length y ≤ m → length (cond t x y) ≤ m
either_most true x y m p q = p
either_most false x y m p q = q

-- a text for each element
each_most : {X : Type 0} (f : X → List ℕ) (m : ℕ) {xs : List X} → Each (λ x. length (f x) ≤ m) xs → length (flat_map f xs) ≤ length xs * m
each_most f m none = omega arith
each_most f m (also {x} {xs} p ps) = omega (arith, length-append (f x) (flat_map f xs), p, each_most f m ps)

-- ---- a line, a slip, a refusal

pub line_tag_short : (line : ℕ) → line < 2 ^ 32 → length (line_tag line) ≤ 17
unfolding line_tag
line_tag_short line h = omega (arith, length-append (item (codes "line ") line) (codes ": "), item_most (codes "line ") line h)

slip_text_short : (slip : Slip) → SmallSlip slip → length (slip_text slip) ≤ 68
unfolding slip_text
slip_text_short Neither h = omega arith
slip_text_short ChamberWords h = omega arith
slip_text_short CoilWords h = omega arith
slip_text_short (NoNumber word) h =
    omega (arith, length-append (item (codes "word ") word) (codes " is not a number from 0 to 4294967295\n"), item_most (codes "word ") word h)
slip_text_short ManyChambers h = omega arith
slip_text_short ManyCoils h = omega arith
slip_text_short TooLong h = omega arith
slip_text_short NoGroup h = omega arith

pub slip_short : (at : SlipAt) → SmallSlipAt at → length (slip_report at) ≤ 103
unfolding nothing_placed slip_report
slip_short at s = simp (length-append) (omega (arith, line_tag_short at.line s.line, slip_text_short at.slip s.slip))

pub refusal_text_short : (n : ℕ) → length (refusal_text n) ≤ 107
unfolding refusal_text
refusal_text_short n =
    either_most (eqb n 2) _ _ 107 (omega arith)
    (either_most (eqb n 4) _ _ 107 (omega arith)
    (either_most (eqb n 5) _ _ 107 (omega arith) (either_most (eqb n 7) _ _ 107 (omega arith) (omega arith))))

pub refusal_short : (line n : ℕ) → line < 2 ^ 32 → n < 2 ^ 32 → length (refusal line n) ≤ 149
unfolding refusal
refusal_short line n h k = simp (length-append) (omega (arith, line_tag_short line h, decimal_most n k, refusal_text_short n))

-- ---- the coils

pub place_short : (x y z : ℕ) → x < 2 ^ 32 → y < 2 ^ 32 → z < 2 ^ 32 → length (place_text x y z) ≤ 37
unfolding place_text
place_short x y z p q r = simp (length-append) (omega (arith, decimal_most x p, decimal_most y q, decimal_most z r))

-- the numbers of a placement
pub record SmallPlacement (p : Placement) : Type 0 where
  pub chamber : p.chamber < 2 ^ 32
  pub x : p.x < 2 ^ 32
  pub y : p.y < 2 ^ 32
  pub z : p.z < 2 ^ 32

goes_short : (p : Placement) → SmallPlacement p → length (goes_to p) ≤ 64
unfolding goes_to
goes_short p s =
    either_most (eqb p.placed 1) _ _ 64
    (simp (length-append) (omega (arith, decimal_most p.chamber s.chamber, place_short p.x p.y p.z s.x s.y s.z)))
    (omega arith)

pub coil_short : (id : ℕ) (p : Placement) → id < 2 ^ 32 → SmallPlacement p → length (coil_text id p) ≤ 80
coil_short id p h s = simp (length-append) (omega (arith, decimal_most id h, goes_short p s))

zip_short :
    {coils : List (OnLine RectToPlace)} {placements : List Placement}
    → Each SmallCoil coils
    → Each SmallPlacement placements
    → Each (λ c. length (coil_with c) ≤ 80) (zip coils placements)
zip_short none qs = none
zip_short (also p ps) none = none
zip_short (also {x} p ps) (also {x = y} q qs) = also (coil_short x.item.id y p.id q) (zip_short ps qs)

pub zip_most : {A B : Type 0} (xs : List A) (ys : List B) → length (zip xs ys) ≤ length xs
zip_most [] ys = omega arith
zip_most (x ∷ xs) [] = omega arith
zip_most (x ∷ xs) (y ∷ ys) = omega (arith, zip_most xs ys)

pub coils_short :
    (coils : List (OnLine RectToPlace)) (placements : List Placement)
    → Each SmallCoil coils
    → Each SmallPlacement placements
    → length (coil_texts coils placements) ≤ length coils * 80
unfolding coil_texts
coils_short coils placements ps qs = omega (arith, each_most coil_with 80 (zip_short ps qs), zip_most coils placements)

-- ---- the summary

pub summary_short : (placements : List Placement) → length placements < 2 ^ 32 → length (summary placements) ≤ 38
unfolding placed_count summary
summary_short placements h =
    let l : count_by is_placed placements ≤ length placements = count_by-le-length is_placed placements in
    simp (length-append) (omega (arith, decimal_most (count_by is_placed placements) (omega arith), decimal_most (length placements - count_by is_placed placements) (omega arith)))

-- ---- the report

line_small : {T : Type 0} {entries : List (OnLine T)} (i : ℕ) → Each SmallLine entries → line_at entries i < 2 ^ 32
line_small i none = omega arith
line_small zero (also p ps) = p
line_small (suc i) (also p ps) = line_small i ps

coil_lines : {coils : List (OnLine RectToPlace)} → Each SmallCoil coils → Each SmallLine coils
coil_lines none = none
coil_lines (also p ps) = also p.line (coil_lines ps)

number_either : (t : Bool) (x y m : ℕ) → x < m → y < m → cond t x y < m
number_either true x y m p q = p
number_either false x y m p q = q

module _ (list : PlanList) (s : SmallList list) where
  refused_line_small : (r : Reply) → refused_line list r < 2 ^ 32
  unfolding refused_line
  refused_line_small r = number_either (names_chamber r.number) _ _ (2 ^ 32) (line_small r.detail s.chambers) (line_small r.detail (coil_lines s.coils))

  pub report_short :
      (placements : List Placement) (r : Reply)
      → Each SmallPlacement placements
      → length placements ≤ 63
      → r.number < 2 ^ 32
      → length (pack_report list placements r) ≤ 8192
  unfolding nothing_placed pack_report
  report_short placements r ps few small =
      let coils = coils_short list.coils.items placements s.coils ps in
      let summed = summary_short placements (omega arith) in
      let line = refused_line_small r in
      either_most (eqb r.number 0) _ _ 8192
      (simp (length-append) (omega (arith, coils, summed, s.few)))
      (either_most (eqb r.number 7) _ _ 8192
      (simp (length-append) (omega (arith, coils, summed, refusal_short (refused_line list r) 7 line (omega arith), s.few)))
      (simp (length-append) (omega (arith, refusal_short (refused_line list r) r.number line small))))
