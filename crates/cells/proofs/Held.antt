-- In how many boxes of a list a cell lies, and what that says of the list.
use mathlib.Core.Path.{◌≡◌, ◌∙◌}
use mathlib.Core.Logic.{◌↔◌}
use mathlib.Core.List.{List}
use Prim.Native.Nat.{ℕ, ◌≤◌, ◌<◌}
use native.Mathlib.Decide.{dec_lt}
use native.Mathlib.Omega.{arith}
use lib.ListN.{length}
use Rattle.lists.specs.Sum.{sum_to}
use Rattle.lists.proofs.Sums.{sum_some, sum_part, sum_pair, sum_one}
use Rattle.lists.proofs.Totals.{total, total_sum}
use Rattle.bin_section.specs.declared.width_height_depth.WidthHeightDepth.{WidthHeightDepth}
use Rattle.bin_section.specs.declared.section.BinSection.{BinSection}
use Rattle.bin_section.specs.Section.{zero_section}
use Rattle.bin_section.specs.Cell.{HasCell}
use Rattle.cells.specs.Whole.{box_at, AllInside, Apart, InChamber, InOneBox, Whole}
use Rattle.cells.proofs.Grid.{has, has_le, has_in, has_pos}

-- in how many boxes of the list the cell lies
abbrev pub held : List BinSection → ℕ → ℕ → ℕ → ℕ
held bs cx cy cz = total (λ b. has b cx cy cz) bs

-- ---- one cell

module _ (boxes : List BinSection) (cx cy cz : ℕ) where
  abbrev at : ℕ → ℕ
  at i = has (box_at boxes i) cx cy cz

  -- index by index
  held_sum : held boxes cx cy cz ≡ sum_to (length boxes) at
  held_sum = total_sum (λ b. has b cx cy cz) zero_section boxes

  -- a box that has the cell is counted
  pub held_some : (i : ℕ) → i < length boxes → HasCell (box_at boxes i) cx cy cz → 0 < held boxes cx cy cz
  held_some i h p =
      omega (arith, held_sum, has_in (box_at boxes i) cx cy cz p, sum_part (length boxes) at i h)

  -- and some box has a cell that is counted
  pub held_found : 0 < held boxes cx cy cz → (i : ℕ) × (i < length boxes) × HasCell (box_at boxes i) cx cy cz
  held_found l =
      let r = sum_some (length boxes) at (omega (arith, held_sum)) in
      (r.0, r.1, has_pos (box_at boxes r.0) cx cy cz r.2)

  -- two boxes that have it are counted twice
  held_two : (i j : ℕ) → i < j → j < length boxes → HasCell (box_at boxes i) cx cy cz → HasCell (box_at boxes j) cx cy cz → 2 ≤ held boxes cx cy cz
  held_two i j l h p q =
      omega (
        arith,
        held_sum,
        has_in (box_at boxes i) cx cy cz p,
        has_in (box_at boxes j) cx cy cz q,
        sum_pair (length boxes) at i j l h,
      )

  -- once at most where no two boxes that have it stand at different indices
  held_at_most : ((i j : ℕ) → i < j → j < length boxes → HasCell (box_at boxes i) cx cy cz → HasCell (box_at boxes j) cx cy cz → ⊥) → held boxes cx cy cz ≤ 1
  held_at_most never =
      rw (held_sum)
      (sum_one (length boxes) at (λ i h. has_le (box_at boxes i) cx cy cz)
      (λ i j l h p q. never i j l h (has_pos (box_at boxes i) cx cy cz p) (has_pos (box_at boxes j) cx cy cz q)))

  held→one : held boxes cx cy cz ≡ 1 → InOneBox boxes cx cy cz
  held→one e =
      let r = held_found (omega arith) in
      let k = r.0 in
      let holds : HasCell (box_at boxes k) cx cy cz = r.2 in
      record {
        index = k;
        below = r.1;
        holds = holds;
        only = λ i h p.
            elim (dec_lt i k) [
              | yes l ↦ absurd (omega (arith, held_two i k l r.1 p holds))
              | no l ↦ elim (dec_lt k i) [ yes m ↦ absurd (omega (arith, held_two k i m h holds p)) | no m ↦ omega arith ]
            ];
      }

  one→held : InOneBox boxes cx cy cz → held boxes cx cy cz ≡ 1
  one→held o =
      omega (
        arith,
        held_some o.index o.below o.holds,
        held_at_most (λ i j l h p q. omega (arith, o.only i (omega arith) p, o.only j h q)),
      )

-- ---- all cells

-- boxes of which no two share a cell: no cell is counted twice
pub apart_once : (boxes : List BinSection) → Apart boxes → (cx cy cz : ℕ) → held boxes cx cy cz ≤ 1
apart_once boxes apart cx cy cz =
    held_at_most boxes cx cy cz
    (λ i j l h p q. apart.at i j l h (record { cx = cx; cy = cy; cz = cz; first = p; second = q }))

-- and where no cell is, no two share one
pub once_apart : (boxes : List BinSection) → ((cx cy cz : ℕ) → held boxes cx cy cz ≤ 1) → Apart boxes
once_apart boxes once =
    record { at = λ i j l h s. omega (arith, once s.cx s.cy s.cz, held_two boxes s.cx s.cy s.cz i j l h s.first s.second) }

-- each box lies inside, and each cell of the chamber is counted once
pub record HeldOnce (whd : WidthHeightDepth) (boxes : List BinSection) : Type 0 where
  pub inside : AllInside whd boxes
  pub once : (cx cy cz : ℕ) → InChamber whd cx cy cz → held boxes cx cy cz ≡ 1

pub whole_held : (whd : WidthHeightDepth) (boxes : List BinSection) → Whole whd boxes ↔ HeldOnce whd boxes
whole_held whd boxes = (
  λ w. record { inside = w.inside; once = λ cx cy cz h. one→held boxes cx cy cz (w.exactly cx cy cz h) },
  λ w. record { inside = w.inside; exactly = λ cx cy cz h. held→one boxes cx cy cz (w.once cx cy cz h) },
)

-- other boxes in which each cell lies as often
pub whole_same : (whd : WidthHeightDepth) (s t : List BinSection) → Whole whd s → AllInside whd t
    → ((cx cy cz : ℕ) → InChamber whd cx cy cz → held t cx cy cz ≡ held s cx cy cz) → Whole whd t
whole_same whd s t w inside same =
    (whole_held whd t).1
    (record { inside = inside; once = λ cx cy cz h. same cx cy cz h ∙ ((whole_held whd s).0 w).once cx cy cz h })
