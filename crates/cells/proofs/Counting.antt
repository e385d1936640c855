-- The counting law: boxes that lie inside and share no cell fill the chamber exactly when their volumes sum to its volume.
use mathlib.Core.Path.{◌≡◌, sym, ap₂, ◌∙◌}
use mathlib.Core.Logic.{◌↔◌}
use mathlib.Core.List.{List, [], ◌∷◌}
use Prim.Native.Nat.{ℕ, suc, ◌+◌, ◌≤◌, ◌<◌}
use native.Mathlib.Omega.{arith}
use lib.ListN.{length}
use Rattle.lists.proofs.Totals.{total}
use Rattle.bin_section.specs.declared.width_height_depth.WidthHeightDepth.{WidthHeightDepth}
use Rattle.bin_section.specs.declared.section.BinSection.{BinSection}
use Rattle.bin_section.specs.Sides.{volume_of}
use Rattle.bin_section.specs.Cell.{SharesCell}
use Rattle.cells.specs.Whole.{box_at, Inside, AllInside, Apart, Whole, Gap, volumes}
use Rattle.cells.proofs.Grid.{cells, has, has_cells, cells_zero, cells_add, cells_most, cells_full, cells_all, cells_less}
use Rattle.cells.proofs.Held.{held, held_some, apart_once, whole_held}

module _ (whd : WidthHeightDepth) where
  -- counted cell by cell and box by box
  pub held_cells : (boxes : List BinSection) → AllInside whd boxes → cells whd (held boxes) ≡ volumes boxes
  unfolding total volumes
  held_cells [] p = cells_zero whd
  held_cells (b ∷ bs) p =
      cells_add whd (has b) (held bs)
      ∙ ap₂ (λ (u v : ℕ). u + v) (has_cells whd b (p.at 0 (omega arith)))
      (held_cells bs (record { at = λ i h. p.at (suc i) (omega arith) }))

module _ (whd : WidthHeightDepth) (boxes : List BinSection) where
  -- a chamber that is whole
  whole→apart : Whole whd boxes → Apart boxes
  whole→apart w = record { at = λ i j l h s. go i j l h s (w.inside.at i (omega arith)) }
    where
      go : (i j : ℕ) → i < j → j < length boxes → SharesCell (box_at boxes i) (box_at boxes j) → Inside whd (box_at boxes i) → ⊥
      go i j l h s inside =
          let p = s.first in
          let o = w.exactly s.cx s.cy s.cz (record { in_X = omega arith; in_Y = omega arith; in_Z = omega arith }) in
          omega (arith, o.only i (omega arith) p, o.only j h s.second)

  whole→sum : Whole whd boxes → volumes boxes ≡ volume_of whd
  whole→sum w = sym (held_cells whd boxes w.inside) ∙ cells_all whd (held boxes) ((whole_held whd boxes).0 w).once

  module _ (inside : AllInside whd boxes) (apart : Apart boxes) where
    pub volumes_fit : volumes boxes ≤ volume_of whd
    volumes_fit = rw (← held_cells whd boxes inside) (cells_most whd (held boxes) (apart_once boxes apart))

    pub sum→whole : volumes boxes ≡ volume_of whd → Whole whd boxes
    sum→whole e =
        (whole_held whd boxes).1
        (record { inside = inside; once = cells_full whd (held boxes) (apart_once boxes apart) (held_cells whd boxes inside ∙ e) })

    -- and else a cell is in no box
    pub less→gap : volumes boxes < volume_of whd → Gap whd boxes
    less→gap l =
        let r = cells_less whd (held boxes) (rw (held_cells whd boxes inside) l) in
        record {
          cx = r.cx;
          cy = r.cy;
          cz = r.cz;
          cell = r.cell;
          free = λ i h p. omega (arith, r.short, held_some boxes r.cx r.cy r.cz i h p);
        }

  -- what a test of boxes and volumes finds
  pub record Filled : Type 0 where
    pub inside : AllInside whd boxes
    pub apart : Apart boxes
    pub sum : volumes boxes ≡ volume_of whd

  pub whole_filled : Whole whd boxes ↔ Filled
  whole_filled = (
    λ w. record { inside = w.inside; apart = whole→apart w; sum = whole→sum w },
    λ f. sum→whole f.inside f.apart f.sum,
  )

  -- a whole chamber has no cell that is in no box
  pub whole_no_gap : Whole whd boxes → ¬ (Gap whd boxes)
  whole_no_gap w g =
      let o = w.exactly g.cx g.cy g.cz g.cell in
      g.free o.index o.below o.holds
