-- What was free before a placement is free after it or lies in the rectangle placed: for one rectangle, and for a group in one chamber.
use Prim.Native.Nat.{ℕ, ◌+◌}
use mathlib.Core.Path.{◌≡◌, sym, ap, subst}
use mathlib.Core.List.{List, [], ◌∷◌}
use native.Mathlib.Omega.{arith}
use lib.ListN.{length, get_or}
use Rattle.lists.specs.Tab.{remove_at}
use Rattle.lists.specs.Sort.{Each, none, also}
use Rattle.lists.proofs.Sorts.{each_append, each_at}
use Rattle.bin_section.specs.declared.width_height_depth.WidthHeightDepth.{WidthHeightDepth}
use Rattle.bin_section.specs.declared.rect_to_insert.RectToInsert.{RectToInsert}
use Rattle.bin_section.specs.declared.section.BinSection.{BinSection}
use Rattle.bin_section.specs.Leaning.{Small}
use Rattle.bin_section.specs.Section.{section, zero_section}
use Rattle.cells.specs.Whole.{Inside}
use Rattle.cells.proofs.Grid.{has}
use Rattle.lists.proofs.Totals.{total, total_append, total_removed}
use Rattle.cells.proofs.Held.{held}
use Rattle.try_place.specs.declared.packed_location.PackedLocation.{PackedLocation}
use Rattle.try_place.specs.Splits.{six_splits}
use Rattle.try_place.specs.Choice.{chosen}
use Rattle.try_place.specs.Try.{Fits, chosen_three}
use Rattle.packing_rules.specs.Appended.{appended_of}
use Rattle.try_place.proofs.Meaning.{chosen_below}
use Rattle.packing_rules.specs.Rules.{placed, place_one}
use Rattle.packing_rules.proofs.Left.{Sided, one_left, inside_reachable, inside_passes}
use Rattle.packing_rules.proofs.Placings.{PlacedAt, placed_at, Placings, no_more, then}
use Rattle.custody.proofs.Cut.{corner_box, row_cut, held_appended}

-- the box of a location, with the rectangle's sides
abbrev pub box_at_location : PackedLocation → WidthHeightDepth → BinSection
box_at_location l whd = section l.x l.y l.z whd

-- ---- one rectangle

-- each cell of the free sections is in a box placed or free still, and all of these lie inside
pub record CellsKept (whd : WidthHeightDepth) (free : List BinSection) (boxes free' : List BinSection) : Type 0 where
  pub cells : (cx cy cz : ℕ) → held boxes cx cy cz + held free' cx cy cz ≡ held free cx cy cz
  pub placed_inside : Each (Inside whd) boxes
  pub free_in : Each (Inside whd) free'

module _ (whd : WidthHeightDepth) (small : Small whd) where
  pub one_kept :
      (free : List BinSection) (r : RectToInsert) (l : PackedLocation) (free' : List BinSection)
      → Each (Inside whd) free
      → Sided r.whd
      → place_one free r ≡ placed l free'
      → CellsKept whd free (box_at_location l r.whd ∷ []) free'
  unfolding total
  one_kept free r l free' ins sided e = go (placed_at free r l free' e)
    where
      go : (i : ℕ) × PlacedAt free r l free' (length free) i → CellsKept whd free (box_at_location l r.whd ∷ []) free'
      go (i, p) =
          let s : BinSection = get_or free i zero_section in
          let q : Inside whd s = each_at ins i zero_section p.within in
          let fits : Fits s r = p.fits in
          let box : corner_box s r ≡ box_at_location l r.whd = ap (λ (m : PackedLocation). box_at_location m r.whd) (sym p.here) in
          let in_box : Inside whd (corner_box s r) =
          record { wide = sided.wide; tall = sided.tall; deep = sided.deep; right = omega arith; above = omega arith; behind = omega arith } in
          record {
            cells = λ cx cy cz.
                omega (
                  arith,
                  ap (λ (f : List BinSection). held f cx cy cz) p.left,
                  total_append (λ b. has b cx cy cz) (remove_at i free) (appended_of (chosen_three s r)),
                  held_appended (chosen_three s r) cx cy cz,
                  row_cut s r fits cx cy cz (chosen (six_splits s r)) (chosen_below (six_splits s r)),
                  ap (λ (b : BinSection). has b cx cy cz) box,
                  total_removed (λ b. has b cx cy cz) i zero_section free p.within,
                );
            placed_inside = also {x = box_at_location l r.whd} (subst (λ (b : BinSection). Inside whd b) box in_box) none;
            free_in = one_left (Inside whd) (inside_reachable whd small) (inside_passes whd) free r l free' e ins;
          }

-- ---- a group in one chamber

-- the boxes of the rectangles at their locations
unfoldable pub boxes_at : List RectToInsert → List PackedLocation → List BinSection
boxes_at [] ls = []
boxes_at (r ∷ rs) [] = []
boxes_at (r ∷ rs) (l ∷ ls) = box_at_location l r.whd ∷ boxes_at rs ls

module _ (whd : WidthHeightDepth) (small : Small whd) where
  pub group_kept :
      {free free' : List BinSection} {rs : List RectToInsert} {ls : List PackedLocation}
      → Each (Inside whd) free
      → Each (λ r. Sided r.whd) rs
      → Placings free rs ls free'
      → CellsKept whd free (boxes_at rs ls) free'
  unfolding boxes_at total
  group_kept ins sided (no_more {free}) =
      record { cells = λ cx cy cz. omega arith; placed_inside = none; free_in = ins }
  group_kept ins (also s ss) (then {free} {mid} {free'} {r} {rs} {l} {ls} e p) =
      let one = one_kept whd small free r l mid ins s e in
      let rest = group_kept one.free_in ss p in
      record {
        cells = λ cx cy cz. omega (arith, one.cells cx cy cz, rest.cells cx cy cz);
        placed_inside = each_append one.placed_inside rest.placed_inside;
        free_in = rest.free_in;
      }
