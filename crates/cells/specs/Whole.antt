-- What it means in unit cells that a list of boxes fills a chamber.
use Rattle.std.specs.Prelude.{◌≡◌, List, ℕ, ◌<◌, length}
use Rattle.bin_section.specs.declared.width_height_depth.WidthHeightDepth.{WidthHeightDepth}
use Rattle.bin_section.specs.declared.section.BinSection.{BinSection}
use Rattle.bin_section.specs.Cell.{HasCell, SharesCell}
pub use Rattle.bin_section.specs.Inside.{Inside}
pub use Rattle.bin_section.specs.Boxes.{box_at}
unfoldable pub use Rattle.bin_section.specs.Boxes.{volumes}

-- each box of the list "lies inside with no zero side"
pub record AllInside (whd : WidthHeightDepth) (boxes : List BinSection) : Type 0 where
  pub at : (i : ℕ) → i < length boxes → Inside whd (box_at boxes i)

-- no box "shares a cell with an earlier one"
pub record Apart (boxes : List BinSection) : Type 0 where
  pub at : (i j : ℕ) → i < j → j < length boxes → ¬ (SharesCell (box_at boxes i) (box_at boxes j))

-- the unit cell at cx, cy, cz is one of the chamber's
pub record InChamber (whd : WidthHeightDepth) (cx cy cz : ℕ) : Type 0 where
  pub in_X : cx < whd.width
  pub in_Y : cy < whd.height
  pub in_Z : cz < whd.depth

-- the cell "lies in exactly one box"
pub record InOneBox (boxes : List BinSection) (cx cy cz : ℕ) : Type 0 where
  pub index : ℕ
  pub below : index < length boxes
  pub holds : HasCell (box_at boxes index) cx cy cz
  pub only : (i : ℕ) → i < length boxes → HasCell (box_at boxes i) cx cy cz → i ≡ index

-- "each lies inside with no zero side and each unit cell lies in exactly one box"
pub record Whole (whd : WidthHeightDepth) (boxes : List BinSection) : Type 0 where
  pub inside : AllInside whd boxes
  pub exactly : (cx cy cz : ℕ) → InChamber whd cx cy cz → InOneBox boxes cx cy cz

-- "a cell is in no box"
pub record Gap (whd : WidthHeightDepth) (boxes : List BinSection) : Type 0 where
  pub cx : ℕ
  pub cy : ℕ
  pub cz : ℕ
  pub cell : InChamber whd cx cy cz
  pub free : (i : ℕ) → i < length boxes → ¬ (HasCell (box_at boxes i) cx cy cz)
