-- Unit cells: what it means that a cell lies in a box, that two boxes share a cell, and that they have a common box.
use Rattle.std.specs.Prelude.{ℕ, ◌+◌, ◌≤◌, ◌<◌, ◌↔◌, Option, Some, None}
use Rattle.bin_section.specs.declared.section.BinSection.{BinSection}

-- c is one of the s numbers from o on
abbrev pub Within : ℕ → ℕ → ℕ → Type 0
Within o s c = (o ≤ c) × (c < o + s)

-- the unit cell at cx, cy, cz lies in the box
pub record HasCell (b : BinSection) (cx cy cz : ℕ) : Type 0 where
  pub along_X : Within b.x b.whd.width cx
  pub along_Y : Within b.y b.whd.height cy
  pub along_Z : Within b.z b.whd.depth cz

-- "two boxes share a cell"
pub record SharesCell (a b : BinSection) : Type 0 where
  pub cx : ℕ
  pub cy : ℕ
  pub cz : ℕ
  pub first : HasCell a cx cy cz
  pub second : HasCell b cx cy cz

-- "the common box": it has all the cells that two boxes share, and no other, and it has no zero side
pub record SharedSpace (a b box : BinSection) : Type 0 where
  pub wide : 0 < box.whd.width
  pub tall : 0 < box.whd.height
  pub deep : 0 < box.whd.depth
  pub cells : (cx cy cz : ℕ) → HasCell box cx cy cz ↔ (HasCell a cx cy cz × HasCell b cx cy cz)

-- "the common box, or none": what each case of the overlap test's answer means
abbrev pub CommonMeans : BinSection → BinSection → Option BinSection → Type 0
CommonMeans a b (Some box) = SharedSpace a b box
CommonMeans a b None = ¬ (SharesCell a b)
