-- What functions below the jobs lean on and leave. No job's contract cites it, and a reader of the rules needs none of it.
use Rattle.std.specs.Prelude.{◌+◌, ◌≤◌, List, [], get_or}
use Rattle.bin_section.specs.declared.rect_to_insert.RectToInsert.{RectToInsert}
use Rattle.bin_section.specs.declared.section.BinSection.{BinSection}
use Rattle.bin_section.specs.Leaning.{Small}
use Rattle.bin_section.specs.Section.{zero_section}

-- the rectangle is no wider, taller or deeper than the section, which ends at 65,535 at most
pub record Fitting (s : BinSection) (r : RectToInsert) : Type 0 where
  pub x_end : s.x + s.whd.width ≤ 65535
  pub y_end : s.y + s.whd.height ≤ 65535
  pub z_end : s.z + s.whd.depth ≤ 65535
  pub width_fits : r.whd.width ≤ s.whd.width
  pub height_fits : r.whd.height ≤ s.whd.height
  pub depth_fits : r.whd.depth ≤ s.whd.depth

pub record SmallBoxes (t : List BinSection) : Type 0 where
  pub first : Small (get_or t 0 zero_section).whd
  pub second : Small (get_or t 1 zero_section).whd
  pub third : Small (get_or t 2 zero_section).whd

pub record SmallSplits (t : List (List BinSection)) : Type 0 where
  pub at0 : SmallBoxes (get_or t 0 [])
  pub at1 : SmallBoxes (get_or t 1 [])
  pub at2 : SmallBoxes (get_or t 2 [])
  pub at3 : SmallBoxes (get_or t 3 [])
  pub at4 : SmallBoxes (get_or t 4 [])
  pub at5 : SmallBoxes (get_or t 5 [])

-- what the code may lean on: the section ends at 65,535 at most
pub record Reachable (s : BinSection) : Type 0 where
  pub x_end : s.x + s.whd.width ≤ 65535
  pub y_end : s.y + s.whd.height ≤ 65535
  pub z_end : s.z + s.whd.depth ≤ 65535
