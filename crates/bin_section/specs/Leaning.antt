-- What functions below the jobs lean on and leave. No job's contract cites it, and a reader of the rules needs none of it.
use Rattle.std.specs.Prelude.{◌≤◌}
use Rattle.bin_section.specs.declared.width_height_depth.WidthHeightDepth.{WidthHeightDepth}

-- no side is above 65,535
pub record Small (s : WidthHeightDepth) : Type 0 where
  pub width_small : s.width ≤ 65535
  pub height_small : s.height ≤ 65535
  pub depth_small : s.depth ≤ 65535
