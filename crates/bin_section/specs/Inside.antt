-- Inside a chamber: the test, and what it means. That the test is exact is proved beside it (proofs/Bounding.antt).
use Rattle.std.specs.Prelude.{ℕ, ◌+◌, ◌≤◌, ◌<◌, Bool, ◌&&◌, not, ltb, leb}
use Rattle.bin_section.specs.declared.section.BinSection.{BinSection}
use Rattle.bin_section.specs.declared.width_height_depth.WidthHeightDepth.{WidthHeightDepth}

-- along one axis: the side is not 0, and origin plus side is not past the room. The sum is one of whole numbers.
unfoldable pub span_inside : ℕ → ℕ → ℕ → Bool
span_inside origin side room = ltb 0 side && leb (origin + side) room

-- not "a zero side or reaches past the chamber", on each axis
unfoldable pub inside_of : WidthHeightDepth → BinSection → Bool
inside_of whd s =
    span_inside s.x s.whd.width whd.width
    && (span_inside s.y s.whd.height whd.height && span_inside s.z s.whd.depth whd.depth)

-- "a zero side or reaches past the chamber"
abbrev pub outside : WidthHeightDepth → BinSection → Bool
outside whd s = not (inside_of whd s)

-- "lies inside with no zero side"
pub record Inside (whd : WidthHeightDepth) (b : BinSection) : Type 0 where
  pub wide : 0 < b.whd.width
  pub tall : 0 < b.whd.height
  pub deep : 0 < b.whd.depth
  pub right : b.x + b.whd.width ≤ whd.width
  pub above : b.y + b.whd.height ≤ whd.height
  pub behind : b.z + b.whd.depth ≤ whd.depth
