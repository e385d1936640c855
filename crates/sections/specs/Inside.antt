-- Tests on the sections of a list: outside the chamber, a cell shared with a box or with an earlier section.
use Rattle.std.specs.Prelude.{ℕ, Bool, List}
use Rattle.lists.specs.Lowest.{any_below}
use Rattle.bin_section.specs.declared.section.BinSection.{BinSection}
use Rattle.bin_section.specs.declared.width_height_depth.WidthHeightDepth.{WidthHeightDepth}
use Rattle.bin_section.specs.Section.{section_at}
use Rattle.bin_section.specs.Boxes.{box_at}
use Rattle.bin_section.specs.Overlap.{overlaps_of}
use Rattle.bin_section.specs.Inside.{outside}

-- "has a zero side or reaches past the chamber", of the section at an index
abbrev pub outside_at : WidthHeightDepth → List ℕ → ℕ → Bool
outside_at whd w i = outside whd (section_at w i)

-- "shares a cell with the box", of the section at an index
abbrev pub shares_at : BinSection → List ℕ → ℕ → Bool
shares_at box w i = overlaps_of (section_at w i) box

-- "a box shares a cell with an earlier one", of the box at an index of a list
unfoldable pub shares_earlier : List BinSection → ℕ → Bool
shares_earlier boxes j = any_below j (λ i. overlaps_of (box_at boxes i) (box_at boxes j))
