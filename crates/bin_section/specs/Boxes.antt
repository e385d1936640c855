-- Lists of boxes: the box at an index, and the sum of their volumes.
use Rattle.std.specs.Prelude.{ℕ, ◌+◌, List, [], ◌∷◌, get_or}
use Rattle.bin_section.specs.declared.section.BinSection.{BinSection}
use Rattle.bin_section.specs.Sides.{volume_of}
use Rattle.bin_section.specs.Section.{zero_section}

-- the box at an index of the list
abbrev pub box_at : List BinSection → ℕ → BinSection
box_at boxes i = get_or boxes i zero_section

-- the sum of the boxes' volumes
unfoldable pub volumes : List BinSection → ℕ
volumes [] = 0
volumes (b ∷ bs) = volume_of b.whd + volumes bs
