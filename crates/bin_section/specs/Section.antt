-- A section and its six words.
use Rattle.std.specs.Prelude.{ℕ, ◌+◌, ◌*◌, List, [], ◌∷◌, get_or}
use Rattle.bin_section.specs.declared.width_height_depth.WidthHeightDepth.{WidthHeightDepth}
use Rattle.bin_section.specs.declared.section.BinSection.{BinSection}
use Rattle.bin_section.specs.Sides.{sides}

abbrev pub section : ℕ → ℕ → ℕ → WidthHeightDepth → BinSection
section x y z whd = record { x = x; y = y; z = z; whd = whd }

-- "the first section to the whole chamber at 0,0,0"
abbrev pub whole_section : WidthHeightDepth → BinSection
whole_section whd = section 0 0 0 whd

-- "zero sections"
abbrev pub zero_section : BinSection
zero_section = whole_section (sides 0 0 0)

-- "6 words (x, y, z, width, height, depth)": the section that stands at an index of a list of words
unfoldable pub section_at : List ℕ → ℕ → BinSection
section_at w i =
    section (get_or w (i * 6) 0) (get_or w (i * 6 + 1) 0) (get_or w (i * 6 + 2) 0)
    (sides (get_or w (i * 6 + 3) 0) (get_or w (i * 6 + 4) 0) (get_or w (i * 6 + 5) 0))

abbrev pub section_words : BinSection → List ℕ
section_words s = s.x ∷ s.y ∷ s.z ∷ s.whd.width ∷ s.whd.height ∷ s.whd.depth ∷ []
