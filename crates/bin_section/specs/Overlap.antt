-- The overlap test: whether two boxes share a cell, and the common box that it answers. That both are exact is proved beside them
-- (proofs/Sharing.antt).
use Rattle.std.specs.Prelude.{ℕ, ◌+◌, ◌-◌, min, max, Bool, ◌&&◌, cond, List, ltb, Option, Some, None, unwrap_or}
use Rattle.bin_section.specs.declared.section.BinSection.{BinSection}
use Rattle.bin_section.specs.Sides.{sides}
use Rattle.bin_section.specs.Section.{section, section_words, zero_section}

-- along one axis the later start comes before the earlier end
unfoldable pub spans_meet : ℕ → ℕ → ℕ → ℕ → Bool
spans_meet o₁ s₁ o₂ s₂ = ltb (max o₁ o₂) (min (o₁ + s₁) (o₂ + s₂))

-- "whether two boxes share a cell", on each axis
unfoldable pub overlaps_of : BinSection → BinSection → Bool
overlaps_of a b =
    spans_meet a.x a.whd.width b.x b.whd.width
    && (spans_meet a.y a.whd.height b.y b.whd.height
    && spans_meet a.z a.whd.depth b.z b.whd.depth)

-- along one axis, how far it is from the later start to the earlier end; 0 where the end comes first
unfoldable pub common_side : ℕ → ℕ → ℕ → ℕ → ℕ
common_side o₁ s₁ o₂ s₂ = min (o₁ + s₁) (o₂ + s₂) - max o₁ o₂

-- "the common box" of two boxes that share a cell: on each axis from the later start to the earlier end
unfoldable pub common_box : BinSection → BinSection → BinSection
common_box a b =
    section (max a.x b.x) (max a.y b.y) (max a.z b.z)
    (sides
    (common_side a.x a.whd.width b.x b.whd.width)
    (common_side a.y a.whd.height b.y b.whd.height)
    (common_side a.z a.whd.depth b.z b.whd.depth))

-- "The overlap test shall answer the common box, or none."
unfoldable pub common_of : BinSection → BinSection → Option BinSection
common_of a b = cond (overlaps_of a b) (Some (common_box a b)) None

-- an answer as a box: the zero section where there is none
abbrev pub box_of : Option BinSection → BinSection
box_of c = unwrap_or c zero_section

-- "6 words (x, y, z, width, height, depth)", six zeros where there is none
abbrev pub common_words : Option BinSection → List ℕ
common_words c = section_words (box_of c)
