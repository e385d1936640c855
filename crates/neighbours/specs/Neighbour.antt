-- Two boxes that join into one box: whether they do, and the joined box. The joined box has their cells and no other
-- (`joined_cells`, proofs/Neighbouring.antt). Two boxes with no zero side that share no cell join exactly where some box has the cells of both and
-- no other (`joins_exact`, proofs/Exact.antt).
use Rattle.std.specs.Prelude.{ℕ, ◌+◌, ◌-◌, min, max, Bool, ◌&&◌, ◌||◌, eqb}
use Rattle.bin_section.specs.declared.section.BinSection.{BinSection}
use Rattle.bin_section.specs.Sides.{sides}
use Rattle.bin_section.specs.Section.{section}

-- along one axis: "equal origin and sides"
unfoldable pub spans_equal : ℕ → ℕ → ℕ → ℕ → Bool
spans_equal o₁ s₁ o₂ s₂ = eqb o₁ o₂ && eqb s₁ s₂

-- along one axis: "touching", either way round: one ends where the other starts
unfoldable pub spans_touch : ℕ → ℕ → ℕ → ℕ → Bool
spans_touch o₁ s₁ o₂ s₂ = eqb (o₁ + s₁) o₂ || eqb (o₂ + s₂) o₁

-- "two free sections join into one box (equal origin and sides on two axes, touching on the third)"
unfoldable pub joins_of : BinSection → BinSection → Bool
joins_of a b =
    let equal_X = spans_equal a.x a.whd.width b.x b.whd.width in
    let equal_Y = spans_equal a.y a.whd.height b.y b.whd.height in
    let equal_Z = spans_equal a.z a.whd.depth b.z b.whd.depth in
    let touch_X = spans_touch a.x a.whd.width b.x b.whd.width in
    let touch_Y = spans_touch a.y a.whd.height b.y b.whd.height in
    let touch_Z = spans_touch a.z a.whd.depth b.z b.whd.depth in
    (touch_X && (equal_Y && equal_Z)) || ((equal_X && (touch_Y && equal_Z)) || (equal_X && (equal_Y && touch_Z)))

-- along one axis, how far it is from the earlier start to the later end
unfoldable pub joined_side : ℕ → ℕ → ℕ → ℕ → ℕ
joined_side o₁ s₁ o₂ s₂ = max (o₁ + s₁) (o₂ + s₂) - min o₁ o₂

-- "the joined box": on each axis from the earlier start to the later end
unfoldable pub joined_box : BinSection → BinSection → BinSection
joined_box a b =
    section (min a.x b.x) (min a.y b.y) (min a.z b.z)
    (sides
    (joined_side a.x a.whd.width b.x b.whd.width)
    (joined_side a.y a.whd.height b.y b.whd.height)
    (joined_side a.z a.whd.depth b.z b.whd.depth))
