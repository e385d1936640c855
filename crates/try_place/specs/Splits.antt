-- "The six splits"
use Rattle.std.specs.Prelude.{◌+◌, ◌-◌, List, [], ◌∷◌}
use Rattle.bin_section.specs.declared.width_height_depth.WidthHeightDepth.{WidthHeightDepth}
use Rattle.bin_section.specs.declared.rect_to_insert.RectToInsert.{RectToInsert}
use Rattle.bin_section.specs.declared.section.BinSection.{BinSection}
use Rattle.bin_section.specs.Sides.{sides}
use Rattle.bin_section.specs.Section.{section}

-- "Right boxes start at x+w, above boxes at y+h, behind boxes at z+d, other coordinates unchanged."
abbrev pub split_of : BinSection → RectToInsert → WidthHeightDepth → WidthHeightDepth → WidthHeightDepth → List BinSection
split_of s r right above behind =
    section (s.x + r.whd.width) s.y s.z right
    ∷ section s.x (s.y + r.whd.height) s.z above
    ∷ section s.x s.y (s.z + r.whd.depth) behind
    ∷ []

-- "For section sides W,H,D and rectangle w,h,d, write rw=W-w, rh=H-h, rd=D-d", and the table of 01: right, above, behind
unfoldable pub six_splits : BinSection → RectToInsert → List (List BinSection)
six_splits s r =
    let W = s.whd.width in
    let H = s.whd.height in
    let D = s.whd.depth in
    let w = r.whd.width in
    let h = r.whd.height in
    let d = r.whd.depth in
    let rw' = W - w in
    let rh = H - h in
    let rd = D - d in
    split_of s r (sides rw' H D) (sides w rh D) (sides w h rd)
    ∷ split_of s r (sides rw' h D) (sides W rh D) (sides w h rd)
    ∷ split_of s r (sides rw' H D) (sides w rh d) (sides w H rd)
    ∷ split_of s r (sides rw' H d) (sides w rh d) (sides W H rd)
    ∷ split_of s r (sides rw' h d) (sides W rh D) (sides W h rd)
    ∷ split_of s r (sides rw' h d) (sides W rh d) (sides W H rd)
    ∷ []
