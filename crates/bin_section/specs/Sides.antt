-- Sides and volume.
use Rattle.std.specs.Prelude.{ℕ, ◌*◌, Bool, ◌&&◌, List, ltb, leb, get_or}
use Rattle.bin_section.specs.declared.width_height_depth.WidthHeightDepth.{WidthHeightDepth}
use Rattle.bin_section.specs.declared.rect_to_insert.RectToInsert.{RectToInsert}

abbrev pub sides : ℕ → ℕ → ℕ → WidthHeightDepth
sides w h d = record { width = w; height = h; depth = d }

-- "three sides" in three words: width, height, depth
abbrev pub sides_in : List ℕ → WidthHeightDepth
sides_in w = sides (get_or w 0 0) (get_or w 1 0) (get_or w 2 0)

abbrev pub rectangle : ℕ → ℕ → ℕ → RectToInsert
rectangle w h d = record { whd = sides w h d }

-- "volume is width x height x depth in 64 bits"
abbrev pub volume_of : WidthHeightDepth → ℕ
volume_of s = s.width * s.height * s.depth

-- "Sides 1 to 65,535."
unfoldable pub side_ok : ℕ → Bool
side_ok side = ltb 0 side && leb side 65535

abbrev pub sides_ok : WidthHeightDepth → Bool
sides_ok s = side_ok s.width && (side_ok s.height && side_ok s.depth)
