-- A rectangle and its words in the lent table.
use Rattle.std.specs.Prelude.{ℕ, ◌+◌, ◌*◌, ◌/◌, List, [], ◌∷◌, length, get_or}
use Rattle.bin_section.specs.Sides.{sides}
use Rattle.grouped_rects_to_place.specs.declared.rect_to_place.RectToPlace.{RectToPlace}

-- "Rectangle record, 5 words: id, group (0 for none), width, height, depth"
abbrev pub rect_width : ℕ
rect_width = 5

-- the rectangle that stands at an index of the table
unfoldable pub rect_at : List ℕ → ℕ → RectToPlace
rect_at w i =
    record {
      id = get_or w (i * rect_width) 0;
      group = get_or w (i * rect_width + 1) 0;
      whd = sides (get_or w (i * rect_width + 2) 0) (get_or w (i * rect_width + 3) 0) (get_or w (i * rect_width + 4) 0);
    }

abbrev pub rect_words : RectToPlace → List ℕ
rect_words r = r.id ∷ r.group ∷ r.whd.width ∷ r.whd.height ∷ r.whd.depth ∷ []

-- how many rectangles a table has
abbrev pub rect_count : List ℕ → ℕ
rect_count rects = length rects / rect_width
