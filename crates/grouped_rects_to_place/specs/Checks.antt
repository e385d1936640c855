-- Checks 4 and 5, at an index of a table of rectangles.
use Rattle.std.specs.Prelude.{ℕ, Bool, not, eqb}
use Rattle.lists.specs.Lowest.{any_below}
use Rattle.bin_section.specs.Sides.{sides_ok}
use Rattle.grouped_rects_to_place.specs.declared.rect_to_place.RectToPlace.{RectToPlace}

-- 4: "rectangle side 0 or above 65,535"
unfoldable pub bad_rect : (ℕ → RectToPlace) → ℕ → Bool
bad_rect r i = not (sides_ok (r i).whd)

-- 5: "a rectangle id stands at an earlier index too"
unfoldable pub repeated_id : (ℕ → RectToPlace) → ℕ → Bool
repeated_id r i = any_below i (λ j. eqb (r j).id (r i).id)
