-- What a table has that passes check 4.
use Prim.Native.Nat.{ℕ, ◌≤◌, ◌<◌}
use mathlib.Core.List.{List}
use borrow.Author.Tests.{not-false}
use Rattle.lists.proofs.Lowests.{None}
use Rattle.bin_section.specs.Sides.{sides_ok}
use Rattle.bin_section.proofs.Ranges.{SidesInRange, sides→range, range→small}
use Rattle.grouped_rects_to_place.specs.declared.rect_to_place.RectToPlace.{RectToPlace}
use Rattle.grouped_rects_to_place.specs.Rect.{rect_at}
use Rattle.grouped_rects_to_place.specs.Leaning.{HasRects, GoodRects}
use Rattle.grouped_rects_to_place.specs.Checks.{bad_rect}

-- what check 4 leaves of each rectangle
pub rects_range : (r : ℕ → RectToPlace) (n : ℕ) → None n (bad_rect r) → (i : ℕ) → i < n → SidesInRange (r i).whd
unfolding bad_rect
rects_range r n ok i h = sides→range (r i).whd (not-false (sides_ok (r i).whd) (ok.at i h))

pub good_rects : (w : List ℕ) (n : ℕ) → n ≤ 63 → HasRects w n → None n (bad_rect (rect_at w)) → GoodRects w n
good_rects w n few long ok =
    record { few = few; long = long; small = λ i h. range→small _ (rects_range (rect_at w) n ok i h) }
