-- What remains of a section beside a rectangle lies within the section.
use Prim.Native.Nat.{ℕ, ◌+◌, ◌≤◌, ◌<◌}
use mathlib.Core.Path.{◌≡◌, refl}
use mathlib.Core.List.{List, []}
use native.Mathlib.Omega.{arith}
use lib.ListN.{length, get_or}
use Rattle.bin_section.specs.declared.rect_to_insert.RectToInsert.{RectToInsert}
use Rattle.bin_section.specs.declared.section.BinSection.{BinSection}
use Rattle.bin_section.specs.Section.{zero_section}
use Rattle.try_place.specs.Splits.{six_splits}
use Rattle.try_place.specs.Leaning.{Fitting, SmallBoxes, Reachable}
use Rattle.try_place.specs.Choice.{chosen}
use Rattle.try_place.specs.Try.{chosen_three}
use Rattle.try_place.proofs.Six.{of_six}
use Rattle.try_place.proofs.Meaning.{chosen_below}

-- b does not reach past s on any side
pub record BoxWithin (s b : BinSection) : Type 0 where
  pub x_low : s.x ≤ b.x
  pub y_low : s.y ≤ b.y
  pub z_low : s.z ≤ b.z
  pub x_high : b.x + b.whd.width ≤ s.x + s.whd.width
  pub y_high : b.y + b.whd.height ≤ s.y + s.whd.height
  pub z_high : b.z + b.whd.depth ≤ s.z + s.whd.depth

pub record ThreeWithin (s : BinSection) (t : List BinSection) : Type 0 where
  pub first : BoxWithin s (get_or t 0 zero_section)
  pub second : BoxWithin s (get_or t 1 zero_section)
  pub third : BoxWithin s (get_or t 2 zero_section)

pub row_within : (s : BinSection) (r : RectToInsert) → Fitting s r → (k : ℕ) → k < 6 → ThreeWithin s (get_or (six_splits s r) k [])
unfolding six_splits
row_within s r f =
    of_six (λ k. ThreeWithin s (get_or (six_splits s r) k [])) (omega arith) (omega arith) (omega arith) (omega arith) (omega arith) (omega arith)

pub row_long : (s : BinSection) (r : RectToInsert) (k : ℕ) → k < 6 → length (get_or (six_splits s r) k []) ≡ 3
unfolding six_splits
row_long s r = of_six (λ k. length (get_or (six_splits s r) k []) ≡ 3) refl refl refl refl refl refl

module _ (s : BinSection) (r : RectToInsert) where
  -- the chosen three
  pub chosen_long : length (chosen_three s r) ≡ 3
  chosen_long = row_long s r (chosen (six_splits s r)) (chosen_below (six_splits s r))

  module _ (f : Fitting s r) where
    pub chosen_within : ThreeWithin s (chosen_three s r)
    chosen_within = row_within s r f (chosen (six_splits s r)) (chosen_below (six_splits s r))

    pub chosen_small : SmallBoxes (chosen_three s r)
    chosen_small = let w = chosen_within in omega arith

pub within_reachable : (s b : BinSection) → Reachable s → BoxWithin s b → Reachable b
within_reachable s b p w = omega arith
