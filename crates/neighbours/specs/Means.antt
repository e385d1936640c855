-- What a join means for those who use the chamber: nothing is lost.
use Rattle.std.specs.Prelude.{ℕ, ◌<◌, ◌≡◌, ◌↔◌, List, false, length}
use Rattle.bin_section.specs.declared.section.BinSection.{BinSection}
use Rattle.bin_section.specs.declared.rect_to_insert.RectToInsert.{RectToInsert}
use Rattle.bin_section.specs.Boxes.{box_at, volumes}
use Rattle.bin_section.specs.Cell.{HasCell}
use Rattle.try_place.specs.Try.{Fits}
use Rattle.neighbours.specs.Neighbour.{joins_of}

-- some section of the list is so
pub record Some (P : BinSection → Type 0) (free : List BinSection) : Type 0 where
  pub index : ℕ
  pub below : index < length free
  pub holds : P (box_at free index)

-- the free sections of a chamber before a join, and afterwards
pub record JoinMeans (before after : List BinSection) : Type 0 where
  -- "as long as two free sections join into one box": afterwards no two join
  pub none_join : (i j : ℕ) → i < j → j < length after → joins_of (box_at after i) (box_at after j) ≡ false
  -- each cell lies in a free section exactly when it did before
  pub cells : (cx cy cz : ℕ) → Some (λ s. HasCell s cx cy cz) after ↔ Some (λ s. HasCell s cx cy cz) before
  -- the free volume is the same
  pub volume : volumes after ≡ volumes before
  -- every rectangle that fitted some free section fits one afterwards
  pub fits : (r : RectToInsert) → Some (λ s. Fits s r) before → Some (λ s. Fits s r) after
