-- What the replies of an audit mean in unit cells, past checks 1 and 2. It is proved in proofs/Means.antt.
use Rattle.std.specs.Prelude.{ℕ, ◌<◌, ◌≡◌, ◌⊎◌, ◌↔◌, List, length, take, Option, None}
use Rattle.bin_section.specs.declared.width_height_depth.WidthHeightDepth.{WidthHeightDepth}
use Rattle.bin_section.specs.declared.section.BinSection.{BinSection}
use Rattle.replies.specs.declared.reply.Reply.{Reply}
use Rattle.sections.specs.Common.{EarliestSpace, FirstToShare}
use Rattle.replies.specs.Replies.{reply}
use Rattle.cells.specs.Whole.{box_at, Inside, AllInside, Apart, Whole, Gap}

-- box i is the lowest that does not lie inside with no zero side
pub record FirstOutside (whd : WidthHeightDepth) (boxes : List BinSection) (i : ℕ) : Type 0 where
  pub below : i < length boxes
  pub before : (k : ℕ) → k < i → Inside whd (box_at boxes k)
  pub out : ¬ (Inside whd (box_at boxes i))

-- every box lies inside, and box j is the lowest that shares a cell with an earlier one
pub record FirstShared (whd : WidthHeightDepth) (boxes : List BinSection) (j : ℕ) : Type 0 where
  pub inside : AllInside whd boxes
  pub first : FirstToShare boxes j

-- "neither, but a cell is in no box"
pub record CellInNoBox (whd : WidthHeightDepth) (boxes : List BinSection) : Type 0 where
  pub inside : AllInside whd boxes
  pub apart : Apart boxes
  pub gap : Gap whd boxes

-- one of 0, 16, 17, 18 is given
abbrev pub Given : Reply → Type 0
Given r = (r ≡ reply 0 0) ⊎ (((i : ℕ) × (r ≡ reply 16 i)) ⊎ (((j : ℕ) × (r ≡ reply 17 j)) ⊎ (r ≡ reply 18 0)))

-- and each of them "exactly when" what stands beside it holds; a common box is handed on with 17 alone
pub record AuditMeans (whd : WidthHeightDepth) (boxes : List BinSection) (r : Reply) (common : Option BinSection) : Type 0 where
  pub given : Given r
  pub whole : (r ≡ reply 0 0) ↔ Whole whd boxes
  pub outside : (i : ℕ) → (r ≡ reply 16 i) ↔ FirstOutside whd boxes i
  pub shared : (j : ℕ) → (r ≡ reply 17 j) ↔ FirstShared whd boxes j
  pub missing : (r ≡ reply 18 0) ↔ CellInNoBox whd boxes
  -- "for the earliest box that the named one meets": it is one of those before the named one
  pub space : (j : ℕ) → r ≡ reply 17 j → (i : ℕ) × EarliestSpace (take j boxes) (box_at boxes j) i common
  -- "or none"
  pub no_space : ((j : ℕ) → ¬ (r ≡ reply 17 j)) → common ≡ None
