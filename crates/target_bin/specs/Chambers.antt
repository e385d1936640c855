-- The chamber table: a record of five words for each chamber.
use Rattle.std.specs.Prelude.{ℕ, ◌+◌, ◌*◌, ◌/◌, List, [], ◌∷◌, Bool, length, get_or, eqb}
use Rattle.lists.specs.Lowest.{lowest}
use Rattle.lists.specs.Tab.{tab}
use Rattle.bin_section.specs.declared.width_height_depth.WidthHeightDepth.{WidthHeightDepth}
use Rattle.bin_section.specs.Sides.{sides}
use Rattle.words.specs.Words.{joined}
use Rattle.target_bin.specs.declared.chamber.TargetBin.{TargetBin}

abbrev pub bin : ℕ → WidthHeightDepth → ℕ → TargetBin
bin id whd count = record { id = id; whd = whd; count = count }

-- a fresh chamber: "sets each count to 1"
abbrev pub fresh_bin : ℕ → WidthHeightDepth → TargetBin
fresh_bin id whd = bin id whd 1

-- "Chamber record, 5 words: id, width, height, depth, free count": the chamber that stands at an index of the table
unfoldable pub chamber_at : List ℕ → ℕ → TargetBin
chamber_at w i =
    bin (get_or w (i * 5) 0) (sides (get_or w (i * 5 + 1) 0) (get_or w (i * 5 + 2) 0) (get_or w (i * 5 + 3) 0)) (get_or w (i * 5 + 4) 0)

abbrev pub bin_words : TargetBin → List ℕ
bin_words b = b.id ∷ b.whd.width ∷ b.whd.height ∷ b.whd.depth ∷ b.count ∷ []

-- how many chambers a table has
abbrev pub chamber_count : List ℕ → ℕ
chamber_count w = length w / 5

-- the table read
unfoldable pub chambers_of : List ℕ → List TargetBin
chambers_of w = tab (chamber_count w) (chamber_at w)

-- the table written
abbrev pub table_of : List TargetBin → List ℕ
table_of = joined (λ b. bin_words b)

-- whether the chamber at an index "has the id"
abbrev pub has_id : List ℕ → ℕ → ℕ → Bool
has_id w id i = eqb (chamber_at w i).id id

-- the index of the chamber that has the id; the number of chambers where none has it
unfoldable pub chamber_of : List ℕ → ℕ → ℕ
chamber_of w id = lowest (chamber_count w) (has_id w id)
