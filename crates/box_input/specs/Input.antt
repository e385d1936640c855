-- An input, as bytes: whether it is one, and what it says.
use Rattle.std.specs.Prelude.{ℕ, ◌+◌, ◌*◌, List, Bool, ◌&&◌, eqb, leb, length, get_or, drop}
use Rattle.bin_section.specs.declared.width_height_depth.WidthHeightDepth.{WidthHeightDepth}
use Rattle.bin_section.specs.Sides.{sides}
use Rattle.wire.specs.Word.{word_at, words_in}
use Rattle.box_input.specs.declared.InputHead.{InputHead}

-- "4-byte big-endian length of the rest, version byte 1, then big-endian words": the word at an index past the version byte
abbrev pub head_word : List ℕ → ℕ → ℕ
head_word b i = word_at (drop 5 b) i

-- "width, height, depth, placed count, free count"
abbrev pub input_chamber : List ℕ → WidthHeightDepth
input_chamber b = sides (head_word b 0) (head_word b 1) (head_word b 2)

abbrev pub input_placed_count : List ℕ → ℕ
input_placed_count b = head_word b 3

abbrev pub input_free_count : List ℕ → ℕ
input_free_count b = head_word b 4

abbrev pub head_of : List ℕ → InputHead
head_of b = record { whd = input_chamber b; placed = input_placed_count b; free = input_free_count b }

-- "and the boxes, placed first": six words each, so 24 bytes, from byte 25 on
abbrev pub input_placed : List ℕ → List ℕ
input_placed b = words_in (drop 25 b) (input_placed_count b * 6)

abbrev pub input_free : List ℕ → List ℕ
input_free b = words_in (drop (25 + input_placed_count b * 24) b) (input_free_count b * 6)

-- the length word, the version and the counts are right, and there are "at most 1,024 boxes together". Sums and products are those of whole
-- numbers.
unfoldable pub is_input : List ℕ → Bool
is_input b =
    eqb (word_at b 0 + 4) (length b)
    && (eqb (get_or b 4 0) 1
    && (eqb (25 + (input_placed_count b + input_free_count b) * 24) (length b) && leb (input_placed_count b + input_free_count b) 1024))
