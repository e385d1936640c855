-- What the reading of bytes answers, and what stands in the two lent tables afterwards.
use Rattle.std.specs.Prelude.{ℕ, ◌*◌, List, ◌++◌, cond, drop, Option, Some, None}
use Rattle.box_input.specs.declared.InputHead.{InputHead}
use Rattle.box_input.specs.Input.{head_of, input_placed_count, input_free_count, input_placed, input_free, is_input}

pub record InputRead : Type 0 where
  pub answer : Option InputHead
  pub placed : List ℕ
  pub free : List ℕ

abbrev pub input_read : Option InputHead → List ℕ → List ℕ → InputRead
input_read answer placed free = record { answer = answer; placed = placed; free = free }

-- the boxes' words at the front, and the table's other words as they were
abbrev pub placed_table : List ℕ → List ℕ → List ℕ
placed_table b table = input_placed b ++ drop (input_placed_count b * 6) table

abbrev pub free_table : List ℕ → List ℕ → List ℕ
free_table b table = input_free b ++ drop (input_free_count b * 6) table

-- an input is read, and what is none changes no word
unfoldable pub input_of : List ℕ → List ℕ → List ℕ → InputRead
input_of b placed free =
    cond (is_input b) (input_read (Some (head_of b)) (placed_table b placed) (free_table b free)) (input_read None placed free)
