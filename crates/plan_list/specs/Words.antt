-- The planner's list as text: its lines, and the words of a line.
use Rattle.std.specs.Prelude.{ℕ, List, Bool, ◌||◌, not, eqb, length}
use Rattle.std.specs.List.{slice_split, before_first, filter}

-- a space, a tab or a carriage return
abbrev pub is_blank : ℕ → Bool
is_blank b = eqb b 32 || (eqb b 9 || eqb b 13)

-- a line ends at a newline
abbrev pub is_newline : ℕ → Bool
is_newline b = eqb b 10

abbrev pub lines_of : List ℕ → List (List ℕ)
lines_of text = slice_split is_newline text

-- a comment begins at `#` and goes to the end of its line
abbrev pub uncommented : List ℕ → List ℕ
uncommented line = before_first (λ b. eqb b 35) line

-- words stand between blanks, and none is empty
abbrev pub words_of : List ℕ → List (List ℕ)
words_of line = filter (λ word. not (eqb (length word) 0)) (slice_split is_blank line)
