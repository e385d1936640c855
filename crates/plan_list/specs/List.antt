-- The planner's list: a chamber or a coil a line. Blank lines and comments say nothing. The first slip of the pen ends the reading.
use Rattle.std.specs.Prelude.{ℕ, ◌+◌, List, [], ◌∷◌, ◌++◌, cond, ltb, length, take, Result, Ok, Err}
use Rattle.std.specs.List.{count_by}
use Rattle.std.specs.Result.{result_map_both}
use Rattle.target_bin.specs.declared.chamber.TargetBin.{TargetBin}
use Rattle.grouped_rects_to_place.specs.declared.rect_to_place.RectToPlace.{RectToPlace}
use Rattle.plan_list.specs.declared.slip.Slip.{Slip}
use Rattle.plan_list.specs.declared.slip.Slip.TheVariants.{TooLong}
use Rattle.plan_list.specs.declared.slip.SlipAt.{SlipAt}
use Rattle.plan_list.specs.declared.line_said.Said.{Said}
use Rattle.plan_list.specs.declared.line_said.Said.TheVariants.{Nothing, Chamber, Coil}
use Rattle.plan_list.specs.declared.list.OnLine.{OnLine}
use Rattle.plan_list.specs.declared.list.PlanList.{PlanList}
use Rattle.plan_list.specs.declared.list.Slipped.{Slipped}
use Rattle.plan_list.specs.Words.{is_newline, lines_of, uncommented, words_of}
use Rattle.plan_list.specs.Said.{line_said, ◌>>=◌}

-- what stands in a line, and a slip in it. Lines are counted from 1.
abbrev pub on_line : {T : Type 0} → ℕ → T → OnLine T
on_line line item = record { item = item; line = line }

abbrev pub slip_at : ℕ → Slip → SlipAt
slip_at line slip = record { line = line; slip = slip }

-- what was read: chambers and coils, each with its line, and how many lines were looked at
abbrev pub plan_list : List (OnLine TargetBin) → List (OnLine RectToPlace) → ℕ → PlanList
plan_list chambers coils lines = record { chambers = record { items = chambers }; coils = record { items = coils }; lines = lines }

-- what was read before a slip, and the slip
abbrev pub slipped : PlanList → SlipAt → Slipped
slipped l at = record { list = l; at = at }

-- one line more is looked at
abbrev pub next_line : PlanList → PlanList
next_line l = plan_list l.chambers.items l.coils.items (l.lines + 1)

-- what a line says is added, with the number of the line, the last that was looked at
abbrev pub added : PlanList → Said → PlanList
added l Nothing = l
added l (Chamber b) = plan_list (l.chambers.items ++ on_line l.lines b ∷ []) l.coils.items l.lines
added l (Coil c) = plan_list l.chambers.items (l.coils.items ++ on_line l.lines c ∷ []) l.lines

-- a line with a slip in it adds nothing
abbrev pub slipped_in : PlanList → Slip → Slipped
slipped_in l slip = slipped l (slip_at l.lines slip)

abbrev pub add_line : List ℕ → PlanList → Result PlanList Slipped
add_line text l =
    result_map_both (added (next_line l)) (slipped_in (next_line l))
    (line_said (words_of (uncommented text)) (length l.chambers.items) (length l.coils.items))

-- line after line, up to the first slip
unfoldable pub add_lines : List (List ℕ) → PlanList → Result PlanList Slipped
add_lines [] l = Ok l
add_lines (text ∷ texts) l = add_line text l >>= add_lines texts

-- the line that the byte at an index stands in: newlines before it, and one
abbrev pub line_at : List ℕ → ℕ → ℕ
line_at text n = count_by is_newline (take n text) + 1

-- no line was looked at
abbrev pub no_lines : PlanList
no_lines = plan_list [] [] 0

-- the list read. Of a text that is too long nothing is.
unfoldable pub read_of : List ℕ → Result PlanList Slipped
read_of text =
    cond (ltb 65536 (length text)) (Err (slipped no_lines (slip_at (line_at text 65536) TooLong)))
    (add_lines (lines_of text) no_lines)
