-- What the words of a line say: "chamber ID WIDTH HEIGHT DEPTH" or "coil ID GROUP WIDTH HEIGHT DEPTH", the group a number above 0 or "none";
-- nothing; or a slip of the pen.
use Rattle.std.specs.Prelude.{ℕ, ◌+◌, List, [], ◌∷◌, not, cond, eqb, length, codes, Option, Some, None, option_and_then, ok_or, slice_get, Result, Ok, Err}
use Rattle.std.specs.Str.{bytes_eq}
use Rattle.bin_section.specs.Sides.{sides}
use Rattle.target_bin.specs.Chambers.{bin}
use Rattle.plan_list.specs.declared.slip.Slip.{Slip}
use Rattle.plan_list.specs.declared.slip.Slip.TheVariants.{Neither, ChamberWords, CoilWords, NoNumber, ManyChambers, ManyCoils, NoGroup}
use Rattle.plan_list.specs.declared.line_said.Said.{Said}
use Rattle.plan_list.specs.declared.line_said.Said.TheVariants.{Nothing, Chamber, Coil}
use Rattle.plan_list.specs.Number.{said}

-- a step that may slip, and what follows it
infixl 10 ◌>>=◌
abbrev pub ◌>>=◌ : {A B E : Type 0} → Result A E → (A → Result B E) → Result B E
(Ok x) >>= f = f x
(Err e) >>= f = Err e

-- the number that the word at an index says; a slip counts the words from 1
abbrev pub number_at : List (List ℕ) → ℕ → Result ℕ Slip
number_at words k = ok_or (option_and_then said (slice_get words k)) (NoNumber (k + 1))

-- a group's number is above 0, which stands for none in the table: a group that is typed as 0 is a slip
abbrev pub above_zero : ℕ → Option ℕ
above_zero n = cond (eqb n 0) None (Some n)

-- a group, or none
abbrev pub group_said : List ℕ → Option ℕ
group_said word = cond (bytes_eq word (codes "none")) (Some 0) (option_and_then above_zero (said word))

-- the group that the third word of a coil says
abbrev pub group_at : List (List ℕ) → Result ℕ Slip
group_at words = ok_or (option_and_then group_said (slice_get words 2)) NoGroup

-- the numbers follow the first word, and the first that is missing is the slip. The free count of a chamber that is not yet fresh is 0.
abbrev pub chamber_from : List (List ℕ) → Result Said Slip
chamber_from words = do
  id ← number_at words 1
  width ← number_at words 2
  height ← number_at words 3
  depth ← number_at words 4
  Ok (Chamber (bin id (sides width height depth) 0))

abbrev pub coil_from : List (List ℕ) → Result Said Slip
coil_from words = do
  id ← number_at words 1
  group ← group_at words
  width ← number_at words 3
  height ← number_at words 4
  depth ← number_at words 5
  Ok (Coil (record { id = id; group = group; whd = sides width height depth }))

-- chamber ID WIDTH HEIGHT DEPTH, where n chambers were read before
abbrev pub chamber_said : List (List ℕ) → ℕ → Result Said Slip
chamber_said words n =
    cond (not (eqb (length words) 5)) (Err ChamberWords)
    (cond (eqb n 16) (Err ManyChambers) (chamber_from words))

-- coil ID GROUP WIDTH HEIGHT DEPTH, where n coils were read before
abbrev pub coil_said : List (List ℕ) → ℕ → Result Said Slip
coil_said words n =
    cond (not (eqb (length words) 6)) (Err CoilWords)
    (cond (eqb n 63) (Err ManyCoils) (coil_from words))

-- the first word says what a line is about
abbrev pub line_said : List (List ℕ) → ℕ → ℕ → Result Said Slip
line_said [] chambers coils = Ok Nothing
line_said (first ∷ rest) chambers coils =
    cond (bytes_eq first (codes "chamber")) (chamber_said (first ∷ rest) chambers)
    (cond (bytes_eq first (codes "coil")) (coil_said (first ∷ rest) coils) (Err Neither))
