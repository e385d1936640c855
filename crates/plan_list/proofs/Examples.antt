-- Lists worked out whole: one that is read, and slips of the pen.
use Rattle.std.proofs.Common.{◌≡◌, ℕ, [], ◌∷◌, codes, Result, Ok, Err, refl}
use Rattle.bin_section.specs.Sides.{sides}
use Rattle.target_bin.specs.Chambers.{bin}
use Rattle.plan_list.specs.declared.slip.Slip.{Slip}
use Rattle.plan_list.specs.declared.slip.Slip.TheVariants.{Neither, ChamberWords, CoilWords, NoNumber, NoGroup}
use Rattle.plan_list.specs.declared.list.PlanList.{PlanList}
use Rattle.plan_list.specs.declared.list.Slipped.{Slipped}
use Rattle.plan_list.specs.List.{on_line, plan_list, slipped_in, add_lines, read_of}

-- a chamber, a comment, a blank line, a coil of no group behind a tab, and one of group 5 with no newline behind it
good : read_of (codes "chamber 1 10 9 8\r\n# note\n\n\tcoil 7 none 4 3 2 # x\ncoil 8 5 1 1 1")
    ≡ Ok
    (plan_list (on_line 1 (bin 1 (sides 10 9 8) 0) ∷ [])
    (on_line 4 (record { id = 7; group = 0; whd = sides 4 3 2 }) ∷ on_line 5 (record { id = 8; group = 5; whd = sides 1 1 1 }) ∷ []) 5)
unfolding add_lines read_of
good = refl

-- a slip in the first line that says something: the number of lines, and the slip in the last of them
abbrev found : ℕ → Slip → Result PlanList Slipped
found line slip = Err (slipped_in (plan_list [] [] line) slip)

slips :
    (read_of (codes "crate 1 1 1 1") ≡ found 1 Neither)
    × (read_of (codes "chamber 1 1 1") ≡ found 1 ChamberWords)
    × (read_of (codes "\ncoil 1 2 3 4") ≡ found 2 CoilWords)
    × (read_of (codes "coil 1 none 1O 4 2") ≡ found 1 (NoNumber 4))
    × (read_of (codes "chamber 4294967296 1 1 1") ≡ found 1 (NoNumber 2))
    × (read_of (codes "coil 1 0 1 1 1") ≡ found 1 NoGroup)
unfolding add_lines read_of
slips = (refl, refl, refl, refl, refl, refl)

-- what stands before a slip is read, and nothing behind it
before : read_of (codes "chamber 1 10 9 8\ncoil 7 none 4 3 2\n\ncrate 1 1 1 1\ncoil 8 5 1 1 1")
    ≡ Err (slipped_in (plan_list (on_line 1 (bin 1 (sides 10 9 8) 0) ∷ []) (on_line 2 (record { id = 7; group = 0; whd = sides 4 3 2 }) ∷ []) 4) Neither)
unfolding add_lines read_of
before = refl
