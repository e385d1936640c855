-- The return of a section, and the common box that it hands on.
use Rattle.std.specs.Prelude.{ℕ, ◌+◌, ◌*◌, List, [], ◌∷◌, ◌++◌, not, cond, set, eqb, Option, None}
use Rattle.lists.specs.Tab.{put}
use Rattle.bin_section.specs.declared.section.BinSection.{BinSection}
use Rattle.bin_section.specs.Section.{section_at, section_words}
use Rattle.bin_section.specs.Overlap.{common_of}
use Rattle.replies.specs.declared.reply.Reply.{Reply}
use Rattle.replies.specs.Replies.{Check, reply, once, each, in_order}
use Rattle.bin_section.specs.Inside.{inside_of}
use Rattle.sections.specs.Inside.{shares_at}
use Rattle.target_bin.specs.declared.chamber.TargetBin.{TargetBin}
use Rattle.target_bin.specs.Chambers.{chamber_at, chamber_of}
use Rattle.target_bin.specs.Store.{part_at}
use Rattle.target_bin.specs.Checks.{table_checks, check8}
use Rattle.target_bin.specs.Outcome.{Outcome, outcome, refused, CommonOutcome, with_common}

-- 9: "box has a zero side or reaches past the chamber"; 10: "a free section shares a cell with the box"; 11: "128 sections are there"
unfoldable pub push_checks : TargetBin → List ℕ → BinSection → List (Check Reply)
push_checks b part box =
    once (reply 9 0) (not (inside_of b.whd box)) ∷ each (reply 10) b.count (shares_at box part) ∷ once (reply 11 0) (eqb b.count 128) ∷ []

-- 8: "no chamber has the id"; then 9, 10, 11 for the chamber that has it
unfoldable pub return_checks : List ℕ → List ℕ → ℕ → BinSection → List (Check Reply)
return_checks chambers store id box =
    check8 chambers id ∷ push_checks (chamber_at chambers (chamber_of chambers id)) (part_at store (chamber_of chambers id)) box

-- "An accepted return writes one count and the six words after the last section, nothing else", at chamber k of count n
abbrev pub stored : List ℕ → List ℕ → ℕ → ℕ → BinSection → Outcome
stored chambers store k n box =
    outcome (reply 0 n) (set chambers (k * 5 + 4) (n + 1)) (put store (k * 768 + n * 6) (section_words box))

unfoldable pub returned : List ℕ → List ℕ → ℕ → BinSection → Outcome
returned chambers store id box =
    stored chambers store (chamber_of chambers id) (chamber_at chambers (chamber_of chambers id)).count box

-- "Return: 1, 2, 3, 8, 9, 10, 11.": its reply, and both tables afterwards
unfoldable pub return_outcome : List ℕ → List ℕ → ℕ → BinSection → Outcome
return_outcome chambers store id box =
    in_order (table_checks chambers store ++ return_checks chambers store id box) (refused chambers store)
    (returned chambers store id box)

-- "Return with 10 .. hand it on beside the detail": the common box of the box and the free section that the detail names; otherwise none
unfoldable pub return_common : List ℕ → BinSection → Reply → Option BinSection
return_common part box r = cond (eqb r.number 10) (common_of (section_at part r.detail) box) None

-- all that a return answers and leaves, on every input: beside the common box "all else stays as before"
unfoldable pub return_of : List ℕ → List ℕ → ℕ → BinSection → CommonOutcome
return_of chambers store id box =
    let o = return_outcome chambers store id box in
    with_common (return_common (part_at store (chamber_of chambers id)) box o.reply) o
