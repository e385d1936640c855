-- What functions below the jobs lean on and leave. No job's contract cites it, and a reader of the rules needs none of it.
use Rattle.std.specs.Prelude.{ℕ, ◌<◌, ◌≡◌, ◌||◌, cond, eqb, List, length, Option, Some, None}
use Rattle.replies.specs.declared.reply.Reply.{Reply}
use Rattle.bin_section.specs.declared.section.BinSection.{BinSection}

-- the box that 17 names is one of the list
abbrev pub NamesOneOf : List BinSection → Reply → Type 0
NamesOneOf boxes r = r.number ≡ 17 → r.detail < length boxes

-- the index of the box that 16 and 17 name
abbrev pub faulty_box : Reply → Option ℕ
faulty_box r = cond (eqb r.number 16 || eqb r.number 17) (Some r.detail) None
