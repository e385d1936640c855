-- The join of free neighbours in one chamber, and the common box that it hands on.
use Rattle.std.specs.Prelude.{ℕ, ◌+◌, ◌*◌, List, [], ◌∷◌, ◌++◌, cond, eqb, length, set, Option, None}
use Rattle.lists.specs.Tab.{put}
use Rattle.bin_section.specs.declared.section.BinSection.{BinSection}
use Rattle.replies.specs.declared.reply.Reply.{Reply}
use Rattle.replies.specs.Replies.{Check, reply, each, in_order}
use Rattle.sections.specs.Inside.{shares_earlier}
use Rattle.sections.specs.Common.{earliest_common}
use Rattle.neighbours.specs.Joining.{Joined, join_all}
use Rattle.target_bin.specs.Chambers.{chamber_of}
use Rattle.target_bin.specs.Store.{free_at, part_of}
use Rattle.target_bin.specs.Checks.{table_checks, check8}
use Rattle.target_bin.specs.Outcome.{Outcome, outcome, refused, CommonOutcome, with_common}

-- 10: "where two of the chamber's sections share a cell, detail the later index"
unfoldable pub share_checks : List BinSection → List (Check Reply)
share_checks free = each (reply 10) (length free) (shares_earlier free) ∷ []

-- 8, and "10, after 8", for the chamber that has the id
unfoldable pub join_checks : List ℕ → List ℕ → ℕ → List (Check Reply)
join_checks chambers store id = check8 chambers id ∷ share_checks (free_at chambers store (chamber_of chambers id))

-- "Reply 0 with the number of joins"; "Words past the count become 0, other chambers stay": the tables with the
-- free sections of the chamber at k replaced
abbrev pub joined_in : List ℕ → List ℕ → ℕ → Joined → Outcome
joined_in chambers store k j =
    outcome (reply 0 j.joins) (set chambers (k * 5 + 4) (length j.free)) (put store (k * 768) (part_of j.free))

-- so of the chamber that has the id, with its free sections joined "as long as two free sections join"
unfoldable pub join_done : List ℕ → List ℕ → ℕ → Outcome
join_done chambers store id =
    joined_in chambers store (chamber_of chambers id) (join_all (free_at chambers store (chamber_of chambers id)))

-- "checks 1, 2, 3, 8", then 10: its reply, and both tables afterwards
unfoldable pub join_outcome : List ℕ → List ℕ → ℕ → Outcome
join_outcome chambers store id =
    in_order (table_checks chambers store ++ join_checks chambers store id) (refused chambers store) (join_done chambers store id)

-- "joins with 10 hand it on beside the detail, audit and joins for the earliest box that the named one meets"; otherwise none
unfoldable pub join_common : List BinSection → Reply → Option BinSection
join_common free r = cond (eqb r.number 10) (earliest_common free r.detail) None

-- all that a join answers and leaves, on every input
unfoldable pub join_of : List ℕ → List ℕ → ℕ → CommonOutcome
join_of chambers store id =
    let o = join_outcome chambers store id in
    with_common (join_common (free_at chambers store (chamber_of chambers id)) o.reply) o
