-- The space that a box of a list shares with the earliest that it meets, and a refusal and a reply that hand it on.
use Rattle.std.specs.Prelude.{ℕ, ◌<◌, cond, List, [], ◌∷◌, length, take, Option, None, Result, Ok, Err}
use Rattle.replies.specs.declared.reply.Reply.{Reply}
use Rattle.replies.specs.declared.refusal.Refusal.{Refusal}
use Rattle.replies.specs.Replies.{reply, refusal_reply}
use Rattle.bin_section.specs.declared.section.BinSection.{BinSection}
use Rattle.bin_section.specs.Boxes.{box_at}
use Rattle.bin_section.specs.Cell.{SharesCell, CommonMeans}
use Rattle.bin_section.specs.Overlap.{overlaps_of, common_of}
use Rattle.sections.specs.declared.common_reply.CommonRefusal.{CommonRefusal}
use Rattle.sections.specs.declared.common_reply.CommonReply.{CommonReply}

-- "the common box, or none": of a box and the earliest of a list that it meets; none where it meets none
unfoldable pub first_common : BinSection → List BinSection → Option BinSection
first_common box [] = None
first_common box (b ∷ bs) = cond (overlaps_of b box) (common_of b box) (first_common box bs)

-- the common box "for the earliest box that the named one meets", of the box at an index of a list: "a box shares a cell with an earlier
-- one", so those before it are looked through in their order
unfoldable pub earliest_common : List BinSection → ℕ → Option BinSection
earliest_common boxes j = first_common (box_at boxes j) (take j boxes)

-- what is handed on, in cells: the box at i is "the earliest box that the named one meets" of a list, and the common box is theirs
pub record EarliestSpace (boxes : List BinSection) (box : BinSection) (i : ℕ) (common : Option BinSection) : Type 0 where
  pub listed : i < length boxes
  pub before : (k : ℕ) → k < i → ¬ (SharesCell (box_at boxes k) box)
  pub meets : SharesCell (box_at boxes i) box
  pub space : CommonMeans (box_at boxes i) box common

-- "a box shares a cell with an earlier one": the box at j is the first of the list that does
pub record FirstToShare (boxes : List BinSection) (j : ℕ) : Type 0 where
  pub below : j < length boxes
  pub before : (i k : ℕ) → i < k → k < j → ¬ (SharesCell (box_at boxes i) (box_at boxes k))
  pub earlier : ℕ
  pub less : earlier < j
  pub shares : SharesCell (box_at boxes earlier) (box_at boxes j)

-- a reply, and the common box that is handed on "beside the detail"
abbrev pub common_reply : Reply → Option BinSection → CommonReply
common_reply r c = record { reply = r; common = c }

-- one that hands on none
abbrev pub plain_reply : Reply → CommonReply
plain_reply r = common_reply r None

-- a refusal that hands on no box
abbrev pub plain_refusal : Refusal → CommonRefusal
plain_refusal r = record { refusal = r; common = None }

-- the reply of a job: 0 where it is done, else its refusal's with the common box that is handed on
abbrev pub common_job_reply : Result (Unit {0}) CommonRefusal → CommonReply
common_job_reply (Ok _) = plain_reply (reply 0 0)
common_job_reply (Err r) = common_reply (refusal_reply r.refusal) r.common

-- the same of a job that is done with a detail
abbrev pub common_detailed_reply : Result ℕ CommonRefusal → CommonReply
common_detailed_reply (Ok detail) = plain_reply (reply 0 detail)
common_detailed_reply (Err r) = common_reply (refusal_reply r.refusal) r.common
