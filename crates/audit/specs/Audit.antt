-- The audit of one chamber: its checks in their order, its reply, the common box that it hands on, and the words that it shows.
use Rattle.std.specs.Prelude.{ℕ, ◌+◌, ◌*◌, ◌/◌, ◌%◌, List, [], ◌∷◌, ◌++◌, Bool, not, ◌&&◌, ◌||◌, cond, eqb, leb, length, take, drop, Option, None}
use Rattle.bin_section.specs.declared.width_height_depth.WidthHeightDepth.{WidthHeightDepth}
use Rattle.bin_section.specs.declared.section.BinSection.{BinSection}
use Rattle.replies.specs.declared.reply.Reply.{Reply}
use Rattle.sections.specs.declared.common_reply.CommonReply.{CommonReply}
use Rattle.bin_section.specs.Sides.{volume_of, sides_ok}
use Rattle.bin_section.specs.Inside.{outside}
use Rattle.replies.specs.Replies.{reply, Check, once, each, in_order}
use Rattle.sections.specs.Common.{common_reply, plain_reply, earliest_common}
use Rattle.cells.specs.Whole.{box_at, volumes}
use Rattle.sections.specs.Sections.{sections}
use Rattle.sections.specs.Inside.{shares_earlier}

-- "6 words each": the boxes of a list of words
abbrev pub boxes_of : List ℕ → List BinSection
boxes_of words = sections words (length words / 6)

-- "box indices count the placed list, then the free list"
unfoldable pub audit_boxes : List ℕ → List ℕ → List BinSection
audit_boxes placed free = boxes_of placed ++ boxes_of free

-- "at most 1,024 boxes together, 6 words each", of the lengths of the two lists
unfoldable pub box_lists_ok : ℕ → ℕ → Bool
box_lists_ok placed free = eqb (placed % 6) 0 && (eqb (free % 6) 0 && leb (placed / 6 + free / 6) 1024)

-- "Audit: 1, 2 (sides of its one chamber), 16, 17, 18". Where neither 16 nor 17 is given, a cell is in no box exactly when
-- the volumes do not sum to the chamber's: `Meaning` says what each reply means in cells.
abbrev pub audit_checks : WidthHeightDepth → List ℕ → List ℕ → List BinSection → List (Check Reply)
audit_checks whd placed free boxes =
    once (reply 1 0) (not (box_lists_ok (length placed) (length free)))
    ∷ once (reply 2 0) (not (sides_ok whd))
    -- "a box has a zero side or reaches past the chamber"
    ∷ each (reply 16) (length boxes) (λ i. outside whd (box_at boxes i))
    ∷ each (reply 17) (length boxes) (shares_earlier boxes)
    ∷ once (reply 18 0) (not (eqb (volumes boxes) (volume_of whd)))
    ∷ []

unfoldable pub audit_reply : WidthHeightDepth → List ℕ → List ℕ → Reply
audit_reply whd placed free = in_order (audit_checks whd placed free (audit_boxes placed free)) (λ refusal. refusal) (reply 0 0)

-- "with 16 or 17 it shows the six words of the faulty box where they lie in the placed or free list, otherwise an empty part"
unfoldable pub shown_of : List ℕ → List ℕ → Reply → List ℕ
shown_of placed free r =
    cond (eqb r.number 16 || eqb r.number 17) (take 6 (drop (r.detail * 6) (placed ++ free))) []

-- "audit with 17 .. hand it on beside the detail, .. for the earliest box that the named one meets"; otherwise none
unfoldable pub audit_common : List BinSection → Reply → Option BinSection
audit_common boxes r = cond (eqb r.number 17) (earliest_common boxes r.detail) None

-- the reply with the common box
unfoldable pub audit_answer : WidthHeightDepth → List ℕ → List ℕ → CommonReply
audit_answer whd placed free =
    let r = audit_reply whd placed free in
    common_reply r (audit_common (audit_boxes placed free) r)

pub record Audited : Type 0 where
  pub reply : Reply
  pub common : Option BinSection
  pub shown : List ℕ

abbrev pub audited_with : CommonReply → List ℕ → Audited
audited_with answer shown = record { reply = answer.reply; common = answer.common; shown = shown }

-- with no common box
abbrev pub audited : Reply → List ℕ → Audited
audited answer shown = audited_with (plain_reply answer) shown

-- what the audit answers, hands on and shows, on every input: beside the common box "all else stays as before"
unfoldable pub audit_of : WidthHeightDepth → List ℕ → List ℕ → Audited
audit_of whd placed free = audited_with (audit_answer whd placed free) (shown_of placed free (audit_reply whd placed free))
