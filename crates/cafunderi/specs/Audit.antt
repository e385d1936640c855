-- The audit of a chamber whose sides are lent as words.
use Rattle.std.specs.Prelude.{ℕ, List, [], ◌∷◌, not, ◌||◌, eqb, length}
use Rattle.replies.specs.declared.reply.Reply.{Reply}
use Rattle.replies.specs.Replies.{once, in_order, reply}
use Rattle.bin_section.specs.Sides.{sides_in}
use Rattle.audit.specs.Audit.{Audited, audit_of}
use Rattle.cafunderi.specs.Common.{common_after}

-- the reply, and the six words of the common box afterwards
pub record AuditWords : Type 0 where
  pub reply : Reply
  pub common : List ℕ

abbrev pub audit_words : Reply → List ℕ → AuditWords
audit_words r common = record { reply = r; common = common }

-- what an audit answers, with its common box in words. The part that it shows does not cross over: the detail says where it lies.
abbrev pub audited_words : List ℕ → Audited → AuditWords
audited_words before a = audit_words a.reply (common_after before a.reply a.common)

-- 1: "three sides" have 3 words, and for the 6 of the common box too "any other length is 1"; then nothing is written. Else the audit, and the
-- six words of its common box.
unfoldable pub audit_face : List ℕ → List ℕ → List ℕ → List ℕ → AuditWords
audit_face sides placed free common =
    in_order (once (reply 1 0) (not (eqb (length sides) 3) || not (eqb (length common) 6)) ∷ [])
    (λ r. audit_words r common)
    (audited_words common (audit_of (sides_in sides) placed free))
