-- What a job on the two tables leaves: its reply, and both tables afterwards; and the common box, where the job hands one on.
use Rattle.std.specs.Prelude.{ℕ, List, Option}
use Rattle.bin_section.specs.declared.section.BinSection.{BinSection}
use Rattle.replies.specs.declared.reply.Reply.{Reply}

pub record Outcome : Type 0 where
  pub reply : Reply
  pub chambers : List ℕ
  pub store : List ℕ

abbrev pub outcome : Reply → List ℕ → List ℕ → Outcome
outcome r c s = record { reply = r; chambers = c; store = s }

-- "Every refusal but 7 writes nothing."
abbrev pub refused : List ℕ → List ℕ → Reply → Outcome
refused chambers store r = outcome r chambers store

-- the same with the common box that is handed on "beside the detail"
pub record CommonOutcome : Type 0 where
  pub reply : Reply
  pub common : Option BinSection
  pub chambers : List ℕ
  pub store : List ℕ

abbrev pub with_common : Option BinSection → Outcome → CommonOutcome
with_common c o = record { reply = o.reply; common = c; chambers = o.chambers; store = o.store }
