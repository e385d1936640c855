-- The common box that a reply hands on, in lent words, and what a job on the two tables then leaves.
use Rattle.std.specs.Prelude.{ℕ, List, cond, eqb, Option}
use Rattle.bin_section.specs.declared.section.BinSection.{BinSection}
use Rattle.bin_section.specs.Overlap.{common_words}
use Rattle.replies.specs.declared.reply.Reply.{Reply}
use Rattle.target_bin.specs.Outcome.{CommonOutcome}

-- six words that "hand it on": the common box, or six zeros where there is none. Reply 1 writes nothing.
unfoldable pub common_after : List ℕ → Reply → Option BinSection → List ℕ
common_after before r c = cond (eqb r.number 1) before (common_words c)

-- the reply, and every lent word afterwards
pub record LentAfter : Type 0 where
  pub reply : Reply
  pub chambers : List ℕ
  pub store : List ℕ
  pub common : List ℕ

abbrev pub lent_after : Reply → List ℕ → List ℕ → List ℕ → LentAfter
lent_after r chambers store common = record { reply = r; chambers = chambers; store = store; common = common }

-- what a job leaves, with its common box in words
abbrev pub in_words : List ℕ → CommonOutcome → LentAfter
in_words before o = lent_after o.reply o.chambers o.store (common_after before o.reply o.common)
