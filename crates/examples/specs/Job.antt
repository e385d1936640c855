-- A job of any kind, and what the rules answer to it. Each job's code is proved equal to the same definitions.
-- A new kind of job is one constructor of Job, one of Answer and one line of `answered`; no row of another job changes.
use Rattle.std.specs.Prelude.{ℕ, List}
use Rattle.bin_section.specs.declared.width_height_depth.WidthHeightDepth.{WidthHeightDepth}
use Rattle.bin_section.specs.declared.section.BinSection.{BinSection}
use Rattle.bin_section.specs.declared.rect_to_insert.RectToInsert.{RectToInsert}
use Rattle.replies.specs.declared.reply.Reply.{Reply}
use Rattle.target_bin.specs.Outcome as tables
use Rattle.rectangle_pack.specs.Pack.{PackOutcome}
use Rattle.examples.specs.Shown.{LentTables, TryShown, AuditShown, try_shown, return_shown, join_shown, pack_shown, reply_shown, audit_shown}

pub data Job : Type 0 where
  tries : RectToInsert → BinSection → Job
  -- the tables, an id, a box
  returns : LentTables → ℕ → BinSection → Job
  -- the tables, an id
  joins : LentTables → ℕ → Job
  -- the tables, the rectangle table, the placement table
  packs : LentTables → List ℕ → List ℕ → Job
  -- the same, where the example says the reply and its detail alone
  replies : LentTables → List ℕ → List ℕ → Job
  -- sides, placed list, free list
  audits : WidthHeightDepth → List ℕ → List ℕ → Job

pub data Answer : Type 0 where
  of_try : TryShown → Answer
  of_return : tables.CommonOutcome → Answer
  of_join : tables.CommonOutcome → Answer
  of_pack : PackOutcome → Answer
  of_reply : Reply → Answer
  of_audit : AuditShown → Answer

unfoldable pub answered : Job → Answer
unfolding try_shown return_shown join_shown pack_shown reply_shown audit_shown
answered (tries rect section) = of_try (try_shown rect section)
answered (returns tables id box) = of_return (return_shown tables id box)
answered (joins tables id) = of_join (join_shown tables id)
answered (packs tables rects placements) = of_pack (pack_shown tables rects placements)
answered (replies tables rects placements) = of_reply (reply_shown tables rects placements)
answered (audits whd placed free) = of_audit (audit_shown whd placed free)
