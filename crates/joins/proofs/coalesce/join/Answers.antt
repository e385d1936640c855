use Rattle.replies.proofs.Refusals.{handed_on}
use Rattle.joins.proofs.Coalescing.{join_few, join_refused, join_accepted}
use Rattle.joins.proofs.coalesce.join.Goals as goal

pub overflow_sub-bin : goal.overflow_sub-bin
overflow_sub-bin c = join_few _ _ _ c.in_ok-joins.ensures.reply_value

pub returns-in_err-joins : goal.returns-in_err-joins
returns-in_err-joins c =
    let known = c.in_ok-k.ensures in
    let answer = c.in_err-joins.ensures in
    rw (handed_on _ _ c.from_residual-in_err-joins.ensures.1)
    (join_refused _ _ _ _ known.reply_value known.known _ c.read-bin.ensures _ c.part.ensures _ c.join_part.auto.part answer.part_after _ answer.reply_value answer.common_value)

pub returns : goal.returns
returns c =
    let known = c.in_ok-k.ensures in
    let answer = c.in_ok-joins.ensures in
    join_accepted _ _ _ _ known.reply_value known.known _ c.read-bin.ensures _ c.part.ensures _ c.join_part.auto.part answer.part_after _ answer.reply_value _ c.write_count.ensures
