use Rattle.replies.proofs.Refusals.{handed_on}
use Rattle.target_bin.proofs.Returning.{return_refused, return_accepted}
use Rattle.target_bin.proofs.returns.return_section.Goals as goal

pub returns-in_err-index : goal.returns-in_err-index
returns-in_err-index c =
    let known = c.in_ok-k.ensures in
    let answer = c.in_err-index.ensures in
    rw (handed_on _ _ c.from_residual-in_err-index.ensures.1)
    (return_refused _ _ _ _ _ known.reply_value known.known _ c.read-bin.ensures _ c.part.ensures _ c.push_available_bin_section.auto.part answer.part_after _ answer.reply_value
    answer.common_value)

pub returns : goal.returns
returns c =
    let known = c.in_ok-k.ensures in
    let answer = c.in_ok-index.ensures in
    return_accepted _ _ _ _ _ known.reply_value known.known _ c.read-bin.ensures _ c.part.ensures _ c.push_available_bin_section.auto.part answer.part_after _ answer.reply_value
    _ c.write_count.ensures
