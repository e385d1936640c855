use Rattle.lists.proofs.Kit.{refl, rules}
use Rattle.replies.proofs.Ladders.{checks}
use Rattle.replies.proofs.Refusals.{refusal_number, handed_on}
use Rattle.target_bin.proofs.Passing.{sound_tables}
use Rattle.rectangle_pack.specs.Pack.{pack_checks}
use Rattle.rectangle_pack.proofs.Checked.{pack-tables, pack_rects, rect_lengths}
use Rattle.rectangle_pack.proofs.checks.check_pack.Goals as goal

pub returns-then-not-rect_lengths_ok : goal.returns-then-not-rect_lengths_ok
unfolding pack_checks
returns-then-not-rect_lengths_ok c = search checks

pub returns-in_err-check_tables : goal.returns-in_err-check_tables
returns-in_err-check_tables c =
    rw (handed_on _ _ c.from_residual.ensures.1) (pack-tables _ _ _ _ (search rules) _ c.in_err-check_tables.ensures (refusal_number _))

pub check_rects-requires : goal.check_rects-requires
check_rects-requires c =
    let s = sound_tables _ _ _ c.in_ok-check_tables.ensures refl in
    let l = rect_lengths c.args.rects.now c.args.placements.now (search rules) in
    (s.shaped.counted, s.shaped.few, l.long, l.few)

pub returns : goal.returns
returns c = pack_rects _ _ _ _ (search rules) c.in_ok-check_tables.ensures _ c.check_rects.ensures
