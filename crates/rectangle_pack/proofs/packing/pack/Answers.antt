use Rattle.lists.proofs.Kit.{refl}
use Rattle.replies.proofs.Refusals.{refusal_number, handed_on}
use Rattle.rectangle_pack.proofs.Checked.{passed}
use Rattle.rectangle_pack.proofs.Ending.{pack-refused, all_pass, pack_done}
use Rattle.rectangle_pack.proofs.packing.pack.Goals as goal

pub returns-in_err-check_pack : goal.returns-in_err-check_pack
returns-in_err-check_pack c =
    rw (handed_on _ _ c.from_residual.ensures.1) (pack-refused _ _ _ _ _ c.in_err-check_pack.ensures (refusal_number _))

pub pack_checked-requires : goal.pack_checked-requires
pack_checked-requires c = passed _ _ _ _ (all_pass _ _ _ _ _ c.in_ok-check_pack.ensures refl)

pub returns : goal.returns
returns c = pack_done _ _ _ _ _ (all_pass _ _ _ _ _ c.in_ok-check_pack.ensures refl) c.pack_checked.ensures
