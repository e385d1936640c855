use Rattle.lists.proofs.Kit.{refl}
use Rattle.audit.proofs.TwoLists.{six, words_free}
use Rattle.audit.proofs.Places.{lies_free}
use Rattle.audit.proofs.words_of_box.Goals as goal

pub returns : goal.returns
returns c = (rw six (words_free c.args.placed.now c.args.free.now c.args.i _ c.requires.0 c.boxes_in-first.ensures c.if-i-first.false), lies_free _ _ _ _ _ _ c.boxes_in-first.ensures c.if-i-first.false refl refl)
