use Rattle.lists.proofs.Kit.{arith}
use Rattle.try_place.proofs.Refusing.{ok_fits, not_ok}
use Rattle.placing.proofs.Finding.{tried_none, tried_more, taken_here, taken_nowhere}
use Rattle.placing.proofs.place.last_fitting.Goals as goal

pub loop-i-init : goal.loop-i-init
loop-i-init c = tried_none _ _ _

pub returns-then-is_ok : goal.returns-then-is_ok
returns-then-is_ok c =
    taken_here _ _ _ c.requires.1 _ c.loop-i.invariant (omega arith) (ok_fits _ _ (cc))

pub loop-i-preserved : goal.loop-i-preserved
loop-i-preserved c = tried_more _ _ _ _ c.loop-i.invariant (omega arith) (not_ok _ _ (cc))

pub returns : goal.returns
returns c = taken_nowhere _ _ _ _ c.loop-i.invariant (omega arith)
