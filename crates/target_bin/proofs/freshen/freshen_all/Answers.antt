use Rattle.lists.proofs.Kit.{rules}
use Rattle.target_bin.proofs.Freshening.{freshly_none, freshly_more, freshly_all}
use Rattle.target_bin.proofs.freshen.freshen_all.Goals as goal

pub loop-i-init : goal.loop-i-init
loop-i-init c = freshly_none _ _

pub loop-i-preserved : goal.loop-i-preserved
loop-i-preserved c =
    freshly_more _ _ _ _ _ _ _ c.loop-i.invariant (search rules) c.freshen.ensures.chambers_after c.freshen.ensures.store_after c.freshen.auto.chambers c.freshen.auto.store

pub returns : goal.returns
returns c = freshly_all _ _ _ _ _ c.loop-i.invariant (search rules) c.requires.0 c.requires.1
