use Rattle.lists.proofs.Kit.{arith, ◌∙◌}
use Rattle.lists.proofs.Sorts.{each_at}
use Rattle.rectangle_pack.proofs.groups.first_fitting.Goals as goal

pub fit_in-requires : goal.fit_in-requires
fit_in-requires c =
    (c.requires.0, each_at c.requires.1 c.loop-k.k-index 0 c.loop-k-test.true, record { some = c.requires.2.some; listed = c.requires.2.listed; copy_long = c.loop-k.invariant.1 ∙ c.requires.2.copy_long; table_long = omega (arith, c.loop-k.invariant.2, c.requires.2.table_long) })
