use Rattle.lists.proofs.Kit.{arith, rules}
use Rattle.lists.proofs.Lowests.{lowest_most, lowest_past}
use Rattle.sections.specs.Inside.{shares_at}
use Rattle.sections.proofs.near.pass_over.Goals as goal

pub loop-j-init : goal.loop-j-init
loop-j-init c = (search rules, omega (arith, lowest_most c.args.n (shares_at c.args.other c.args.words.now)), search rules)

pub loop-j-preserved : goal.loop-j-preserved
loop-j-preserved c = (search rules, search rules, lowest_past _ _ 4 _ (search rules) (search rules) (c.some_near.ensures (search rules)))
