use Rattle.lists.proofs.Kit.{◌-◌, ◌≤◌}
use Rattle.lists.specs.Lowest.{lowest}
use Rattle.sections.specs.Inside.{shares_at}
use Rattle.sections.proofs.near.pass_over.Given as goal

abbrev pub invariant-loop-j : goal.invariant-loop-j
invariant-loop-j l = (l.i ≤ l.j) × (l.j ≤ l.n) × (l.j ≤ lowest l.n (shares_at l.other l.words))

abbrev pub decreases-loop-j : goal.decreases-loop-j
decreases-loop-j l = l.n - l.j
