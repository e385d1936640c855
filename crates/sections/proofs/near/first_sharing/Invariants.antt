use Rattle.lists.proofs.Kit.{◌-◌, ◌≤◌}
use Rattle.lists.specs.Lowest.{lowest}
use Rattle.sections.specs.Inside.{shares_at}
use Rattle.sections.proofs.near.first_sharing.Given as goal

abbrev pub invariant-loop-i : goal.invariant-loop-i
invariant-loop-i l = (l.i ≤ l.n) × (l.i ≤ lowest l.n (shares_at l.other l.words))

abbrev pub decreases-loop-i : goal.decreases-loop-i
decreases-loop-i l = l.n - l.i
