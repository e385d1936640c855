use Rattle.neighbours.proofs.Finding.{SoFar}
use Rattle.neighbours.proofs.joining.join_all.Given as goal

abbrev pub invariant-loop-first : goal.invariant-loop-first
invariant-loop-first l = SoFar l.initial.words l.n l.words l.left l.from

abbrev pub decreases-loop-first : goal.decreases-loop-first
decreases-loop-first l = l.left
