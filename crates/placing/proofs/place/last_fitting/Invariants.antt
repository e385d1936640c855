use Rattle.placing.proofs.Finding.{Tried}
use Rattle.placing.proofs.place.last_fitting.Given as goal

abbrev pub invariant-loop-i : goal.invariant-loop-i
invariant-loop-i l = Tried l.count l.incoming l.words l.i
