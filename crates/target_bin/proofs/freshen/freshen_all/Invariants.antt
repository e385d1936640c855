use Rattle.target_bin.proofs.Freshening.{Freshly}
use Rattle.target_bin.proofs.freshen.freshen_all.Given as goal

abbrev pub invariant-loop-i : goal.invariant-loop-i
invariant-loop-i l = Freshly l.fn.chambers l.fn.store l.chambers l.store l.i
