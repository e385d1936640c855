use Rattle.rectangle_pack.proofs.Tidying.{Tidying}
use Rattle.rectangle_pack.proofs.packing.clear_tails.Given as goal

abbrev pub invariant-loop-k : goal.invariant-loop-k
invariant-loop-k l = Tidying l.chambers l.initial.store l.k l.store
