use Rattle.std.proofs.Common.{◌≡◌, drop}
use Rattle.plan_list.specs.Number.{said, said_after}
use Rattle.plan_list.proofs.number.number_of.Given as goal

abbrev pub invariant-loop-b : goal.invariant-loop-b
invariant-loop-b l = said l.word ≡ said_after l.n (drop l.b-index l.word)
