use Rattle.std.proofs.Common.{◌<◌, ℕ, false}
use Rattle.lists.proofs.lowest_index.Given as goal

-- the test said no at each index before i
abbrev pub invariant-loop-i : goal.invariant-loop-i
invariant-loop-i g l = (k : ℕ) → k < l.i → goal.F-post g l.test k false
