use Rattle.std.proofs.Common.{◌≡◌, ◌+◌, ◌≤◌, length}
use Rattle.plan_list.specs.Words.{words_of}
use Rattle.plan_list.proofs.line_words.count_words.Given as goal

abbrev pub invariant-loop-rest : goal.invariant-loop-rest
invariant-loop-rest l = record {
  words : l.n + length (words_of l.rest) ≡ length (words_of l.fn.line);
  room : l.n + length l.rest ≤ length l.fn.line;
}

abbrev pub decreases-loop-rest : goal.decreases-loop-rest
decreases-loop-rest l = length l.rest
