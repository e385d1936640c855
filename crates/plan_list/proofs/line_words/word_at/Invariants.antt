use Rattle.std.proofs.Common.{◌≡◌, drop}
use Rattle.plan_list.specs.Words.{words_of}
use Rattle.plan_list.proofs.line_words.word_at.Given as goal

abbrev pub invariant-loop : goal.invariant-loop
invariant-loop l = words_of l.rest ≡ drop l.counter (words_of l.fn.line)
