use Rattle.wire.proofs.Filling.{WordsWritten}
use Rattle.wire.proofs.write_words.Given as goal

abbrev pub invariant-loop-i : goal.invariant-loop-i
invariant-loop-i l = WordsWritten l.words l.initial.bytes l.n l.i l.bytes
