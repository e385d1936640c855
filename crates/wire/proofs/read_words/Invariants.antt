use Rattle.lists.proofs.Kit.{◌<◌, ◌≡◌, ℕ, get_or}
use Rattle.wire.specs.Word.{word_at}
use Rattle.wire.proofs.read_words.Given as goal

-- the words before the index are read
abbrev pub invariant-loop-i : goal.invariant-loop-i
invariant-loop-i l = (k : ℕ) → k < l.i → get_or l.word-items k 0 ≡ word_at l.bytes k
