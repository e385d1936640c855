use Rattle.lists.proofs.Kit.{arith}
use Rattle.wire.proofs.Filling.{words_read}
use Rattle.std.proofs.Common.{length-take-le}
use Rattle.wire.proofs.read_words.Goals as goal

pub returns : goal.returns
returns c =
    let whole = length-take-le c.args.n c.args.words.now c.requires.1 in
    words_read _ _ _ _ c.loop-i.i (omega (arith, whole, c.loop-i-test.false)) (omega (arith, whole, c.loop-i.auto.word-items)) c.loop-i.invariant
