use Rattle.std.proofs.Common.{true, false, sym, arith}
use Rattle.lists.proofs.LowestIndex.{index_here, index_nowhere}
use Rattle.lists.proofs.lowest_index.Goals as goal

pub returns-then-test : goal.returns-then-test
returns-then-test g c f agrees =
    let l = c.loop-i-test.true in
    sym (index_here c.args.n c.loop-i.i f (record { at = λ k h. sym (agrees k false (omega (arith, h, l)) (c.loop-i.invariant k h)) }) l (sym (agrees c.loop-i.i true l c.if-test.ensures)))

pub returns : goal.returns
returns g c f agrees = sym (index_nowhere c.args.n f (record { at = λ k h. sym (agrees k false h (c.loop-i.invariant k (omega (arith, h, c.loop-i-test.false)))) }))
