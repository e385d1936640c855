use Rattle.lists.proofs.Kit.{arith}
use Rattle.neighbours.proofs.Finding.{so_far_none, so_far_more, so_far_end, in_words}
use Rattle.neighbours.proofs.joining.join_all.Goals as goal

pub loop-first-init : goal.loop-first-init
loop-first-init c = so_far_none _ _ c.requires.0 c.requires.1

pub overflow_sub-left : goal.overflow_sub-left
overflow_sub-left c =
    let a = c.in-Some.ensures in
    (in_words _ _ _ _ _ _ c.loop-first.invariant a.0 _ a.1 a.2 c.join_first.auto.words).0

pub first_before-requires : goal.first_before-requires
first_before-requires c =
    let a = c.in-Some.ensures in
    (in_words _ _ _ _ _ _ c.loop-first.invariant a.0 _ a.1 a.2 c.join_first.auto.words).1

pub loop-first-smaller : goal.loop-first-smaller
loop-first-smaller c =
    let a = c.in-Some.ensures in
    omega (arith, in_words _ _ _ _ _ _ c.loop-first.invariant a.0 _ a.1 a.2 c.join_first.auto.words)

pub loop-first-preserved : goal.loop-first-preserved
loop-first-preserved c =
    let a = c.in-Some.ensures in
    so_far_more _ _ _ _ _ _ c.loop-first.invariant a.0 _ a.1 a.2 c.join_first.auto.words _ _ c.first_before.ensures c.unwrap_or-from.ensures

pub returns : goal.returns
returns c =
    let a = c.in_default.ensures in
    let e = so_far_end _ _ _ _ _ _ c.loop-first.invariant a.0 a.1 in
    record { result_after = e.0; n_value = e.1 }
