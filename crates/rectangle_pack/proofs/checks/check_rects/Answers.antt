use Rattle.lists.proofs.Kit.{arith}
use Rattle.replies.proofs.Ladders.{checks, index_below}
use Rattle.rectangle_pack.specs.Pack.{rect_checks}
use Rattle.rectangle_pack.proofs.checks.check_rects.Goals as goal

pub overflow_cast-result : goal.overflow_cast-result
overflow_cast-result c = omega (arith, index_below _ _ _ c.first_bad_rect.ensures _ c.in-Some.is, c.requires)

pub returns-in-Some : goal.returns-in-Some
unfolding rect_checks
returns-in-Some c = search checks

pub overflow_cast-result-in-Some-first_repeated : goal.overflow_cast-result-in-Some-first_repeated
overflow_cast-result-in-Some-first_repeated c = omega (arith, index_below _ _ _ c.first_repeated.ensures _ c.in-Some-first_repeated.is, c.requires)

pub returns-in-Some-first_repeated : goal.returns-in-Some-first_repeated
unfolding rect_checks
returns-in-Some-first_repeated c = search checks

pub overflow_cast-result-in-Some-first_without_room : goal.overflow_cast-result-in-Some-first_without_room
overflow_cast-result-in-Some-first_without_room c =
    omega (arith, index_below _ _ _ c.first_without_room.ensures _ c.in-Some-first_without_room.is, c.requires)

pub returns-in-Some-first_without_room : goal.returns-in-Some-first_without_room
unfolding rect_checks
returns-in-Some-first_without_room c = search checks

pub returns : goal.returns
unfolding rect_checks
returns c = search checks
