use Rattle.lists.proofs.Kit.{◌≡◌, ◌∙◌, arith, rules}
use mathlib.Core.Path.{sym}
use Rattle.std.proofs.Common.{Some, None}
use Rattle.bin_section.specs.Inside.{outside}
use Rattle.sections.specs.Inside.{outside_at}
use Rattle.sections.proofs.Searching.{found_below}
use Rattle.audit.proofs.TwoLists.{tested_placed, tested_nowhere, tested_free}
use Rattle.audit.proofs.checks.Boxes.first_outside.Goals as goal

pub returns-then-is_some : goal.returns-then-is_some
returns-then-is_some c =
    rw (← c.self.view_is) (tested_placed c.self.inside.placed.now c.self.inside.free.now _ c.boxes_in-first.ensures (outside c.args.whd) _ c.first_outside-among_placed.ensures (cc))

pub returns-in_err-out : goal.returns-in_err-out
returns-in_err-out c =
    let n : c.from_residual.result ≡ None = search rules in
    let e : c.first_outside.result ≡ None = search rules in
    rw (n, ← c.self.view_is) (tested_nowhere c.self.inside.placed.now c.self.inside.free.now _ c.boxes_in-first.ensures (outside c.args.whd) _ c.first_outside-among_placed.ensures (cc) _ c.boxes_in.ensures (sym e ∙ c.first_outside.ensures))

pub overflow_add-result : goal.overflow_add-result
overflow_add-result c =
    let e : c.first_outside.result ≡ Some c.in_ok-out.out = search rules in
    omega (arith, found_below _ _ (outside_at c.args.whd c.self.inside.free.now) _ c.first_outside.ensures e)

pub returns : goal.returns
returns c =
    let e : c.first_outside.result ≡ Some c.in_ok-out.out = search rules in
    rw (← c.self.view_is) (tested_free c.self.inside.placed.now c.self.inside.free.now _ c.boxes_in-first.ensures (outside c.args.whd) _ c.first_outside-among_placed.ensures (cc) _ c.boxes_in.ensures _ (sym e ∙ c.first_outside.ensures))
