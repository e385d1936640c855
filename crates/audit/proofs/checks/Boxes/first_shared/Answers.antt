use Rattle.lists.proofs.Kit.{◌≡◌, ◌∙◌, arith, rules}
use mathlib.Core.Path.{sym}
use Rattle.std.proofs.Common.{Some, None}
use Rattle.sections.proofs.Searching.{found_below}
use Rattle.audit.proofs.TwoLists.{shared_placed, shared_nowhere, shared_free}
use Rattle.audit.proofs.checks.Boxes.first_shared.Goals as goal

pub returns-then-is_some : goal.returns-then-is_some
returns-then-is_some c =
    rw (← c.self.view_is) (shared_placed c.self.inside.placed.now c.self.inside.free.now _ c.boxes_in-first.ensures _ c.first_shared-among_placed.ensures (cc))

pub returns-in_err-shared : goal.returns-in_err-shared
returns-in_err-shared c =
    let n : c.from_residual.result ≡ None = search rules in
    let e : c.first_free_shared.result ≡ None = search rules in
    rw (n, ← c.self.view_is) (shared_nowhere c.self.inside.placed.now c.self.inside.free.now _ c.boxes_in-first.ensures _ c.first_shared-among_placed.ensures (cc) (sym e ∙ c.first_free_shared.ensures))

pub overflow_add-result : goal.overflow_add-result
overflow_add-result c =
    let e : c.first_free_shared.result ≡ Some c.in_ok-shared.shared = search rules in
    omega (arith, found_below _ _ _ _ c.first_free_shared.ensures e)

pub returns : goal.returns
returns c =
    let e : c.first_free_shared.result ≡ Some c.in_ok-shared.shared = search rules in
    rw (← c.self.view_is) (shared_free c.self.inside.placed.now c.self.inside.free.now _ c.boxes_in-first.ensures _ c.first_shared-among_placed.ensures (cc) _ (sym e ∙ c.first_free_shared.ensures))
