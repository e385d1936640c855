use Rattle.lists.proofs.Kit.{◌≤◌, ◌≡◌, ap, sym, ◌∙◌, List, ℕ, Bool, true, length, arith}
use Rattle.replies.proofs.Ladders.{checks, index_none_at, index_below}
use Rattle.bin_section.specs.declared.section.BinSection.{BinSection}
use Rattle.audit.specs.Audit.{audit_boxes, box_lists_ok, audit_reply}
use Rattle.audit.proofs.TwoLists.{boxes_length}
use Rattle.audit.proofs.Tests.{chamber_small, none_inside}
use Rattle.audit.proofs.Replying.{box_lengths}
use Rattle.audit.proofs.audit_reply.Goals as goal

-- what is known past the first check
few : (placed free : List ℕ) (ok : Bool) (boxes : List BinSection) → ok ≡ box_lists_ok (length placed) (length free) → ok ≡ true → boxes ≡ audit_boxes placed free → length boxes ≤ 1024
few placed free ok boxes e h b = omega (arith, (box_lengths (length placed) (length free) (sym e ∙ h)).few, boxes_length placed free, ap length b)

pub returns-then-not-lengths_ok : goal.returns-then-not-lengths_ok
unfolding audit_reply
returns-then-not-lengths_ok c = search checks

pub returns-then-not-in_range : goal.returns-then-not-in_range
unfolding audit_reply
returns-then-not-in_range c = search checks

pub overflow_cast-result : goal.overflow_cast-result
overflow_cast-result c =
    let n = few _ _ _ _ c.lengths_ok.ensures c.if-not-lengths_ok.false c.new-boxes.ensures in
    omega (arith, n, index_below _ _ _ c.first_outside.ensures _ c.in-Some.is)

pub returns-in-Some : goal.returns-in-Some
unfolding audit_reply
returns-in-Some c = rw (← c.new-boxes.ensures) (search checks)

pub overflow_cast-result-in-Some-first_shared : goal.overflow_cast-result-in-Some-first_shared
overflow_cast-result-in-Some-first_shared c =
    let n = few _ _ _ _ c.lengths_ok.ensures c.if-not-lengths_ok.false c.new-boxes.ensures in
    omega (arith, n, index_below _ _ _ c.first_shared.ensures _ c.in-Some-first_shared.is)

pub returns-in-Some-first_shared : goal.returns-in-Some-first_shared
unfolding audit_reply
returns-in-Some-first_shared c = rw (← c.new-boxes.ensures) (search checks)

pub fill-requires : goal.fill-requires
fill-requires c = (
  chamber_small _ (sym c.in_range.ensures ∙ c.if-not-in_range.false),
  few _ _ _ _ c.lengths_ok.ensures c.if-not-lengths_ok.false c.new-boxes.ensures,
  none_inside _ _ (index_none_at _ _ _ c.first_outside.ensures c.in_default.is),
)

pub returns-then-not-fill : goal.returns-then-not-fill
unfolding audit_reply
returns-then-not-fill c = rw (← c.new-boxes.ensures) (search checks)

pub returns : goal.returns
unfolding audit_reply
returns c = rw (← c.new-boxes.ensures) (search checks)
