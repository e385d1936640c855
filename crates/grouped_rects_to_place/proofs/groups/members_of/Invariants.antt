use Rattle.lists.proofs.Kit.{◌≡◌}
use Rattle.lists.specs.Pick.{picked}
use Rattle.grouped_rects_to_place.specs.Rect.{rect_at}
use Rattle.grouped_rects_to_place.specs.Groups.{same_group}
use Rattle.grouped_rects_to_place.proofs.groups.members_of.Given as goal

abbrev pub invariant-loop-j : goal.invariant-loop-j
invariant-loop-j g l = l.out.items ≡ picked l.j (same_group (rect_at l.rects) l.lead)
