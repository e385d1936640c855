use Rattle.lists.proofs.Kit.{◌≤◌, ◌*◌, ◌≡◌}
use Rattle.grouped_rects_to_place.specs.Rect.{rect_at}
use Rattle.grouped_rects_to_place.specs.Groups.{share}
use Rattle.lists.specs.Sum.{sum_to}
use Rattle.grouped_rects_to_place.proofs.groups.group_volume.Given as goal

abbrev pub invariant-loop-j : goal.invariant-loop-j
invariant-loop-j l = (l.sum ≡ sum_to l.j (share (rect_at l.rects) l.lead)) × (l.sum ≤ l.j * 281462092005375)
