use Rattle.lists.proofs.Kit.{◌≡◌, length}
use Rattle.grouped_rects_to_place.specs.Rect.{rect_at, rect_count}
use Rattle.rectangle_pack.proofs.Running.{Running}
use Rattle.rectangle_pack.proofs.packing.pack_groups.Given as goal

abbrev pub invariant-loop-lead : goal.invariant-loop-lead
invariant-loop-lead l = record {
  running : Running (rect_at l.rects) (rect_count l.rects) l.initial.chambers l.initial.store l.initial.placements l.lead-index l.chambers l.store l.placements;
  copy_long : length l.copy ≡ 768;
  locations_long : length l.locations ≡ 378;
}
