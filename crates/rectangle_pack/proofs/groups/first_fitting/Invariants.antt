use Rattle.lists.proofs.Kit.{◌≤◌, ◌≡◌, length, get_or}
use Rattle.lists.proofs.Lowests.{None}
use Rattle.target_bin.specs.Store.{free_of}
use Rattle.grouped_rects_to_place.specs.Rect.{rect_at}
use Rattle.packing_rules.specs.Rules.{is_whole}
use Rattle.packing_rules.specs.Packing.{rects_at, trial_in}
use Rattle.rectangle_pack.proofs.groups.first_fitting.Given as goal

abbrev pub invariant-loop-k : goal.invariant-loop-k
invariant-loop-k l = (l.k-index ≤ length l.order) × (length l.copy ≡ length l.initial.copy) × (length l.locations ≡ length l.initial.locations) × None l.k-index (λ i. is_whole (trial_in (rects_at (rect_at l.rects) l.group) (free_of l.chambers l.store) (get_or l.order i 0)))
