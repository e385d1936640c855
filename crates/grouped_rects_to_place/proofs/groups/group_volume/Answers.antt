use Rattle.lists.proofs.Kit.{ℕ, ◌+◌, refl, ap, sym, ◌∙◌, arith, add-one}
use mathlib.Core.Path.{ap₂}
use Rattle.bin_section.specs.Sides.{volume_of}
use Rattle.lists.specs.Sum.{sum_to}
use Rattle.lists.proofs.Flags.{cond_yes, cond_no}
use Rattle.grouped_rects_to_place.specs.declared.rect_to_place.RectToPlace.{RectToPlace}
use Rattle.grouped_rects_to_place.specs.Rect.{rect_at}
use Rattle.grouped_rects_to_place.specs.Groups.{share, group_volume}
use Rattle.grouped_rects_to_place.proofs.groups.group_volume.Goals as goal
use Rattle.grouped_rects_to_place.proofs.groups.group_volume.Goals.{then-same_group, else-same_group}

pub loop-j-init : goal.loop-j-init
unfolding sum_to
loop-j-init c = (refl, omega arith)

pub loop-j-preserved : goal.loop-j-preserved
unfolding sum_to share
loop-j-preserved c =
    let r = rect_at c.args.rects.now in
    elim c.if-same_group.branch [
      | then-same_group w ↦
          let v = w.volume-sum.ensures.0 ∙ ap (λ (q : RectToPlace). volume_of q.whd) w.read.ensures ∙ sym (cond_yes (volume_of (r c.loop-j.j).whd) 0 _ (sym c.same_group.ensures ∙ w.if-same_group.true)) in
          (rw add-one (w.sum-is ∙ ap₂ ◌+◌ c.loop-j.invariant.0 v), omega arith)
      | else-same_group w ↦
          let z = cond_no (volume_of (r c.loop-j.j).whd) 0 _ (sym c.same_group.ensures ∙ w.if-same_group.false) in
          (rw add-one (w.sum-is ∙ omega (arith, z)), omega arith)
    ]

pub returns : goal.returns
unfolding group_volume
returns c =
    c.loop-j.invariant.0
    ∙ ap (λ (m : ℕ). sum_to m (share (rect_at c.args.rects.now) c.args.lead))
    (omega arith)
