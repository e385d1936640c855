use Rattle.lists.proofs.Kit.{◌∙◌, sym, ap, arith, length}
use mathlib.Core.List.{List, [], ◌∷◌, ◌++◌}
use Prim.Native.Nat.{ℕ}
use Rattle.lists.specs.Pick.{picked}
use Rattle.lists.proofs.Picks.{pick_yes, pick_no, length_pick}
use Rattle.grouped_rects_to_place.proofs.groups.members_of.Goals as goal
use Rattle.grouped_rects_to_place.proofs.groups.members_of.Goals.{then-same_group, else-same_group}

pub loop-j-init : goal.loop-j-init
unfolding picked
loop-j-init g c = c.clear.ensures

pub push-requires : goal.push-requires
push-requires g c = omega (arith, ap length c.loop-j.invariant, length_pick c.loop-j.j)

pub loop-j-preserved : goal.loop-j-preserved
loop-j-preserved g c =
    elim c.if-same_group.branch [
      | then-same_group w ↦
          ap (λ v. v.items) w.out-is
          ∙ w.push.ensures.items
          ∙ ap (λ (l : List ℕ). l ++ (c.loop-j.j ∷ [])) c.loop-j.invariant
          ∙ sym (pick_yes c.loop-j.j _ (sym c.same_group.ensures ∙ w.if-same_group.true))
      | else-same_group w ↦
          ap (λ v. v.items) w.out-is ∙ c.loop-j.invariant ∙ sym (pick_no c.loop-j.j _ (sym c.same_group.ensures ∙ w.if-same_group.false))
    ]
