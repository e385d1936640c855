use Rattle.std.proofs.Common.{◌∙◌, ◌<◌, ◌^◌, ap, subst, get_or, rules}
use Rattle.lists.specs.Tab.{tab}
use Rattle.placement.specs.Placements.{placement_at}
use Rattle.planner.proofs.Packing.{packed_is, zeros_lent}
use Rattle.planner.proofs.packed.pack_list.Goals as goal

pub returns : goal.returns
returns c =
    let e = c.pack_fresh-answer.ensures ∙ packed_is c.args.list.now _ _ _ _ (search rules) (zeros_lent 768 16 _ _ c.len-bins.ensures.fits c.len-bins.ensures.value) (search rules) (zeros_lent 5 63 _ _ c.len-n.ensures.fits c.len-n.ensures.value) in
    record {
      placed = rw (← c.len-n.ensures.value) (c.read_placements.ensures.items ∙ ap (λ o. tab c.len-n.result (placement_at o.placements)) e);
      answered = ap (λ o. o.reply) e;
      small = λ k. subst (λ o. get_or o.placements k 0 < 2 ^ 32) e (c.read_placements.ensures.small k);
    }
