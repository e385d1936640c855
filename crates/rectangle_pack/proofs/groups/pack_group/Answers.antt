use Rattle.lists.proofs.Kit.{refl, rules}
use Rattle.rectangle_pack.proofs.Serving.{fit_below, fit_few, grouped_served}
use Rattle.rectangle_pack.proofs.groups.pack_group.Goals as goal

pub keep-requires : goal.keep-requires
keep-requires c = (
  c.requires.0.shaped,
  fit_below _ _ _ _ _ _ _ _ _ c.in_ok-fit.ensures _ c.requires.1,
  search (rules, c.requires.2),
  fit_few _ _ _ c.args.group.now _ _ _ _ _ c.in_ok-fit.ensures _ c.requires.0 refl c.requires.1,
)

pub returns : goal.returns
returns c = grouped_served _ _ _ _ _ _ _ _ _ c.in_ok-fit.ensures _ _ c.keep.ensures
