use Rattle.lists.proofs.Kit.{refl, rules}
use Rattle.target_bin.proofs.Parts.{part_lent}
use Rattle.placing.proofs.Copying.{words_through, words_reaching, trial_here}
use Rattle.placing.proofs.chamber.place_in.Goals as goal

pub place_group-requires : goal.place_group-requires
place_group-requires c = (
  words_through _ _ _ _ c.requires.0 c.requires.1 _ c.read-bin.ensures _ (part_lent _ _ c.part.ensures _) _ c.copy_sections.ensures _ c.args.group.now (search rules) refl,
  words_reaching _ _ _ _ c.requires.0 c.requires.1 _ c.read-bin.ensures _ (part_lent _ _ c.part.ensures _) _ c.copy_sections.ensures,
  c.requires.2,
  c.requires.4,
)

pub returns : goal.returns
returns c =
    trial_here _ _ _ _ c.requires.0 c.requires.1 _ c.read-bin.ensures _ (part_lent _ _ c.part.ensures _) _ c.copy_sections.ensures _ _ _ c.place_group.ensures
