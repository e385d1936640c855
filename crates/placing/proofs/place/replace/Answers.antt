use Rattle.lists.proofs.Kit.{rules}
use Rattle.try_place.proofs.Remaining.{chosen_small}
use Rattle.placing.proofs.place.replace.Goals as goal

pub add_new_sections-requires : goal.add_new_sections-requires
add_new_sections-requires c =
    (rw (c.chosen_three-three.ensures, c.read-section.ensures) (search rules), rw (c.chosen_three-three.ensures, c.read-section.ensures) (chosen_small _ _ c.requires.3))
