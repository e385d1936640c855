use Rattle.lists.proofs.Kit.{refl, ◌∙◌}
use Rattle.target_bin.proofs.Parts.{part_lent}
use Rattle.placing.proofs.Copying.{part_holds, words_reaching, place_here}
use Rattle.placing.proofs.Placed.{taken_told}
use Rattle.placing.proofs.chamber.has_place.Goals as goal

pub last_fitting-requires : goal.last_fitting-requires
last_fitting-requires c =
    (part_holds _ _ _ _ c.requires.0 c.requires.1 _ c.read-bin.ensures _ (part_lent _ _ c.part.ensures _), words_reaching _ _ _ _ c.requires.0 c.requires.1 _ c.read-bin.ensures _ (part_lent _ _ c.part.ensures _) _ refl)

pub returns : goal.returns
returns c =
    c.is_some.ensures ∙ rw (← c.read.ensures) (place_here _ _ _ _ c.requires.0 c.requires.1 _ c.read-bin.ensures _ (part_lent _ _ c.part.ensures _) _ _ (taken_told _ _ _ _ c.last_fitting.ensures))
