use Rattle.lists.proofs.Kit.{rules}
use Rattle.sections.proofs.Moves.{copied_sections}
use Rattle.sections.proofs.available.copy_sections.Goals as goal

pub returns : goal.returns
returns c = rw c.copy_from_slice.ensures.after (copied_sections _ _ _ (search rules))
