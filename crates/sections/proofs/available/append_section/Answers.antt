use Rattle.lists.proofs.Kit.{rules}
use Rattle.sections.proofs.Moves.{appended}
use Rattle.sections.proofs.available.append_section.Goals as goal

pub returns : goal.returns
returns c = rw c.write.ensures (appended _ _ _ (search rules))
