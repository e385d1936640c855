use Rattle.lists.proofs.Kit.{rules}
use Rattle.sections.proofs.Moves.{removed}
use Rattle.sections.proofs.available.remove_section.Goals as goal

pub returns : goal.returns
returns c = search (rules, removed)
