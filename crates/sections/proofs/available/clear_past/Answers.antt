use Rattle.lists.proofs.Kit.{rules}
use Rattle.lists.proofs.Tabs.{lent}
use Rattle.sections.proofs.Moves.{cleared}
use Rattle.sections.proofs.available.clear_past.Goals as goal

pub returns : goal.returns
returns c = cleared _ _ c.requires _ (search (rules, lent))
