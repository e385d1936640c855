use Rattle.lists.proofs.Kit.{rules}
use Rattle.audit.proofs.TwoLists.{earliest_both}
use Rattle.audit.proofs.checks.Boxes.earliest_common.Goals as goal

pub returns : goal.returns
returns c =
    rw (← c.self.view_is)
    (earliest_both c.self.inside.placed.now c.self.inside.free.now c.args.j c.at-section.result c.first_common-among_placed.result _ (rw c.self.view_is c.requires) (rw c.self.view_is c.at-section.ensures) (cc) (search rules))
