use Rattle.lists.proofs.Kit.{◌∙◌, rules}
use Rattle.audit.proofs.TwoLists.{shares_placed, shares_free}
use Rattle.audit.proofs.checks.free_shares.Goals as goal

pub returns-then-is_some : goal.returns-then-is_some
returns-then-is_some c = c.if-is_some.true ∙ shares_placed _ _ _ c.boxes_in.ensures _ (search rules) _ c.read-section.ensures _ c.first_sharing.ensures (cc)

pub returns-else-is_some : goal.returns-else-is_some
returns-else-is_some c = c.is_some-else-is_some.ensures ∙ shares_free _ _ _ c.boxes_in.ensures _ (search rules) _ c.read-section.ensures _ c.first_sharing.ensures (cc) _ c.first_sharing-else-is_some.ensures
