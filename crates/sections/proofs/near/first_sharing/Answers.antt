use Rattle.lists.proofs.Kit.{rules}
use Rattle.lists.proofs.Lowests.{among_come}
use Rattle.sections.proofs.Searching.{found_among, none_among}
use Rattle.sections.proofs.near.first_sharing.Goals as goal

pub first_from-found-requires : goal.first_from-found-requires
first_from-found-requires c = (search rules, search rules, among_come _ _ _ (search rules) _ (search rules) c.loop-i.invariant.1)

pub returns-then-is_some : goal.returns-then-is_some
returns-then-is_some c = found_among _ _ _ (search rules) _ c.first_from-found.ensures (search rules)

pub pass_over-i-requires-in-loop-i : goal.pass_over-i-requires-in-loop-i
pass_over-i-requires-in-loop-i c = (search rules, none_among _ _ _ (search rules) _ c.first_from-found.ensures (search rules))
