use Rattle.lists.proofs.Kit.{ap, ◌∙◌, rules}
use Rattle.neighbours.proofs.Finding.{pair_none, pair_some, pair_low}
use Rattle.neighbours.specs.Joining.{joined_at}
use Rattle.neighbours.proofs.joining.join_first.Goals as goal

pub returns-in_err-pair : goal.returns-in_err-pair
returns-in_err-pair c =
    let none = pair_none _ _ c.first_pair.ensures (search rules) in
    search rules

pub join_pair-requires : goal.join_pair-requires
join_pair-requires c =
    let low = pair_low _ _ _ c.first_pair.ensures _ (search rules) in
    (c.requires.0, low.0, low.1, c.requires.1)

pub returns : goal.returns
returns c =
    let some = pair_some _ _ c.first_pair.ensures c.in_ok-pair.pair (search rules) in
    (some.0, ap (λ p. p.first) some.1, c.join_pair.ensures ∙ ap (joined_at _) some.1)
