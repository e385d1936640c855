use Rattle.lists.proofs.Kit.{sym, ◌∙◌, not-false}
use Rattle.try_place.proofs.Trying.{reachable, fitting}
use Rattle.try_place.proofs.Refusing.{answer_fits}
use Rattle.try_place.proofs.try_placement.Goals as goal

pub chosen_three-requires : goal.chosen_three-requires
chosen_three-requires c =
    let p = answer_fits _ _ _ (sym c.answer_to-answer.ensures ∙ c.in-Ok.is) in
    fitting _ _ (reachable _ (not-false _ p.0)) p.1
