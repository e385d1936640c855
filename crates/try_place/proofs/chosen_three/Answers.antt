use Rattle.try_place.proofs.Trying.{small_splits}
use Rattle.try_place.proofs.chosen_three.Goals as goal

pub choose-requires : goal.choose-requires
choose-requires c = rw c.six_splits-splits.ensures (small_splits _ _ c.requires)
