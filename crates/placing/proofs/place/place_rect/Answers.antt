use Rattle.placing.proofs.Placed.{placed_room}
use Rattle.placing.proofs.place.place_rect.Goals as goal

pub replace-count-requires : goal.replace-count-requires
replace-count-requires c =
    (c.requires.0.here, placed_room _ _ _ _ c.in_ok-i.ensures c.requires.0, c.in_ok-i.ensures.within, c.in_ok-i.ensures.fits)
