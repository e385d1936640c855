use Rattle.rectangle_pack.proofs.Ending.{packing_done}
use Rattle.rectangle_pack.proofs.packing.pack_checked.Goals as goal

pub returns : goal.returns
returns c =
    packing_done _ _ _ c.args.placements.now _ _ _ _ _ _ c.requires.places_long c.clear_placements.ensures c.pack_groups-answer.ensures c.clear_tails.ensures
