use Rattle.neighbours.proofs.Finding.{ends_at, pair_written}
use Rattle.neighbours.proofs.joining.join_pair.Goals as goal

pub joined_box-requires : goal.joined_box-requires
joined_box-requires c =
    (ends_at _ _ _ _ c.requires.3 c.requires.1 c.read-first.ensures, ends_at _ _ _ _ c.requires.3 c.requires.2 c.read-second.ensures)

pub returns : goal.returns
returns c =
    pair_written _ _ _ _ _ _ _ _ c.requires.0 c.requires.1 c.requires.2 c.read-first.ensures c.read-second.ensures c.joined_box.ensures c.write.ensures c.remove_section.ensures
