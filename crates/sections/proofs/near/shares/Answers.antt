use Rattle.bin_section.proofs.Sharing.{told}
use Rattle.sections.proofs.near.shares.Goals as goal

pub returns-then-near : goal.returns-then-near
returns-then-near c = let e = told _ _ _ c.overlaps.ensures in cc
