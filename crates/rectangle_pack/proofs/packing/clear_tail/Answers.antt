use Rattle.lists.proofs.Kit.{rules}
use Rattle.target_bin.proofs.Parts.{lend}
use Rattle.sections.specs.Leaning.{Cleared}
use Rattle.rectangle_pack.proofs.packing.clear_tail.Goals as goal

pub returns : goal.returns
returns c =
    rw c.part.ensures
    (lend (Cleared _) _ _ _ (rw c.part.ensures at c.clear_past.auto.words) (rw (c.part.ensures, c.read-bin.ensures) at c.clear_past.ensures) (search rules))
