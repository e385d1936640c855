use Rattle.lists.proofs.Kit.{ap, ◌∙◌, length}
use Rattle.target_bin.proofs.Parts.{length-part_at, part_in, part_lent, part_back}
use Rattle.rectangle_pack.proofs.Serving.{kept_in}
use Rattle.rectangle_pack.proofs.groups.keep.Goals as goal

pub returns : goal.returns
returns c =
    let long =
    c.copy_sections.auto.to ∙ ap length (part_lent _ _ c.part.ensures _) ∙ length-part_at _ _ (part_in _ _ _ c.requires.0 c.requires.1) in
    kept_in _ _ _ _ _ _ _ _ c.requires.0 c.requires.1 c.requires.3 long c.copy_sections.ensures c.write_count.ensures (part_back _ _ c.part.ensures _ _ long)
