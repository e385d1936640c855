use Rattle.lists.proofs.Kit.{rules, ap, ◌∙◌}
use Rattle.std.specs.Option.{is_some}
use lib.Dec.{eqb}
use Rattle.lists.proofs.LowestIndex.{index_any}
use Rattle.grouped_rects_to_place.specs.Rect.{rect_at}
use Rattle.grouped_rects_to_place.specs.Checks.{repeated_id}
use Rattle.grouped_rects_to_place.proofs.checks.repeated.Goals as goal

pub returns : goal.returns
unfolding repeated_id
returns c =
    c.is_some.ensures
    ∙ ap is_some (c.lowest_index.ensures (λ j. eqb (rect_at c.args.rects.now j).id (rect_at c.args.rects.now c.args.i).id) (λ j b h p. search rules))
    ∙ index_any _ _
