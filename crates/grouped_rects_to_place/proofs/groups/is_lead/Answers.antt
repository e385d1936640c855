use Rattle.lists.proofs.Kit.{rules, ap, sym, ◌∙◌}
use Rattle.std.specs.Option.{is_some}
use Rattle.lists.proofs.LowestIndex.{index_end}
use Rattle.grouped_rects_to_place.specs.Rect.{rect_at}
use Rattle.grouped_rects_to_place.specs.Groups.{same_group, lead_of, is_lead}
use Rattle.grouped_rects_to_place.proofs.groups.is_lead.Goals as goal

pub returns : goal.returns
unfolding is_lead lead_of
returns c =
    index_end _ _ _
    (sym (ap is_some (c.lowest_index.ensures (λ j. same_group (rect_at c.args.rects.now) j c.args.i) (λ j b h p. search rules)))
    ∙ c.is_none.ensures)
