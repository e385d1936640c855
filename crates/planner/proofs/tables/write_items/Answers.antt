use Rattle.lists.proofs.Kit.{◌*◌, ap, ◌∙◌}
use Rattle.lists.specs.Tab.{put}
use Rattle.planner.proofs.Filling.{filled_none, filled_more, filled_all}
use Rattle.planner.proofs.tables.write_items.Goals as goal

pub loop-i-init : goal.loop-i-init
loop-i-init g c = filled_none _ _ c.args.list.now _

pub loop-i-preserved : goal.loop-i-preserved
loop-i-preserved g c =
    c.write.ensures
    ∙ ap (λ w. put w (c.loop-i.i * g.row.N) (g.T.Record.record_words c.index-list-i.result.item)) c.loop-i.invariant
    ∙ filled_more _ _ _ _ (λ e. g.T.Record.layout.size e.item) _ _ c.loop-i-test.true c.index-list-i.is

pub returns : goal.returns
returns g c = c.loop-i.invariant ∙ filled_all _ _ _ _ c.requires _ c.loop-i-test.false c.loop-i.auto.i-end
