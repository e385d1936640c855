use Rattle.std.proofs.Common.{◌∙◌, sym}
use Rattle.planner.proofs.Short.{list_plan_short}
use Rattle.planner.proofs.plan.plan_text.Goals as goal

pub returns-in-Ok-clause-short : goal.returns-in-Ok-clause-short
returns-in-Ok-clause-short c =
    list_plan_short c.args.text.now c.in-Ok.list c.pack_list-packed.result.answer (sym c.read_list.ensures ∙ c.in-Ok.is) c.pack_list-packed.ensures.answered c.pack_list-packed.ensures.small
