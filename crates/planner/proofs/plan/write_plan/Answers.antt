use Rattle.std.proofs.Common.{◌∙◌}
use Rattle.text.proofs.Writing.{written_as, first_text}
use Rattle.planner.proofs.plan.write_plan.Goals as goal

pub returns : goal.returns
returns c =
    written_as (c.as_bytes.ensures.value ∙ c.as_str.ensures.value ∙ first_text c.new-report.ensures c.put.ensures ∙ c.plan_text.ensures.report) c.write_text.ensures
