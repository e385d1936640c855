-- What is written is the report.
use Rattle.std.proofs.Common.{◌∙◌, subst}
use Rattle.std.specs.Result.{OnOk}
use Rattle.std.specs.Io.KnownBytes.{Appends}
use Rattle.text.proofs.Writing.{first_text}
use Rattle.planner.proofs.plan.print_plan.Goals as goal

pub returns : goal.returns
returns g c =
    subst (λ text. OnOk c.write_all.result (Appends (g.W.Write.contents c.args.output.now) (g.W.Write.contents c.write_all.new.self) text))
    (c.as_bytes.ensures.value ∙ c.as_str.ensures.value ∙ first_text c.new-out.ensures c.put.ensures ∙ c.plan_text.ensures.report)
    c.write_all.ensures.bytes
