-- What is longer than the buffer gets the same report.
use Rattle.reading.proofs.Fronts.{written_whole}
use Rattle.planner.specs.Plan.{plan_of}
use Rattle.planner.proofs.Cutting.{cut_plan}
use Rattle.plan.proofs.run.Goals as goal

pub returns : goal.returns
returns g c =
    record { report = written_whole _ _ _ _ plan_of 65537 c.read_full.new.buf _ cut_plan c.read_full.auto.buf c.in_ok-n.ensures.front c.print_plan.ensures }
