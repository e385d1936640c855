use Rattle.lists.proofs.Kit.{sym, ◌∙◌}
use Rattle.plan_report.proofs.Looping.{goes_placed}
use Rattle.plan_report.proofs.coils.Coil.put_goes.Goals as goal

pub returns-then-placed-clause-bytes : goal.returns-then-placed-clause-bytes
returns-then-placed-clause-bytes c =
    goes_placed c.args.self.now.placement c.args.out.now.bytes _ _ (sym c.is_placed-placed.ensures ∙ c.if-placed.true) c.put_item.ensures.bytes c.put_place.ensures.bytes
