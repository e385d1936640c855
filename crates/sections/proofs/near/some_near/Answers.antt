use Rattle.sections.specs.Inside.{shares_at}
use Rattle.sections.proofs.Nearing.{four_far}
use Rattle.std.proofs.Common.{leb-false}
use Rattle.sections.proofs.near.some_near.Goals as goal

pub returns : goal.returns
returns c e =
    four_far (shares_at c.args.other c.args.words.now) c.args.i _ _ _ _ c.nearness_at-first.ensures
    c.nearness_at-second.ensures c.nearness_at-third.ensures c.nearness_at-fourth.ensures (leb-false _ _ e)
