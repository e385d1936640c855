use Rattle.std.proofs.Common.{rules, arith, ap, ◌∙◌, ◌<◌, ◌^◌, length, length-append}
use Rattle.text.specs.Decimal.{decimal}
use Rattle.text.proofs.Decimals.{decimal_most_64}
use Rattle.plan_report.proofs.summary.put_count.Goals as goal

pub put_decimal-requires : goal.put_decimal-requires
put_decimal-requires c =
    let small : c.args.n < 2 ^ 64 = search rules in
    (search rules, omega (arith, c.requires, decimal_most_64 c.args.n small))

pub returns-clause-short : goal.returns-clause-short
returns-clause-short c =
    let small : c.args.n < 2 ^ 64 = search rules in
    omega (arith, ap length c.put_decimal.ensures ∙ length-append c.args.out.now.bytes (decimal c.args.n), decimal_most_64 c.args.n small)
