use Rattle.std.proofs.Common.{rules, arith, ap, ◌∙◌, ◌<◌, length, length-append}
use Rattle.text.specs.Decimal.{decimal}
use Rattle.text.proofs.Decimals.{decimal_most}
use Rattle.text.proofs.put_item.Goals as goal

pub put_decimal-requires : goal.put_decimal-requires
put_decimal-requires g c =
    let small : c.from.result < 4294967296 = search rules in
    (search rules, omega (arith, c.requires, c.push_str.ensures.len, decimal_most c.from.result small))

pub returns-clause-short : goal.returns-clause-short
returns-clause-short g c =
    let small : c.from.result < 4294967296 = search rules in
    let long = ap length c.put_decimal.ensures ∙ length-append c.push_str.new.self.bytes (decimal c.from.result) in
    omega (arith, long, c.push_str.ensures.len, decimal_most c.from.result small)
