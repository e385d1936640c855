use Rattle.std.proofs.Common.{rules, arith, length, ap, ◌<◌, ◌^◌}
use Rattle.text.proofs.Decimals.{decimal_most_64}
use Rattle.text.proofs.put_decimal.Goals as goal

pub push_digits-requires : goal.push_digits-requires
push_digits-requires g c =
    let small : c.args.n < 2 ^ 64 = search rules in
    omega (arith, ap length c.new-digits.ensures, decimal_most_64 c.args.n small)
