use Rattle.std.proofs.Common.{arith}
use Rattle.text.proofs.Decimals.{decimal_one, decimal_more, length_one, length_more}
use Rattle.text.proofs.Writing.{behind_then, room_then}
use Rattle.text.proofs.+push_digits.Goals as goal

pub push_digit-requires : goal.push_digit-requires
push_digit-requires t c = (omega (arith, c.requires, length_one c.args.n c.if-n-lt10.true), omega (arith, c.last_digit.ensures))

pub returns-then-n-lt10 : goal.returns-then-n-lt10
returns-then-n-lt10 t c = rw (decimal_one c.args.n c.if-n-lt10.true, ← c.last_digit.ensures) c.push_digit.ensures

pub push_digits-requires : goal.push_digits-requires
push_digits-requires t c = (omega arith, omega (arith, c.requires, length_more c.args.n c.if-n-lt10.false))

pub push_digit-requires-2 : goal.push_digit-requires-2
push_digit-requires-2 t c =
    (omega (arith, room_then _ _ _ c.push_digits.ensures (rw (decimal_more c.args.n c.if-n-lt10.false) at c.requires)), omega (arith, c.last_digit-2.ensures))

pub returns : goal.returns
returns t c =
    rw (decimal_more c.args.n c.if-n-lt10.false, ← c.last_digit-2.ensures) (behind_then _ _ _ c.push_digits.ensures c.push_digit-2.ensures)
