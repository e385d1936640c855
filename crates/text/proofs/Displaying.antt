-- That the library writes a number as `decimal` says.
use Prim.Native.Nat.{ℕ, suc, ◌+◌, ◌^◌, ◌<◌}
use mathlib.Core.Path.{◌≡◌, sym, ap, ◌∙◌}
use mathlib.Core.List.{[], ◌∷◌}
use native.Mathlib.Omega.{arith}
use borrow.Author.Tests.{le-ltb}
use Rattle.std.specs.Fmt as std
use Rattle.std.proofs.lemmas.Fmt.{AppendsLastDigit, decimal_from_appends, length-decimal-le_succ}
use Rattle.text.specs.Decimal.{digits_in, decimal}
use Rattle.text.proofs.Decimals.{one_digit, steps}

appends : AppendsLastDigit digits_in
unfolding digits_in
appends = record {
  one = λ k n h. one_digit (suc k) n h ∙ ap (λ (m : ℕ). (48 + m) ∷ []) (omega arith);
  more = λ k n h. rw (le-ltb n 10 h);
}

pub decimal_std : (n : ℕ) → n < 2 ^ 64 → std.decimal n ≡ decimal n
unfolding decimal
decimal_std n h =
    sym (decimal_from_appends digits_in appends (n + 1) n h (length-decimal-le_succ n h))
    ∙ steps (n + 1) n n (omega arith) (omega arith)
