-- That `decimal` writes the number: its digits say it, each is one of 0 to 9, and the first is no 0 unless the number is.
use Prim.Native.Nat.{ℕ, zero, suc, ◌+◌, ◌*◌, ◌-◌, ◌/◌, ◌%◌, ◌≤◌, ◌<◌}
use mathlib.Core.Path.{◌≡◌, refl, ◌∙◌}
use mathlib.Core.List.{List, [], ◌∷◌, ◌++◌}
use native.Mathlib.Decide.{dec_lt}
use native.Mathlib.Omega.{arith}
use borrow.Author.Tests.{lt-ltb, le-ltb}
use lib.ListN.{length, get_or, length-append, get_or-append}
use Rattle.lists.specs.Sort.{Each, none, also}
use Rattle.text.specs.Decimal.{digits_in, decimal}

-- the number that digits say, read from the first on
unfoldable pub value_from : ℕ → List ℕ → ℕ
value_from m [] = m
value_from m (d ∷ ds) = value_from (m * 10 + (d - 48)) ds

value_then : (m : ℕ) (ds : List ℕ) (d : ℕ) → value_from m (ds ++ (d ∷ [])) ≡ value_from m ds * 10 + (d - 48)
unfolding value_from
value_then m [] d = refl
value_then m (e ∷ ds) d = value_then (m * 10 + (e - 48)) ds d

-- "0" to "9"
unfoldable pub Digit : ℕ → Type 0
Digit d = (48 ≤ d) × (d ≤ 57)

each_then : (ds : List ℕ) (d : ℕ) → Each Digit ds → Digit d → Each Digit (ds ++ (d ∷ []))
each_then [] d none p = also p none
each_then (e ∷ ds) d (also q qs) p = also q (each_then ds d qs p)

-- the digits say the number, and no fewer would
pub record Says (n : ℕ) (ds : List ℕ) : Type 0 where
  pub value : value_from 0 ds ≡ n
  pub digits : Each Digit ds
  pub some : 0 < length ds
  pub leads : 0 < n → 48 < get_or ds 0 0

last_says : (n : ℕ) → n < 10 → Says n ((48 + n % 10) ∷ [])
unfolding value_from Digit
last_says n h =
    record {
      value = omega arith;
      digits = also {x = 48 + n % 10} (omega arith, omega arith) none;
      some = omega arith;
      leads = λ p. omega arith;
    }

then_says : (n : ℕ) (ds : List ℕ) → 10 ≤ n → Says (n / 10) ds → Says n (ds ++ ((48 + n % 10) ∷ []))
unfolding Digit
then_says n ds h s =
    let d : ℕ = 48 + n % 10 in
    record {
      value = value_then 0 ds d ∙ omega (arith, s.value);
      digits = each_then ds d s.digits (omega arith, omega arith);
      some = omega (arith, length-append ds (d ∷ []));
      leads = λ p. rw (get_or-append ds (d ∷ []) 0 0 s.some) (s.leads (omega arith));
    }

digits_say : (steps n : ℕ) → n ≤ steps → Says n (digits_in steps n)
unfolding digits_in
digits_say zero n h = last_says n (omega arith)
digits_say (suc steps) n h = go (dec_lt n 10) (digits_say steps (n / 10) (omega arith))
  where
    go : Dec (n < 10) → Says (n / 10) (digits_in steps (n / 10)) → Says n (digits_in (suc steps) n)
    go (yes l) rest = rw (lt-ltb n 10 l) (last_says n l)
    go (no l) rest = rw (le-ltb n 10 (omega arith)) (then_says n (digits_in steps (n / 10)) (omega arith) rest)

pub decimal_says : (n : ℕ) → Says n (decimal n)
unfolding decimal
decimal_says n = digits_say n n (omega arith)
