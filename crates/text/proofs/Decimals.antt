-- Laws of `decimal`: one digit, one digit more, and how many there are.
use Prim.Native.Nat.{ℕ, zero, suc, ◌+◌, ◌*◌, ◌/◌, ◌%◌, ◌^◌, ◌≤◌, ◌<◌}
use mathlib.Core.Path.{◌≡◌, refl, sym, ap, ◌∙◌}
use mathlib.Core.List.{List, [], ◌∷◌, ◌++◌}
use mathlib.Core.Bool.{cond}
use native.Mathlib.Decide.{dec_lt}
use native.Mathlib.Nat.{pow-suc}
use native.Mathlib.Omega.{arith}
use borrow.Author.Tests.{lt-ltb, le-ltb}
use lib.Dec.{ltb}
use lib.ListN.{length, length-append}
use Rattle.text.specs.Decimal.{digits_in, decimal}

abbrev pub last : ℕ → List ℕ
last n = (48 + n % 10) ∷ []

pub one_digit : (k n : ℕ) → n < 10 → digits_in k n ≡ last n
unfolding digits_in
one_digit zero n h = refl
one_digit (suc k) n h = rw (lt-ltb n 10 h)

-- steps that are not needed change nothing
pub steps : (a b n : ℕ) → n ≤ a → n ≤ b → digits_in a n ≡ digits_in b n
unfolding digits_in
steps zero b n h k = one_digit zero n (omega arith) ∙ sym (one_digit b n (omega arith))
steps (suc a) zero n h k = one_digit (suc a) n (omega arith) ∙ sym (one_digit zero n (omega arith))
steps (suc a) (suc b) n h k =
    ap (λ (l : List ℕ). cond (ltb n 10) (last n) (l ++ last n)) (steps a b (n / 10) (omega arith) (omega arith))

pub decimal_one : (n : ℕ) → n < 10 → decimal n ≡ (48 + n % 10) ∷ []
unfolding decimal
decimal_one n h = one_digit n n h

pub decimal_more : (n : ℕ) → 10 ≤ n → decimal n ≡ decimal (n / 10) ++ ((48 + n % 10) ∷ [])
unfolding decimal digits_in
decimal_more zero h = absurd (omega arith)
decimal_more (suc m) h =
    let n : ℕ = suc m in
    rw (le-ltb n 10 h) (ap (λ (l : List ℕ). l ++ last n) (steps m (n / 10) (n / 10) (omega arith) (omega arith)))

pub length_one : (n : ℕ) → n < 10 → length (decimal n) ≡ 1
length_one n h = ap length (decimal_one n h)

pub length_more : (n : ℕ) → 10 ≤ n → length (decimal n) ≡ length (decimal (n / 10)) + 1
length_more n h = ap length (decimal_more n h) ∙ length-append (decimal (n / 10)) (last n)

-- k + 1 digits hold a number below the power of ten
decimal_short : (k n : ℕ) → n < 10 ^ k * 10 → length (decimal n) ≤ suc k
decimal_short zero n h = omega (arith, length_one n (omega arith))
decimal_short (suc k) n h = go (decimal_short k (n / 10)) (dec_lt n 10)
  where
    go : (n / 10 < 10 ^ k * 10 → length (decimal (n / 10)) ≤ suc k) → Dec (n < 10) → length (decimal n) ≤ suc (suc k)
    go rest (yes l) = omega (arith, length_one n l)
    go rest (no l) =
        let below : n / 10 < 10 ^ k * 10 = omega (arith, pow-suc 10 k) in
        omega (arith, length_more n (omega arith), rest below)

-- ten digits hold a 32-bit number
pub decimal_most : (n : ℕ) → n < 4294967296 → length (decimal n) ≤ 10
decimal_most n h = decimal_short 9 n (omega arith)

-- and twenty a 64-bit one
pub decimal_most_64 : (n : ℕ) → n < 2 ^ 64 → length (decimal n) ≤ 20
decimal_most_64 n h = decimal_short 19 n (omega arith)
