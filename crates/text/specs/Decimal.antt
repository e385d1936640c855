-- Numbers in decimal.
use Rattle.std.specs.Prelude.{ℕ, zero, suc, ◌+◌, ◌/◌, ◌%◌, List, [], ◌∷◌, ◌++◌, cond, ltb}

-- the digits of n: those of n / 10, then the last. A number has no more digits than steps are given here.
unfoldable pub digits_in : ℕ → ℕ → List ℕ
digits_in zero n = (48 + n % 10) ∷ []
digits_in (suc steps) n = cond (ltb n 10) ((48 + n % 10) ∷ []) (digits_in steps (n / 10) ++ ((48 + n % 10) ∷ []))

-- "in decimal"
unfoldable pub decimal : ℕ → List ℕ
decimal n = digits_in n n

-- a text and a number behind it
abbrev pub item : List ℕ → ℕ → List ℕ
item text n = text ++ decimal n
