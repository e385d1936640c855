-- What holds at each of the six places holds at every place below six.
use Prim.Native.Nat.{ℕ, zero, suc, ◌<◌}
use native.Mathlib.Omega.{arith}

pub of_six : (P : ℕ → Type 0) → P 0 → P 1 → P 2 → P 3 → P 4 → P 5 → (i : ℕ) → i < 6 → P i
of_six P a b c d e f zero h = a
of_six P a b c d e f (suc zero) h = b
of_six P a b c d e f (suc (suc zero)) h = c
of_six P a b c d e f (suc (suc (suc zero))) h = d
of_six P a b c d e f (suc (suc (suc (suc zero)))) h = e
of_six P a b c d e f (suc (suc (suc (suc (suc zero))))) h = f
of_six P a b c d e f (suc (suc (suc (suc (suc (suc i)))))) h = absurd (omega arith)
