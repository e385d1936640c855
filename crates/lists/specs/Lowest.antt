-- "The lowest faulty index is given."
use Rattle.std.specs.Prelude.{Bool, false, ◌||◌, cond, ℕ, zero, suc, ltb, Option, Some, None}

-- the lowest number below n at which the test fires; n where it fires at none
unfoldable pub lowest : ℕ → (ℕ → Bool) → ℕ
lowest zero f = 0
lowest (suc n) f = cond (f 0) 0 (suc (lowest n (λ k. f (suc k))))

-- whether the test fires at a number below n
unfoldable pub any_below : ℕ → (ℕ → Bool) → Bool
any_below zero f = false
any_below (suc n) f = any_below n f || f n

-- the same as an answer: that number, or none
unfoldable pub lowest_index : ℕ → (ℕ → Bool) → Option ℕ
lowest_index n f = cond (ltb (lowest n f) n) (Some (lowest n f)) None
