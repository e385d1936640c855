-- Numbers picked by a test.
use Rattle.std.specs.Prelude.{ℕ, zero, suc, List, [], ◌∷◌, ◌++◌, Bool, cond}

-- the numbers below n at which the test fires, in rising order
unfoldable pub picked : ℕ → (ℕ → Bool) → List ℕ
picked zero f = []
picked (suc n) f = cond (f n) (picked n f ++ (n ∷ [])) (picked n f)
