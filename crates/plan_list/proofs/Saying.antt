-- Laws of the number that a word says.
use Rattle.std.proofs.Common.{None, ◌≡◌, ℕ, List, [], ◌∷◌, length, refl, arith}
use Rattle.plan_list.specs.Number.{said}

pub said_empty : (word : List ℕ) → length word ≡ 0 → None ≡ said word
said_empty [] e = refl
said_empty (b ∷ bs) e = absurd (omega (arith, e))
