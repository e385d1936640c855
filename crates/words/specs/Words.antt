-- Words of a table: records one after the other.
use Rattle.std.specs.Prelude.{ℕ, List, [], ◌∷◌, ◌++◌}

-- the words of each record, one record after the other
unfoldable pub joined : {A : Type 0} → (A → List ℕ) → List A → List ℕ
joined words [] = []
joined words (x ∷ xs) = words x ++ joined words xs
