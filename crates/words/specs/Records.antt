-- A kind of record: how it lies in a table.
use Rattle.std.specs.Prelude.{ℕ, ◌+◌, ◌*◌, ◌<◌, ◌≤◌, ◌≡◌, List, length, get_or, take, drop}

-- how a record lies in a table: in k words, read at an index, and written as words
pub record Layout {A : Type 0} (k : ℕ) (at : List ℕ → ℕ → A) (words : A → List ℕ) : Type 0 where
  pub size : (a : A) → length (words a) ≡ k
  -- what is read hangs on its k words alone
  pub ext : (w v : List ℕ) (i j : ℕ) → ((m : ℕ) → m < k → get_or w (i * k + m) 0 ≡ get_or v (j * k + m) 0) → at w i ≡ at v j
  -- what is written is read again, and what is read is written again
  pub read_back : (a : A) → at (words a) 0 ≡ a
  pub written_back : (w : List ℕ) (i : ℕ) → i * k + k ≤ length w → words (at w i) ≡ take k (drop (i * k) w)
