-- What a function that writes leaves.
use Rattle.std.specs.Prelude.{ℕ, ◌+◌, ◌≡◌, List, length}
use Rattle.lists.specs.Tab.{put}

-- the bytes stand in the buffer from an index on, the others are as they were, and r is the index past them
pub record Written (at : ℕ) (text before after : List ℕ) (r : ℕ) : Type 0 where
  pub count : r ≡ at + length text
  pub bytes : after ≡ put before at text
