-- What functions below the jobs lean on and leave. No job's contract cites it, and a reader of the rules needs none of it.
use Rattle.std.specs.Prelude.{ℕ, ◌+◌, List, take, drop, replicate}
use Rattle.lists.specs.Tab.{put}

-- the n words that stand k words past an index, moved down to it
unfoldable pub moved_down : ℕ → ℕ → ℕ → List ℕ → List ℕ
moved_down at k n w = put w at (take n (drop (at + k) w))

-- k words taken out at an index: the n words behind them move down, and k zeros follow
unfoldable pub without : ℕ → ℕ → ℕ → List ℕ → List ℕ
without at k n w = put (moved_down at k n w) (at + n) (replicate k 0)
