-- The join of free neighbours, with its common box in lent words.
use Rattle.std.specs.Prelude.{ℕ, List, [], ◌∷◌, not, eqb, length}
use Rattle.replies.specs.Replies.{once, in_order, reply}
use Rattle.joins.specs.Join.{join_of}
use Rattle.cafunderi.specs.Common.{LentAfter, lent_after, in_words}

-- 1: for the 6 words of the common box "any other length is 1"; then nothing is written. Else the join, and the six words of its common box.
unfoldable pub join_face : List ℕ → List ℕ → ℕ → List ℕ → LentAfter
join_face chambers store id common =
    in_order (once (reply 1 0) (not (eqb (length common) 6)) ∷ [])
    (λ r. lent_after r chambers store common)
    (in_words common (join_of chambers store id))
