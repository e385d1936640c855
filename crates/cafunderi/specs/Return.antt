-- The return of a section that is lent as words.
use Rattle.std.specs.Prelude.{ℕ, List, [], ◌∷◌, not, ◌||◌, eqb, length}
use Rattle.replies.specs.Replies.{once, in_order, reply}
use Rattle.bin_section.specs.Section.{section_at}
use Rattle.target_bin.specs.Return.{return_of}
use Rattle.cafunderi.specs.Common.{LentAfter, lent_after, in_words}

-- 1: a box has 6 words, and for the common box too "any other length is 1"; then nothing is written. Else the return of the box, and the six
-- words of its common box.
unfoldable pub return_face : List ℕ → List ℕ → ℕ → List ℕ → List ℕ → LentAfter
return_face chambers store id box common =
    in_order (once (reply 1 0) (not (eqb (length box) 6) || not (eqb (length common) 6)) ∷ [])
    (λ r. lent_after r chambers store common)
    (in_words common (return_of chambers store id (section_at box 0)))
