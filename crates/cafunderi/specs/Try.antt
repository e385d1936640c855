-- Try one placement on lent words.
use Rattle.std.specs.Prelude.{ℕ, List, [], ◌∷◌, Bool, ◌&&◌, not, eqb, length}
use Rattle.replies.specs.declared.reply.Reply.{Reply}
use Rattle.bin_section.specs.declared.rect_to_insert.RectToInsert.{RectToInsert}
use Rattle.replies.specs.Replies.{reply, once, in_order}
use Rattle.bin_section.specs.Section.{section_at}
use Rattle.bin_section.specs.Sides.{sides_in}
use Rattle.try_place.specs.declared.Tried.{Tried}
use Rattle.try_place.specs.Try.{try_of, number_of}
use Rattle.try_place.specs.Words.{tried_words}

-- "6, 3 and 21 words"
unfoldable pub try_lengths_ok : List ℕ → List ℕ → List ℕ → Bool
try_lengths_ok section rectangle placed =
    eqb (length section) 6 && (eqb (length rectangle) 3 && eqb (length placed) 21)

-- the rectangle of a try: its sides in three words
abbrev pub rectangle_in : List ℕ → RectToInsert
rectangle_in w = record { whd = sides_in w }

pub record TryOutcome : Type 0 where
  pub reply : Reply
  pub placed : List ℕ

abbrev pub try_outcome : Reply → List ℕ → TryOutcome
try_outcome answer placed = record { reply = answer; placed = placed }

-- "A detail that isn't named .. is 0." "Try returns the location and the chosen three in the order right, above, behind",
-- and "a refused try returns a zero location and zero sections".
abbrev pub tried_outcome : Tried → TryOutcome
tried_outcome t = try_outcome (reply (number_of t.answer) 0) (tried_words t)

-- 1: "6, 3 and 21 words"; then nothing is written. Else the try of the words that are lent
unfoldable pub try_face : List ℕ → List ℕ → List ℕ → TryOutcome
try_face section rectangle placed =
    in_order (once (reply 1 0) (not (try_lengths_ok section rectangle placed)) ∷ []) (λ r. try_outcome r placed)
    (tried_outcome (try_of (section_at section 0) (rectangle_in rectangle)))
