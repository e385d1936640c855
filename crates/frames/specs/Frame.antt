-- A frame: a length as a word, and behind it so many records of some bytes each.
use Rattle.std.specs.Prelude.{ℕ, ◌+◌, ◌*◌, List, Bool, ◌&&◌, leb, length}
use Rattle.wire.specs.Word.{word_at}

-- how many bytes the records have
abbrev pub frame_size : ℕ → List ℕ → ℕ
frame_size size bytes = word_at bytes 0 * size

-- the word and all its records are there, and there is room for the records
unfoldable pub is_frame : ℕ → ℕ → List ℕ → Bool
is_frame size room bytes = leb 4 (length bytes) && (leb (frame_size size bytes) room && leb (4 + frame_size size bytes) (length bytes))
