-- "big-endian words"
use Rattle.std.specs.Prelude.{ℕ, zero, suc, ◌+◌, ◌*◌, ◌/◌, ◌%◌, List, [], ◌∷◌, ◌++◌, get_or}
use Rattle.lists.specs.Tab.{tab}

-- the word of the four bytes at an index, the highest first
unfoldable pub word_at : List ℕ → ℕ → ℕ
word_at b i =
    get_or b (i * 4) 0 * 0x100_0000
    + get_or b (i * 4 + 1) 0 * 0x1_0000
    + get_or b (i * 4 + 2) 0 * 0x100
    + get_or b (i * 4 + 3) 0

-- the four bytes of a word, the highest first
abbrev pub bytes_of : ℕ → List ℕ
bytes_of w = w / 0x100_0000 % 256 ∷ w / 0x1_0000 % 256 ∷ w / 0x100 % 256 ∷ w % 256 ∷ []

-- the first n words that the bytes say
unfoldable pub words_in : List ℕ → ℕ → List ℕ
unfolding tab
words_in b n = tab n (word_at b)

-- the bytes of the first n words
unfoldable pub bytes_in : List ℕ → ℕ → List ℕ
bytes_in w zero = []
bytes_in w (suc n) = bytes_in w n ++ bytes_of (get_or w n 0)
