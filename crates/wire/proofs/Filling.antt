-- The loops that read and write words, as states: the first i are done, the rest is as it was.
use Prim.Native.Nat.{ℕ, zero, suc, ◌+◌, ◌*◌, ◌≤◌, ◌<◌}
use mathlib.Core.Path.{◌≡◌, refl, sym, ap, ◌∙◌}
use mathlib.Core.List.{List, [], ◌∷◌, ◌++◌}
use native.Mathlib.Numerals.{add-one, towards_suc}
use native.Mathlib.Omega.{arith}
use lib.ListN.{length, drop, set, get_or, length-append}
use lib.Seq.{ext_get_or, sets-eq}
use Rattle.lists.specs.Tab.{tab, put}
use Rattle.lists.proofs.Tabs.{length-tab, getd_tab, tab_suc}
use Rattle.lists.proofs.Fills.{set-put, front-put, length_front}
use Rattle.wire.specs.Word.{word_at, bytes_of, words_in, bytes_in}

pub four_stores :
    (b : List ℕ) (at p q r s : ℕ)
    → at + 4 ≤ length b
    → set (set (set (set b at p) (at + 1) q) (at + 2) r) (at + 3) s ≡ put b at (p ∷ q ∷ r ∷ s ∷ [])
unfolding put
four_stores b at p q r s h = simp towards_suc (simp towards_suc at (sets-eq (p ∷ q ∷ r ∷ s ∷ []) b at h))

-- ---- words read

pub length-words_in : (b : List ℕ) (n : ℕ) → length (words_in b n) ≡ n
unfolding words_in
length-words_in b n = length-tab n (word_at b)

-- the first n words of a table as they were read, before what follows them
pub words_read :
    (b items rest : List ℕ) (n i : ℕ)
    → n ≤ i
    → length items ≡ n
    → ((k : ℕ) → k < i → get_or items k 0 ≡ word_at b k)
    → items ++ rest ≡ words_in b n ++ rest
unfolding words_in
words_read b items rest n i all long each =
    ap (λ (l : List ℕ). l ++ rest)
    (ext_get_or 0 items (tab n (word_at b)) (long ∙ sym (length-tab n (word_at b)))
    (λ k h. let h' : k < n = omega (arith, long) in each k (omega arith) ∙ sym (getd_tab n (word_at b) k 0 h')))

words_more : (b : List ℕ) (n : ℕ) → words_in b (n + 1) ≡ words_in b n ++ (word_at b n ∷ [])
unfolding words_in
words_more b n = rw add-one (tab_suc n (word_at b))

pub record WordsRead (b w₀ : List ℕ) (n i : ℕ) (w : List ℕ) : Type 0 where
  pub most : i ≤ n
  pub room : n ≤ length w₀
  pub words : w ≡ words_in b i ++ drop i w₀
  pub long : length w ≡ length w₀

module _ (b w₀ : List ℕ) (n : ℕ) where
  pub read_none : n ≤ length w₀ → WordsRead b w₀ n 0 w₀
  unfolding words_in tab
  read_none h = record { most = omega arith; room = h; words = refl; long = refl }

  pub read_more : (i : ℕ) (w : List ℕ) → WordsRead b w₀ n i w → i < n → WordsRead b w₀ n (i + 1) (set w i (word_at b i))
  read_more i w s h =
      let e : set w i (word_at b i) ≡ words_in b (i + 1) ++ drop (i + 1) w₀ =
      set-put w i (word_at b i) (omega (arith, s.room, s.long))
      ∙ ap (λ (l : List ℕ). put l i (word_at b i ∷ [])) s.words
      ∙ front-put (words_in b i) (word_at b i ∷ []) w₀ i (length-words_in b i)
      ∙ ap (λ (l : List ℕ). l ++ drop (i + 1) w₀) (sym (words_more b i)) in
      record {
        most = omega arith;
        room = s.room;
        words = e;
        long = ap length e ∙ length_front (words_in b (i + 1)) w₀ (i + 1) (length-words_in b (i + 1)) (omega (arith, s.room));
      }

  pub read_all : (i : ℕ) (w : List ℕ) → WordsRead b w₀ n i w → n ≤ i → w ≡ words_in b n ++ drop n w₀
  read_all i w s h = let e : i ≡ n = omega (arith, s.most) in rw e at s.words

-- ---- words written

length-bytes_in : (w : List ℕ) (n : ℕ) → length (bytes_in w n) ≡ n * 4
unfolding bytes_in
length-bytes_in w zero = refl
length-bytes_in w (suc n) = length-append (bytes_in w n) (bytes_of (get_or w n 0)) ∙ omega (arith, length-bytes_in w n)

bytes_more : (w : List ℕ) (n : ℕ) → bytes_in w (n + 1) ≡ bytes_in w n ++ bytes_of (get_or w n 0)
unfolding bytes_in
bytes_more w n = ap (bytes_in w) (add-one n)

pub record WordsWritten (w b₀ : List ℕ) (n i : ℕ) (b : List ℕ) : Type 0 where
  pub most : i ≤ n
  pub room : n * 4 ≤ length b₀
  pub bytes : b ≡ bytes_in w i ++ drop (i * 4) b₀
  pub long : length b ≡ length b₀

module _ (w b₀ : List ℕ) (n : ℕ) where
  pub written_none : n * 4 ≤ length b₀ → WordsWritten w b₀ n 0 b₀
  unfolding bytes_in
  written_none h = record { most = omega arith; room = h; bytes = refl; long = refl }

  pub written_more :
      (i : ℕ) (b b' : List ℕ)
      → WordsWritten w b₀ n i b
      → i < n
      → b' ≡ put b (i * 4) (bytes_of (get_or w i 0))
      → WordsWritten w b₀ n (i + 1) b'
  written_more i b b' s h p =
      let k : i * 4 + 4 ≡ (i + 1) * 4 = omega arith in
      let e : b' ≡ bytes_in w (i + 1) ++ drop ((i + 1) * 4) b₀ =
      p
      ∙ ap (λ (l : List ℕ). put l (i * 4) (bytes_of (get_or w i 0))) s.bytes
      ∙ front-put (bytes_in w i) (bytes_of (get_or w i 0)) b₀ (i * 4) (length-bytes_in w i)
      ∙ rw k (ap (λ (l : List ℕ). l ++ drop ((i + 1) * 4) b₀) (sym (bytes_more w i))) in
      record {
        most = omega arith;
        room = s.room;
        bytes = e;
        long = ap length e ∙ length_front (bytes_in w (i + 1)) b₀ ((i + 1) * 4) (length-bytes_in w (i + 1)) (omega (arith, s.room));
      }

  pub written_all : (i : ℕ) (b : List ℕ) → WordsWritten w b₀ n i b → n ≤ i → b ≡ bytes_in w n ++ drop (n * 4) b₀
  written_all i b s h = let e : i ≡ n = omega (arith, s.most) in rw e at s.bytes
