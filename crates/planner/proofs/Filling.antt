-- Laws of a table that records fill from the front.
use Prim.Native.Nat.{ℕ, ◌+◌, ◌*◌, ◌≤◌, ◌<◌}
use mathlib.Core.Path.{◌≡◌, sym, ap, ◌∙◌}
use mathlib.Core.List.{List, [], ◌∷◌, ◌++◌, append-nil}
use native.Mathlib.Nat.{suc-mul, zero-mul}
use native.Mathlib.Numerals.{add-one}
use native.Mathlib.Omega.{arith}
use lib.ListN.{length, get_or, take, drop, drop_of_length-le}
use Rattle.std.proofs.lemmas.List.{take_more}
use lib.Seq.{take_all, length-take-le}
use Rattle.lists.specs.Tab.{put}
use Rattle.lists.proofs.Fills.{front-put}
use Rattle.words.specs.Words.{joined}
use Rattle.words.proofs.Records.{joined-append, joined_one, length-joined}

module _ {T : Type 0} (words : T → List ℕ) (k : ℕ) (xs : List T) (w₀ : List ℕ) where
  -- the first i records, then the words as they were
  abbrev pub filled : ℕ → List ℕ
  filled i = joined words (take i xs) ++ drop (i * k) w₀

  pub filled_none : w₀ ≡ filled 0
  unfolding joined
  filled_none = rw (zero-mul k)

  pub filled_all : length w₀ ≡ length xs * k → (i : ℕ) → length xs ≤ i → i ≤ length xs → filled i ≡ joined words xs
  filled_all long i h g =
      let e : i ≡ length xs = omega arith in
      rw (e, take_all (length xs) xs (omega arith), drop_of_length-le w₀ {i = length xs * k} (omega arith)) (append-nil (joined words xs))

  module _ (size : (a : T) → length (words a) ≡ k) where
    pub filled_more : (i : ℕ) (x : T) → i < length xs → x ≡ get_or xs i x → put (filled i) (i * k) (words x) ≡ filled (i + 1)
    filled_more i x h e =
        let long : length (joined words (take i xs)) ≡ i * k = length-joined words k (take i xs) x (λ j _. size _) ∙ ap (λ n. n * k) (length-take-le i xs (omega arith)) in
        let next : i * k + length (words x) ≡ (i + 1) * k = rw (size x, add-one) (omega (arith, suc-mul i k)) in
        let one : joined words (take (i + 1) xs) ≡ joined words (take i xs) ++ words x =
        ap (joined words) (take_more xs i x h) ∙ joined-append words (take i xs) (get_or xs i x ∷ []) ∙ ap (λ y. joined words (take i xs) ++ y) (joined_one words (get_or xs i x) ∙ ap words (sym e)) in
        front-put (joined words (take i xs)) (words x) w₀ (i * k) long ∙ rw (next, one)
