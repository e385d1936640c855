-- A part of a table that a loop writes word by word: what is written so far, and the rest as it was.
use Prim.Native.Nat.{ℕ, ◌+◌, ◌≤◌, ◌<◌}
use mathlib.Core.Path.{◌≡◌, refl, sym, ap, ◌∙◌}
use mathlib.Core.List.{List, append-nil}
use native.Mathlib.Numerals.{add-one}
use native.Mathlib.Omega.{arith}
use lib.ListN.{length, take, drop, get_or, set, replicate, length-replicate, get_or-replicate, length-take, length-drop, drop_of_length-le}
use lib.Seq.{paste, paste-zero, paste-suc, length-paste, drop-paste, take-length, get_or-take, get_or-drop}
use Rattle.lists.specs.Tab.{put}
use Rattle.words.specs.Leaning.{moved_down}

-- the first i of the values stand at an index, and no other word changed
pub record Pasted (l : List ℕ) (at : ℕ) (s : List ℕ) (i : ℕ) (w : List ℕ) : Type 0 where
  pub most : i ≤ length s
  pub room : at + length s ≤ length l
  pub long : length w ≡ length l
  pub words : w ≡ paste l at s i

module _ (l : List ℕ) (at : ℕ) (s : List ℕ) where
  pub pasted_none : at + length s ≤ length l → Pasted l at s 0 l
  pasted_none h = record { most = omega arith; room = h; long = refl; words = paste-zero l at s }

  pub pasted_more : (i x : ℕ) (w : List ℕ) → Pasted l at s i w → i < length s → x ≡ get_or s i 0 → Pasted l at s (i + 1) (set w (at + i) x)
  pasted_more i x w p h e =
      let q : set w (at + i) x ≡ paste l at s (i + 1) = rw (p.words, e, add-one i, paste-suc l at s i 0 (omega (arith, p.room)) h) in
      record { most = omega arith; room = p.room; long = ap length q ∙ length-paste l at s (i + 1) (omega (arith, p.room)) (omega arith); words = q }

  pub pasted_all : (i : ℕ) (w : List ℕ) → Pasted l at s i w → length s ≤ i → w ≡ put l at s
  unfolding put
  pasted_all i w p h = let e : i ≡ length s = omega (arith, p.most) in rw (p.words, e, take-length s)

  -- the words past what is written are as they were
  pub past_pasted : (i j : ℕ) (w : List ℕ) → Pasted l at s i w → get_or w (at + i + j) 0 ≡ get_or l (at + i + j) 0
  past_pasted i j w p =
      sym (get_or-drop (at + i) w j 0)
      ∙ ap (λ (v : List ℕ). get_or v j 0) (ap (drop (at + i)) p.words ∙ drop-paste l at s i (omega (arith, p.room)) p.most)
      ∙ get_or-drop (at + i) l j 0

-- ---- one value repeated

module _ (l : List ℕ) (at n value : ℕ) where
  pub filled_none : at + n ≤ length l → Pasted l at (replicate n value) 0 l
  filled_none h = pasted_none l at (replicate n value) (omega (arith, length-replicate n value))

  pub filled_more : (i : ℕ) (w : List ℕ) → Pasted l at (replicate n value) i w → i < n → Pasted l at (replicate n value) (i + 1) (set w (at + i) value)
  filled_more i w p h =
      pasted_more l at (replicate n value) i value w p (omega (arith, length-replicate n value)) (sym (get_or-replicate n i value 0 h))

  pub filled_all : (i : ℕ) (w : List ℕ) → Pasted l at (replicate n value) i w → n ≤ i → w ≡ put l at (replicate n value)
  filled_all i w p h = pasted_all l at (replicate n value) i w p (omega (arith, length-replicate n value))

-- a whole table filled
pub filled_whole : (l w : List ℕ) (value : ℕ) → w ≡ put l 0 (replicate (length l) value) → w ≡ replicate (length l) value
unfolding put
filled_whole l w value e =
    let n : length l ≤ 0 + length (replicate (length l) value) = omega (arith, length-replicate (length l) value) in
    e ∙ rw (drop_of_length-le l n) (append-nil (replicate (length l) value))

-- ---- words moved down

module _ (l : List ℕ) (at k n : ℕ) (room : at + k + n ≤ length l) where
  abbrev moved : List ℕ
  moved = take n (drop (at + k) l)

  moved_long : length moved ≡ n
  moved_long = simp (length-take, length-drop) (omega arith)

  pub moved_none : Pasted l at (take n (drop (at + k) l)) 0 l
  moved_none = pasted_none l at moved (omega (arith, moved_long))

  pub moved_more : (i : ℕ) (w : List ℕ) → Pasted l at (take n (drop (at + k) l)) i w → i < n → Pasted l at (take n (drop (at + k) l)) (i + 1) (set w (at + i) (get_or w (at + k + i) 0))
  moved_more i w p h =
      let e : at + k + i ≡ at + i + k = omega arith in
      let was : get_or w (at + k + i) 0 ≡ get_or l (at + k + i) 0 = rw e (past_pasted l at moved i k w p) in
      let q : get_or w (at + k + i) 0 ≡ get_or moved i 0 = was ∙ sym (get_or-take n (drop (at + k) l) i 0 h ∙ get_or-drop (at + k) l i 0) in
      pasted_more l at moved i (get_or w (at + k + i) 0) w p (omega (arith, moved_long)) q

  pub moved_all : (i : ℕ) (w : List ℕ) → Pasted l at (take n (drop (at + k) l)) i w → n ≤ i → w ≡ moved_down at k n l
  unfolding moved_down
  moved_all i w p h = pasted_all l at moved i w p (omega (arith, moved_long))
