-- Records of k words each, one after the other in a table: what one of them written, or taken out, leaves of the others. A kind of record
-- is an instance of `Layout`, in four lines, and has all laws here.
use Prim.Native.Nat.{ℕ, zero, suc, ◌+◌, ◌*◌, ◌-◌, ◌≤◌, ◌<◌}
use mathlib.Core.Path.{◌≡◌, refl, sym, ap, ap₂, ◌∙◌}
use mathlib.Core.List.{List, [], ◌∷◌, ◌++◌, append_assoc, append-nil}
use native.Mathlib.Nat.{suc-mul, zero-mul, add-mul, not-suc-le-zero, le_of_suc-le-suc, mul-le-mul_right}
use native.Mathlib.Numerals.{add-one}
use native.Mathlib.Omega.{arith}
use native.Mathlib.Decide.{dec_lt}
use lib.ListN.{length, get_or, take, drop, set, length-append, drop_of_length-le, replicate, get_or-replicate}
use lib.Seq.{take-add, take_all, take_at, drop_at, drop-drop, get_or-take, get_or-drop, ext_get_or}
use Rattle.lists.specs.Tab.{tab, put, remove_at}
use Rattle.lists.proofs.Tabs.{length-tab, getd_tab, tab_suc, tab-set, length-put, length-remove_at, getd_remove_at_before, getd_remove_at_after, getd_put_in, getd_put_before, getd_put_after}
use Rattle.lists.proofs.Fills.{front-put}
use Rattle.words.specs.Words.{joined}
use Rattle.words.specs.Records.{Layout}
use Rattle.words.specs.Leaning.{without}
use Rattle.words.proofs.Taking.{without_before, without_moved, without_zero, without_past}

-- ---- rows of k words

-- an earlier row ends before a later one begins
pub row_before : (k i j : ℕ) → i < j → i * k + k ≤ j * k
row_before k i j h = omega (arith, suc-mul i k, mul-le-mul_right k h)

-- the rows before one, itself, and the rows behind it
pub rows : (k count i : ℕ) → i < count → i * k + k + (count - (i + 1)) * k ≡ count * k
rows k count i h =
    let e : i + 1 + (count - (i + 1)) ≡ count = omega arith in
    let s : (i + 1) * k ≡ i * k + k = rw add-one (omega (arith, suc-mul i k)) in
    ap (λ (n : ℕ). n + (count - (i + 1)) * k) (sym s) ∙ sym (add-mul (i + 1) (count - (i + 1)) k) ∙ ap (λ (n : ℕ). n * k) e

-- ---- the words of records one after the other

module _ {A : Type 0} (words : A → List ℕ) where
  pub joined-append : (l r : List A) → joined words (l ++ r) ≡ joined words l ++ joined words r
  unfolding joined
  joined-append [] r = refl
  joined-append (x ∷ xs) r = ap (λ (t : List ℕ). words x ++ t) (joined-append xs r) ∙ sym (append_assoc (words x) (joined words xs) (joined words r))

  pub joined_one : (x : A) → joined words (x ∷ []) ≡ words x
  unfolding joined
  joined_one x = append-nil (words x)

  -- one record more
  pub joined_suc : (n : ℕ) (g : ℕ → A) → joined words (tab (suc n) g) ≡ joined words (tab n g) ++ words (g n)
  joined_suc n g = rw (tab_suc n g, joined-append (tab n g) (g n ∷ []), joined_one (g n))

  module _ (k : ℕ) where
    -- each has k words
    pub length-joined : (l : List A) (d : A) → ((i : ℕ) → i < length l → length (words (get_or l i d)) ≡ k) → length (joined words l) ≡ length l * k
    unfolding joined
    length-joined [] d h = sym (zero-mul k)
    length-joined (x ∷ xs) d h =
        length-append (words x) (joined words xs)
        ∙ omega (arith, h 0 (omega arith), length-joined xs d (λ i b. h (suc i) (omega arith)), suc-mul (length xs) k)

    pub length-joined-tab : (n : ℕ) (g : ℕ → A) → ((i : ℕ) → i < n → length (words (g i)) ≡ k) → length (joined words (tab n g)) ≡ n * k
    unfolding joined tab
    length-joined-tab zero g h = sym (zero-mul k)
    length-joined-tab (suc n) g h =
        length-append (words (g 0)) (joined words (tab n (λ i. g (suc i))))
        ∙ omega (arith, h 0 (omega arith), length-joined-tab n (λ i. g (suc i)) (λ i b. h (suc i) (omega arith)), suc-mul n k)

    -- words that hold the records are those records' words
    pub joined-take : (n : ℕ) (g : ℕ → A) (w : List ℕ) → ((i : ℕ) → i < n → words (g i) ≡ take k (drop (i * k) w)) → joined words (tab n g) ≡ take (n * k) w
    unfolding joined tab
    joined-take zero g w h = rw (zero-mul k)
    joined-take (suc n) g w h =
        let e : suc n * k ≡ n * k + k = omega (arith, suc-mul n k) in
        rw (e, take-add (n * k) k w) (joined_suc n g ∙ ap₂ (λ (a b : List ℕ). a ++ b) (joined-take n g w (λ i b. h i (omega arith))) (h n (omega arith)))

    -- the words of the record at an index
    pub joined_part : (l : List A) (i : ℕ) (d : A) → ((j : ℕ) → j < length l → length (words (get_or l j d)) ≡ k) → i < length l → take k (drop (i * k) (joined words l)) ≡ words (get_or l i d)
    unfolding joined
    joined_part [] i d h b = absurd (not-suc-le-zero b)
    joined_part (x ∷ xs) zero d h b = rw (zero-mul k) (take_at (words x) (joined words xs) k (h 0 b))
    joined_part (x ∷ xs) (suc i) d h b =
        let e : suc i * k ≡ k + i * k = omega (arith, suc-mul i k) in
        rw (e, ← drop-drop (i * k) k (words x ++ joined words xs), drop_at (words x) (joined words xs) k (h 0 (omega arith)))
        (joined_part xs i d (λ j c. h (suc j) (omega arith)) (le_of_suc-le-suc b))

  -- the first i records written, then the words as they were
  module _ (g : ℕ → A) (k : ℕ) (w₀ : List ℕ) where
    abbrev pub partly : ℕ → List ℕ
    partly i = joined words (tab i g) ++ drop (i * k) w₀

    pub partly_more : (i : ℕ) → ((j : ℕ) → length (words (g j)) ≡ k) → put (partly i) (i * k) (words (g i)) ≡ partly (i + 1)
    partly_more i each =
        let e : i * k + length (words (g i)) ≡ suc i * k = omega (arith, each i, suc-mul i k) in
        front-put (joined words (tab i g)) (words (g i)) w₀ (i * k) (length-joined-tab k i g (λ j h. each j))
        ∙ rw (e, add-one i, joined_suc i g)

    pub partly_all : (n : ℕ) → length w₀ ≡ n * k → partly n ≡ joined words (tab n g)
    partly_all n long = rw (drop_of_length-le w₀ {i = n * k} (omega arith)) (append-nil (joined words (tab n g)))

-- ---- a kind of record

module _ {A : Type 0} (k : ℕ) (at : List ℕ → ℕ → A) (words : A → List ℕ) (L : Layout k at words) where
  pub at_first : (w v : List ℕ) (i : ℕ) → ((m : ℕ) → m < k → get_or w (i * k + m) 0 ≡ get_or v m 0) → at w i ≡ at v 0
  at_first w v i h = L.ext w v i 0 (λ m b. let e : 0 * k + m ≡ m = omega (arith, zero-mul k) in rw e (h m b))

  -- the record at an index is the first of its own words
  pub at_part : (w : List ℕ) (i : ℕ) → at w i ≡ at (take k (drop (i * k) w)) 0
  at_part w i = at_first w (take k (drop (i * k) w)) i (λ m h. sym (get_or-take k (drop (i * k) w) m 0 h ∙ get_or-drop (i * k) w m 0))

  module _ (w : List ℕ) (i : ℕ) (a : A) (fits : i * k + k ≤ length w) where
    room : i * k + length (words a) ≤ length w
    room = omega (arith, L.size a)

    pub at_put_same : at (put w (i * k) (words a)) i ≡ a
    at_put_same =
        at_first (put w (i * k) (words a)) (words a) i (λ m h. getd_put_in w (i * k) (words a) room m (omega (arith, L.size a))) ∙ L.read_back a

    pub at_put_other : (j : ℕ) → (j ≡ i → ⊥) → at (put w (i * k) (words a)) j ≡ at w j
    at_put_other j ne = L.ext (put w (i * k) (words a)) w j j (λ m h. go m h (dec_lt j i))
      where
        go : (m : ℕ) → m < k → Dec (j < i) → get_or (put w (i * k) (words a)) (j * k + m) 0 ≡ get_or w (j * k + m) 0
        go m h (yes b) = getd_put_before w (i * k) (words a) room (j * k + m) (omega (arith, row_before k j i b))
        go m h (no b) = getd_put_after w (i * k) (words a) room (j * k + m) (omega (arith, row_before k i j (omega arith), L.size a))

  -- a record written is that record of the list set
  pub tab-put : (w : List ℕ) (n i : ℕ) (a : A) → i < n → n * k ≤ length w → tab n (at (put w (i * k) (words a))) ≡ set (tab n (at w)) i a
  tab-put w n i a hi hn =
      let fits : i * k + k ≤ length w = omega (arith, row_before k i n hi) in
      tab-set n (at w) (at (put w (i * k) (words a))) i a hi (at_put_same w i a fits) (at_put_other w i a fits)

  -- reading and writing are each other's inverse
  pub encoded : (w : List ℕ) (n : ℕ) → n * k ≤ length w → joined words (tab n (at w)) ≡ take (n * k) w
  encoded w n h = joined-take words k n (at w) w (λ i b. L.written_back w i (omega (arith, row_before k i n b)))

  pub at_joined : (l : List A) (i : ℕ) (d : A) → i < length l → at (joined words l) i ≡ get_or l i d
  at_joined l i d h =
      at_part (joined words l) i ∙ ap (λ (v : List ℕ). at v 0) (joined_part words k l i d (λ j b. L.size (get_or l j d)) h) ∙ L.read_back (get_or l i d)

  pub decoded : (l : List A) (w : List ℕ) (n : ℕ) (d : A) → length l ≡ n → take (n * k) w ≡ joined words l → tab n (at w) ≡ l
  decoded l w n d long e =
      ext_get_or d (tab n (at w)) l (length-tab n (at w) ∙ sym long)
      (λ i b. let b' : i < n = omega (arith, length-tab n (at w)) in
      getd_tab n (at w) i d b'
      ∙ L.ext w (take (n * k) w) i i (λ m h. sym (get_or-take (n * k) w (i * k + m) 0 (omega (arith, row_before k i n b'))))
      ∙ ap (λ (v : List ℕ). at v i) e
      ∙ at_joined l i d (omega arith))

  -- the records say all the words
  pub same_words : (a b : List ℕ) (n : ℕ) → length a ≡ n * k → length b ≡ n * k → tab n (at a) ≡ tab n (at b) → a ≡ b
  same_words a b n la lb e =
      sym (take_all (n * k) a (omega arith)) ∙ sym (encoded a n (omega arith)) ∙ ap (joined words) e ∙ encoded b n (omega arith) ∙ take_all (n * k) b (omega arith)

  -- one record written anew
  pub joined-put : (xs : List A) (i : ℕ) (y : A) → i < length xs → put (joined words xs) (i * k) (words y) ≡ joined words (set xs i y)
  joined-put xs i y h =
      let long : length (joined words xs) ≡ length xs * k = length-joined words k xs y (λ j b. L.size (get_or xs j y)) in
      let fits : i * k + length (words y) ≤ length (joined words xs) = omega (arith, L.size y, row_before k i (length xs) h) in
      let same : tab (length xs) (at (joined words xs)) ≡ xs = decoded xs (joined words xs) (length xs) y refl (take_all (length xs * k) (joined words xs) (omega arith)) in
      sym (take_all (length xs * k) (put (joined words xs) (i * k) (words y)) (omega (arith, length-put (joined words xs) (i * k) (words y) fits)))
      ∙ sym (encoded (put (joined words xs) (i * k) (words y)) (length xs) (omega (arith, length-put (joined words xs) (i * k) (words y) fits)))
      ∙ ap (joined words) (tab-put (joined words xs) (length xs) i y h (omega arith) ∙ ap (λ (l : List A). set l i y) same)

  -- one record taken out: the later ones move down one
  module _ (w : List ℕ) (count i : ℕ) (low : i < count) (fits : count * k ≤ length w) where
    abbrev rest : ℕ
    rest = (count - (i + 1)) * k

    abbrev out : List ℕ
    out = without (i * k) k rest w

    all : i * k + k + rest ≡ count * k
    all = rows k count i low

    pub taken_before : (j : ℕ) → j < i → at (without (i * k) k ((count - (i + 1)) * k) w) j ≡ at w j
    taken_before j h = L.ext out w j j (λ m b. without_before (i * k) k rest w (omega (arith, all)) (j * k + m) (omega (arith, row_before k j i h)))

    pub taken_moved : (j : ℕ) → i ≤ j → suc j < count → at (without (i * k) k ((count - (i + 1)) * k) w) j ≡ at w (suc j)
    taken_moved j h b =
        L.ext out w j (suc j)
        (λ m c. let e : suc j * k + m ≡ j * k + m + k = omega (arith, suc-mul j k) in
        rw e
        (without_moved (i * k) k rest w (omega (arith, all)) (j * k + m) (omega (arith, mul-le-mul_right k h))
        (omega (arith, all, row_before k (suc j) count b, suc-mul j k))))

    pub taken_last : at (without (i * k) k ((count - (i + 1)) * k) w) (count - 1) ≡ at (replicate k 0) 0
    taken_last =
        let e : suc (count - 1) ≡ count = omega arith in
        let f : suc (count - 1) * k ≡ (count - 1) * k + k = omega (arith, suc-mul (count - 1) k) in
        let g : (count - 1) * k + k ≡ count * k = sym f ∙ ap (λ (n : ℕ). n * k) e in
        at_first out (replicate k 0) (count - 1)
        (λ m h. without_zero (i * k) k rest w (omega (arith, all)) ((count - 1) * k + m) (omega (arith, all, g)) (omega (arith, all, g)) ∙ sym (get_or-replicate k m 0 0 h))

    pub taken_past : (j : ℕ) → count ≤ j → at (without (i * k) k ((count - (i + 1)) * k) w) j ≡ at w j
    taken_past j h =
        L.ext out w j j (λ m b. without_past (i * k) k rest w (omega (arith, all)) (j * k + m) (omega (arith, all, mul-le-mul_right k h)))

    pub taken_out_lem : tab (count - 1) (at (without (i * k) k ((count - (i + 1)) * k) w)) ≡ remove_at i (tab count (at w))
    taken_out_lem =
        let n : length (remove_at i (tab count (at w))) ≡ count - 1 = omega (arith, length-remove_at i (tab count (at w)) (omega (arith, length-tab count (at w))), length-tab count (at w)) in
        ext_get_or (at w 0) (tab (count - 1) (at out)) (remove_at i (tab count (at w))) (length-tab (count - 1) (at out) ∙ sym n)
        (λ j b. let h : j < count - 1 = omega (arith, length-tab (count - 1) (at out)) in
        getd_tab (count - 1) (at out) j (at w 0) h ∙ go j h (dec_lt j i))
      where
        go : (j : ℕ) → j < count - 1 → Dec (j < i) → at out j ≡ get_or (remove_at i (tab count (at w))) j (at w 0)
        go j h (yes l) = taken_before j l ∙ sym (getd_remove_at_before i j (tab count (at w)) (at w 0) l ∙ getd_tab count (at w) j (at w 0) (omega arith))
        go j h (no l) =
            taken_moved j (omega arith) (omega arith)
            ∙ sym (getd_remove_at_after i j (tab count (at w)) (at w 0) (omega arith) ∙ getd_tab count (at w) (suc j) (at w 0) (omega arith))
