-- Laws of lists by their elements: tabulated, one element out, a part replaced.
use Prim.Native.Nat.{ℕ, zero, suc, ◌+◌, ◌-◌, ◌≤◌, ◌<◌}
use mathlib.Core.Path.{◌≡◌, refl, sym, ap, ◌∙◌, subst}
use mathlib.Core.Logic.{◌⊎◌, inl, inr}
use mathlib.Core.List.{List, [], ◌∷◌, ◌++◌, map, append_assoc}
use borrow.Rule.Slice.PartMut.{put_mid}
use native.Mathlib.Nat.{not-suc-le-zero, le_of_suc-le-suc}
use native.Mathlib.Omega.{arith}
use native.Mathlib.Decide.{dec_lt, ℕ_discrete}
use lib.ListN.{length, get_or, take, drop, set, length-append, length-take, length-drop, length-set, get_or-append}
use lib.Seq.{length-take-le, get_or-append-add, get_or-take, get_or-drop, get_or-set_same, get_or-set_other, set_out, ext_get_or, drop-drop}
use Rattle.lists.specs.Tab.{tab, remove_at, put}

-- ---- a tabulated list

module _ {A : Type 0} where
  pub length-tab : (n : ℕ) (f : ℕ → A) → length (tab n f) ≡ n
  unfolding tab
  length-tab zero f = refl
  length-tab (suc n) f = ap suc (length-tab n (λ k. f (suc k)))

  pub getd_tab : (n : ℕ) (f : ℕ → A) (i : ℕ) (d : A) → i < n → get_or (tab n f) i d ≡ f i
  unfolding tab
  getd_tab zero f i d h = absurd (not-suc-le-zero h)
  getd_tab (suc n) f zero d h = refl
  getd_tab (suc n) f (suc i) d h = getd_tab n (λ k. f (suc k)) i d (le_of_suc-le-suc h)

  -- one more
  pub tab_suc : (n : ℕ) (f : ℕ → A) → tab (suc n) f ≡ tab n f ++ (f n ∷ [])
  unfolding tab
  tab_suc zero f = refl
  tab_suc (suc n) f = ap (λ (r : List A). f zero ∷ r) (tab_suc n (λ k. f (suc k)))

  -- a list tabulated anew, with one element changed
  pub tab-set : (n : ℕ) (f g : ℕ → A) (i : ℕ) (v : A) → i < n → g i ≡ v → ((k : ℕ) → (k ≡ i → ⊥) → g k ≡ f k) → tab n g ≡ set (tab n f) i v
  tab-set n f g i v hi same other =
      ext_get_or v (tab n g) (set (tab n f) i v) (length-tab n g ∙ sym (length-tab n f) ∙ sym (length-set (tab n f) i v))
      (λ k b. let h : k < n = omega (arith, length-tab n g) in getd_tab n g k v h ∙ go k h (ℕ_discrete k i))
    where
      go : (k : ℕ) → k < n → Dec (k ≡ i) → g k ≡ get_or (set (tab n f) i v) k v
      go k h (yes e) = rw e (same ∙ sym (get_or-set_same (tab n f) i v v (omega (arith, length-tab n f))))
      go k h (no ne) = other k ne ∙ sym (getd_tab n f k v h) ∙ sym (get_or-set_other (tab n f) i k v v ne)

  getd_append_at : (p q : List A) (n j : ℕ) (d : A) → length p ≡ n → get_or (p ++ q) (n + j) d ≡ get_or q j d
  getd_append_at p q n j d e = subst (λ (k : ℕ). get_or (p ++ q) (k + j) d ≡ get_or q j d) e (get_or-append-add p q j d)

-- an entry of a list with one element changed: as it was, or the new one
pub set_cases : {A : Type 0} (l : List A) (k : ℕ) (v : A) (i : ℕ) (d : A) → (get_or (set l k v) i d ≡ get_or l i d) ⊎ ((i ≡ k) × (get_or (set l k v) i d ≡ v))
set_cases l k v i d =
    elim (ℕ_discrete i k) [
      | yes e ↦ elim (dec_lt k (length l)) [
        | yes b ↦ inr (e, rw e (get_or-set_same l k v d b))
        | no b ↦ inl (rw (set_out l k v (omega arith)))
      ]
      | no ne ↦ inl (get_or-set_other l k i v d ne)
    ]

-- a list of three
pub three : {A : Type 0} (d : A) (t : List A) → length t ≡ 3 → t ≡ get_or t 0 d ∷ get_or t 1 d ∷ get_or t 2 d ∷ []
three d [] e = absurd (omega arith)
three d (a ∷ []) e = absurd (omega arith)
three d (a ∷ b ∷ []) e = absurd (omega arith)
three d (a ∷ b ∷ c ∷ []) e = refl
three d (a ∷ b ∷ c ∷ x ∷ t) e = absurd (omega arith)

-- ---- a part replaced

module _ (w : List ℕ) (at : ℕ) (vs : List ℕ) (fits : at + length vs ≤ length w) where
  head_length : length (take at w ++ vs) ≡ at + length vs
  head_length = simp (length-append, length-take) (omega arith)

  pub length-put : length (put w at vs) ≡ length w
  unfolding put
  length-put = simp (length-append, length-take, length-drop) (omega arith)

  pub getd_put_in : (j : ℕ) → j < length vs → get_or (put w at vs) (at + j) 0 ≡ get_or vs j 0
  unfolding put
  getd_put_in j h =
      get_or-append (take at w ++ vs) (drop (at + length vs) w) 0 (at + j) (omega (arith, head_length))
      ∙ getd_append_at (take at w) vs at j 0 (length-take-le at w (omega arith))

  pub getd_put_before : (k : ℕ) → k < at → get_or (put w at vs) k 0 ≡ get_or w k 0
  unfolding put
  getd_put_before k h =
      get_or-append (take at w ++ vs) (drop (at + length vs) w) 0 k (omega (arith, head_length))
      ∙ get_or-append (take at w) vs 0 k (omega (arith, length-take-le at w (omega arith)))
      ∙ get_or-take at w k 0 h

  pub getd_put_after : (k : ℕ) → at + length vs ≤ k → get_or (put w at vs) k 0 ≡ get_or w k 0
  unfolding put
  getd_put_after k h =
      let j : ℕ = k - (at + length vs) in
      let e : at + length vs + j ≡ k = omega arith in
      rw (← e) (getd_append_at (take at w ++ vs) (drop (at + length vs) w) (at + length vs) j 0 head_length
      ∙ get_or-drop (at + length vs) w j 0)

-- ---- one element out

module _ {A : Type 0} where
  pub length-remove_at : (i : ℕ) (ss : List A) → i < length ss → suc (length (remove_at i ss)) ≡ length ss
  unfolding remove_at
  length-remove_at i [] h = absurd (not-suc-le-zero h)
  length-remove_at zero (x ∷ xs) h = refl
  length-remove_at (suc i) (x ∷ xs) h = ap suc (length-remove_at i xs (le_of_suc-le-suc h))

  pub getd_remove_at_before : (i j : ℕ) (xs : List A) (d : A) → j < i → get_or (remove_at i xs) j d ≡ get_or xs j d
  unfolding remove_at
  getd_remove_at_before zero j xs d h = absurd (not-suc-le-zero h)
  getd_remove_at_before (suc i) j [] d h = refl
  getd_remove_at_before (suc i) zero (x ∷ xs) d h = refl
  getd_remove_at_before (suc i) (suc j) (x ∷ xs) d h = getd_remove_at_before i j xs d (le_of_suc-le-suc h)

  pub getd_remove_at_after : (i j : ℕ) (xs : List A) (d : A) → i ≤ j → get_or (remove_at i xs) j d ≡ get_or xs (suc j) d
  unfolding remove_at
  getd_remove_at_after i j [] d h = refl
  getd_remove_at_after zero j (x ∷ xs) d h = refl
  getd_remove_at_after (suc i) zero (x ∷ xs) d h = absurd (not-suc-le-zero h)
  getd_remove_at_after (suc i) (suc j) (x ∷ xs) d h = getd_remove_at_after i j xs d (le_of_suc-le-suc h)

pub map-set : {A B : Type 0} (f : A → B) (l : List A) (i : ℕ) (y : A) → map f (set l i y) ≡ set (map f l) i (f y)
map-set f [] i y = refl
map-set f (x ∷ xs) zero y = refl
map-set f (x ∷ xs) (suc i) y = ap (λ (r : List _). f x ∷ r) (map-set f xs i y)

-- what the borrow checker leaves of a slice whose middle part was lent and came back as ys
pub lent : (w ys : List ℕ) (at k : ℕ) → length ys ≡ k → put_mid at k w ys ≡ put w at ys
unfolding put
lent w ys at k long = rw (drop-drop k at w, ← long) (sym (append_assoc (take at w) ys (drop (at + length ys) w)))

-- a middle part, element by element
pub middle : (k j : ℕ) (w : List ℕ) → j + k ≤ length w → take k (drop j w) ≡ tab k (λ m. get_or w (j + m) 0)
middle k j w h =
    ext_get_or 0 (take k (drop j w)) (tab k (λ m. get_or w (j + m) 0))
    (simp (length-take, length-drop, length-tab) (omega arith))
    (λ m b. let b' : m < k = omega (arith, length-take k (drop j w)) in
    get_or-take k (drop j w) m 0 b' ∙ get_or-drop j w m 0 ∙ sym (getd_tab k (λ n. get_or w (j + n) 0) m 0 b'))
