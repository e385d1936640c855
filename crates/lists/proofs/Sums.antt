-- Laws of `sum_to`.
-- Assumes nothing.
use mathlib.Core.Path.{◌≡◌, refl, sym, ap, ap₂, ◌∙◌}
use mathlib.Core.Logic.{◌⊎◌, inl, inr, ⊎_elim}
use Prim.Native.Nat.{ℕ, zero, suc, ◌+◌, ◌*◌, ◌≤◌, ◌<◌}
use native.Mathlib.Nat.{eq-zero-or-pos, eq-or-lt_of_le, suc-mul, zero-mul, mul-zero, mul-add, add-mul, not-suc-le-zero, le_of_suc-le-suc, lt-suc_self, le_step}
use native.Mathlib.Decide.{dec_lt}
use native.Mathlib.Omega.{arith}
use Rattle.lists.specs.Sum.{sum_to}

pub sum_ext : (n : ℕ) (f g : ℕ → ℕ) → ((i : ℕ) → i < n → f i ≡ g i) → sum_to n f ≡ sum_to n g
unfolding sum_to
sum_ext zero f g e = refl
sum_ext (suc n) f g e = ap₂ (λ (x y : ℕ). x + y) (sum_ext n f g (λ i h. e i (le_step h))) (e n (lt-suc_self n))

pub sum_add : (n : ℕ) (f g : ℕ → ℕ) → sum_to n (λ i. f i + g i) ≡ sum_to n f + sum_to n g
unfolding sum_to
sum_add zero f g = refl
sum_add (suc n) f g = omega (arith, sum_add n f g)

pub sum_left : (n k : ℕ) (f : ℕ → ℕ) → sum_to n (λ i. k * f i) ≡ k * sum_to n f
unfolding sum_to
sum_left zero k f = sym (mul-zero k)
sum_left (suc n) k f = omega (arith, sum_left n k f, mul-add k (sum_to n f) (f n))

pub sum_right : (n k : ℕ) (f : ℕ → ℕ) → sum_to n (λ i. f i * k) ≡ sum_to n f * k
unfolding sum_to
sum_right zero k f = sym (zero-mul k)
sum_right (suc n) k f = omega (arith, sum_right n k f, add-mul (sum_to n f) (f n) k)

pub sum_all : (n c : ℕ) (f : ℕ → ℕ) → ((i : ℕ) → i < n → f i ≡ c) → sum_to n f ≡ n * c
unfolding sum_to
sum_all zero c f e = sym (zero-mul c)
sum_all (suc n) c f e = omega (arith, sum_all n c f (λ i h. e i (le_step h)), e n (lt-suc_self n), suc-mul n c)

-- the order of two sums
pub sum_swap : (m n : ℕ) (f : ℕ → ℕ → ℕ) → sum_to m (λ x. sum_to n (λ i. f i x)) ≡ sum_to n (λ i. sum_to m (f i))
unfolding sum_to
sum_swap m zero f = sum_all m 0 (λ x. 0) (λ i h. refl) ∙ mul-zero m
sum_swap m (suc n) f = sum_add m (λ x. sum_to n (λ i. f i x)) (f n) ∙ ap (λ (s : ℕ). s + sum_to m (f n)) (sum_swap m n f)

-- n numbers that are at most c: their sum is at most n * c; it is that only if each is c; if it is less, one of them is
pub sum_most : (n c : ℕ) (f : ℕ → ℕ) → ((i : ℕ) → i < n → f i ≤ c) → sum_to n f ≤ n * c
unfolding sum_to
sum_most zero c f b = omega arith
sum_most (suc n) c f b = omega (arith, sum_most n c f (λ i h. b i (le_step h)), b n (lt-suc_self n), suc-mul n c)

pub sum_full : (n c : ℕ) (f : ℕ → ℕ) → ((i : ℕ) → i < n → f i ≤ c) → sum_to n f ≡ n * c → (i : ℕ) → i < n → f i ≡ c
unfolding sum_to
sum_full zero c f b e i h = absurd (not-suc-le-zero h)
sum_full (suc n) c f b e i h =
    let most : sum_to n f ≤ n * c = sum_most n c f (λ j g. b j (le_step g)) in
    ⊎_elim (λ p. rw p (omega (arith, b n (lt-suc_self n), suc-mul n c)))
    (sum_full n c f (λ j g. b j (le_step g)) (omega (arith, b n (lt-suc_self n), suc-mul n c)) i)
    (eq-or-lt_of_le (le_of_suc-le-suc h))

pub sum_less : (n c : ℕ) (f : ℕ → ℕ) → sum_to n f < n * c → (i : ℕ) × (i < n) × (f i < c)
unfolding sum_to
sum_less zero c f l = absurd (omega (arith, zero-mul c))
sum_less (suc n) c f l =
    elim (dec_lt (f n) c) [
      | yes p ↦ (n, lt-suc_self n, p)
      | no p ↦ let r = sum_less n c f (omega (arith, suc-mul n c)) in (r.0, le_step r.1, r.2)
    ]

-- a sum that is not 0 has a part that is not 0; no part is above the sum
pub sum_some : (n : ℕ) (f : ℕ → ℕ) → 0 < sum_to n f → (i : ℕ) × (i < n) × (0 < f i)
unfolding sum_to
sum_some zero f l = absurd (omega arith)
sum_some (suc n) f l =
    ⊎_elim (λ e. let r = sum_some n f (omega arith) in (r.0, le_step r.1, r.2)) (λ p. (n, lt-suc_self n, p)) (eq-zero-or-pos (f n))

pub sum_part : (n : ℕ) (f : ℕ → ℕ) (i : ℕ) → i < n → f i ≤ sum_to n f
unfolding sum_to
sum_part zero f i h = absurd (not-suc-le-zero h)
sum_part (suc n) f i h = ⊎_elim (λ e. rw e (omega arith)) (λ l. omega (arith, sum_part n f i l)) (eq-or-lt_of_le (le_of_suc-le-suc h))

pub sum_pair : (n : ℕ) (f : ℕ → ℕ) (i j : ℕ) → i < j → j < n → f i + f j ≤ sum_to n f
unfolding sum_to
sum_pair zero f i j l h = absurd (not-suc-le-zero h)
sum_pair (suc n) f i j l h =
    ⊎_elim (λ e. rw e (omega (arith, sum_part n f i (omega arith)))) (λ k. omega (arith, sum_pair n f i j l k)) (eq-or-lt_of_le (le_of_suc-le-suc h))

-- one part raised
pub sum_raised : (n : ℕ) (f g : ℕ → ℕ) (i d : ℕ) → i < n → g i ≡ f i + d → ((j : ℕ) → (j ≡ i → ⊥) → g j ≡ f j) → sum_to n g ≡ sum_to n f + d
unfolding sum_to
sum_raised zero f g i d h e o = absurd (not-suc-le-zero h)
sum_raised (suc n) f g i d h e o =
    ⊎_elim
    (λ p. let top : g n ≡ f n + d = rw p at e in omega (arith, sum_ext n g f (λ j l. o j (λ q. omega arith))))
    (λ l. omega (arith, sum_raised n f g i d l e o, o n (λ q. omega arith)))
    (eq-or-lt_of_le (le_of_suc-le-suc h))

-- parts of at most 1, no two of which are both 1
pub sum_one : (n : ℕ) (f : ℕ → ℕ) → ((i : ℕ) → i < n → f i ≤ 1)
    → ((i j : ℕ) → i < j → j < n → 0 < f i → 0 < f j → ⊥) → sum_to n f ≤ 1
unfolding sum_to
sum_one zero f b a = omega arith
sum_one (suc n) f b a =
    go (sum_one n f (λ i h. b i (le_step h)) (λ i j l h. a i j l (le_step h))) (eq-zero-or-pos (sum_to n f)) (eq-zero-or-pos (f n))
  where
    go : sum_to n f ≤ 1 → (sum_to n f ≡ 0) ⊎ (0 < sum_to n f) → (f n ≡ 0) ⊎ (0 < f n) → sum_to n f + f n ≤ 1
    go rest (inl e) k = omega (arith, b n (lt-suc_self n))
    go rest (inr p) (inl e) = omega arith
    go rest (inr p) (inr q) = let r = sum_some n f p in absurd (a r.0 n r.1 (lt-suc_self n) r.2 q)

-- the first part apart
pub sum_first : (n : ℕ) (f : ℕ → ℕ) → sum_to (suc n) f ≡ f 0 + sum_to n (λ i. f (suc i))
unfolding sum_to
sum_first zero f = omega arith
sum_first (suc n) f = omega (arith, sum_first n f)
