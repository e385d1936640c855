-- A list weighed: each element has a weight, and the list their sum.
use Prim.Native.Nat.{ℕ, zero, suc, ◌+◌, ◌<◌}
use mathlib.Core.Path.{◌≡◌, refl, sym, ap, ◌∙◌}
use mathlib.Core.List.{List, [], ◌∷◌, ◌++◌, map}
use mathlib.Core.Bool.{Bool, true, false, cond}
use native.Mathlib.Nat.{not-suc-le-zero, le_of_suc-le-suc}
use native.Mathlib.Omega.{arith}
use lib.ListN.{length, get_or, set}
use Rattle.lists.specs.Pick.{picked}
use Rattle.lists.specs.Sort.{Permuted, empty, keep, swap, chain}
use Rattle.lists.specs.Sum.{sum_to}
use Rattle.lists.specs.Tab.{remove_at}
use Rattle.lists.proofs.Sums.{sum_first}

unfoldable pub total : {A : Type 0} → (A → ℕ) → List A → ℕ
total w [] = 0
total w (x ∷ xs) = w x + total w xs

module _ {A : Type 0} (w : A → ℕ) where
  pub total_append : (xs ys : List A) → total w (xs ++ ys) ≡ total w xs + total w ys
  unfolding total
  total_append [] ys = omega arith
  total_append (x ∷ xs) ys = omega (arith, total_append xs ys)

  -- the order plays no part
  pub total_permuted : {xs ys : List A} → Permuted xs ys → total w xs ≡ total w ys
  unfolding total
  total_permuted empty = refl
  total_permuted (keep {x} p) = ap (λ (m : ℕ). w x + m) (total_permuted p)
  total_permuted (swap {x} {y} {xs}) = omega arith
  total_permuted (chain p q) = total_permuted p ∙ total_permuted q

  -- one element out
  pub total_removed : (i : ℕ) (d : A) (xs : List A) → i < length xs → total w xs ≡ w (get_or xs i d) + total w (remove_at i xs)
  unfolding total remove_at
  total_removed i d [] h = absurd (not-suc-le-zero h)
  total_removed zero d (x ∷ xs) h = refl
  total_removed (suc i) d (x ∷ xs) h = omega (arith, total_removed i d xs (le_of_suc-le-suc h))

  -- one element changed
  pub total_set : (i : ℕ) (v d : A) (xs : List A) → i < length xs → total w (set xs i v) + w (get_or xs i d) ≡ total w xs + w v
  unfolding total
  total_set i v d [] h = absurd (not-suc-le-zero h)
  total_set zero v d (x ∷ xs) h = omega arith
  total_set (suc i) v d (x ∷ xs) h = omega (arith, total_set i v d xs (le_of_suc-le-suc h))

  -- index by index
  pub total_sum : (d : A) (xs : List A) → total w xs ≡ sum_to (length xs) (λ i. w (get_or xs i d))
  unfolding total sum_to
  total_sum d [] = refl
  total_sum d (x ∷ xs) = ap (λ (s : ℕ). w x + s) (total_sum d xs) ∙ sym (sum_first (length xs) (λ i. w (get_or (x ∷ xs) i d)))

pub total_map : {A B : Type 0} (w : B → ℕ) (f : A → B) (xs : List A) → total w (map f xs) ≡ total (λ x. w (f x)) xs
unfolding total
total_map w f [] = refl
total_map w f (x ∷ xs) = ap (λ (s : ℕ). w (f x) + s) (total_map w f xs)

-- how many there are
pub total_length : {A : Type 0} (xs : List A) → length xs ≡ total (λ x. 1) xs
unfolding total
total_length [] = refl
total_length (x ∷ xs) = omega (arith, total_length xs)

-- the numbers that a test picks
pub total_picked : (w : ℕ → ℕ) (test : ℕ → Bool) (n : ℕ) → total w (picked n test) ≡ sum_to n (λ i. cond (test i) (w i) 0)
unfolding picked sum_to total
total_picked w test zero = refl
total_picked w test (suc n) =
    elim (test n) as (λ t. total w (cond t (picked n test ++ (n ∷ [])) (picked n test)) ≡ sum_to n (λ i. cond (test i) (w i) 0) + cond t (w n) 0) [
      | true ↦ omega (arith, total_append w (picked n test) (n ∷ []), total_picked w test n)
      | false ↦ omega (arith, total_picked w test n)
    ]
