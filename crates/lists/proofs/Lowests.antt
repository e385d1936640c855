-- Laws of `lowest` and `any_below`: the start, a turn and the end of a loop that counts up, and what they mean.
use mathlib.Core.Path.{◌≡◌, refl, sym, ap, ap₂, ◌∙◌}
use mathlib.Core.Logic.{◌⊎◌, inl, inr, ⊎_elim}
use mathlib.Core.Bool.{Bool, true, false, ◌||◌, cond}
use Prim.Native.Nat.{ℕ, zero, suc, ◌+◌, ◌-◌, ◌≤◌, ◌<◌, min}
use native.Mathlib.Nat.{eq-or-lt_of_le, le_of_suc-le-suc, not-suc-le-zero, le_step, lt-suc_self, add-zero, add-suc}
use native.Mathlib.Decide.{dec_lt}
use native.Mathlib.Numerals.{add-one}
use native.Mathlib.Omega.{arith}
use borrow.Author.Tests.{lt-ltb, le-ltb}
use lib.Dec.{ltb}
use Rattle.lists.specs.Lowest.{lowest, any_below}
use Rattle.lists.proofs.Flags.{true_false, cond_yes, cond_no, or_none, or_first, or_second, or_false, or_assoc}

-- the test fires at no number below n
pub record None (n : ℕ) (f : ℕ → Bool) : Type 0 where
  pub at : (i : ℕ) → i < n → f i ≡ false

pub none_zero : (f : ℕ → Bool) → None 0 f
none_zero f = record { at = λ i h. absurd (not-suc-le-zero h) }

pub none_more : (n : ℕ) (f : ℕ → Bool) → None n f → f n ≡ false → None (n + 1) f
none_more n f p e = record { at = λ i h. ⊎_elim (λ q. ap f q ∙ e) (p.at i) (eq-or-lt_of_le (le_of_suc-le-suc (rw add-one at h))) }

pub none_less : (m n : ℕ) (f : ℕ → Bool) → None n f → m ≤ n → None m f
none_less m n f p h = record { at = λ i l. p.at i (omega arith) }

-- ---- the lowest

pub lowest_most : (n : ℕ) (f : ℕ → Bool) → lowest n f ≤ n
unfolding lowest
lowest_most zero f = omega arith
lowest_most (suc n) f =
    let l = lowest_most n (λ k. f (suc k)) in
    elim (f 0) as (λ t. cond t 0 (suc (lowest n (λ k. f (suc k)))) ≤ suc n) [ true ↦ omega arith | false ↦ omega arith ]

pub lowest_none : (n : ℕ) (f : ℕ → Bool) → None n f → lowest n f ≡ n
unfolding lowest
lowest_none zero f p = refl
lowest_none (suc n) f p =
    cond_no 0 (suc (lowest n (λ k. f (suc k)))) (f 0) (p.at 0 (omega arith))
    ∙ ap suc (lowest_none n (λ k. f (suc k)) (record { at = λ i h. p.at (suc i) (omega arith) }))

pub lowest_here : (n r : ℕ) (f : ℕ → Bool) → None r f → r < n → f r ≡ true → lowest n f ≡ r
unfolding lowest
lowest_here zero r f p h e = absurd (not-suc-le-zero h)
lowest_here (suc n) zero f p h e = cond_yes 0 (suc (lowest n (λ k. f (suc k)))) (f 0) e
lowest_here (suc n) (suc r) f p h e =
    cond_no 0 (suc (lowest n (λ k. f (suc k)))) (f 0) (p.at 0 (omega arith))
    ∙ ap suc (lowest_here n r (λ k. f (suc k)) (record { at = λ i l. p.at (suc i) (omega arith) }) (le_of_suc-le-suc h) e)

-- two tests that agree below n
pub lowest_same : (n : ℕ) (f g : ℕ → Bool) → ((i : ℕ) → i < n → f i ≡ g i) → lowest n f ≡ lowest n g
unfolding lowest
lowest_same zero f g e = refl
lowest_same (suc n) f g e =
    ap (λ (b : Bool). cond b 0 (suc (lowest n (λ k. f (suc k))))) (e 0 (omega arith))
    ∙ ap (λ (m : ℕ). cond (g 0) 0 (suc m)) (lowest_same n (λ k. f (suc k)) (λ k. g (suc k)) (λ i h. e (suc i) (omega arith)))

-- where a loop that counts up to n ends
pub lowest_end : (n i : ℕ) (f : ℕ → Bool) → None i f → n ≤ i → lowest n f ≡ n
lowest_end n i f p h = lowest_none n f (none_less n i f p h)

-- what the lowest means: no number below it fires, and it fires itself where it is below n
pub none_below_lowest : (n : ℕ) (f : ℕ → Bool) → None (lowest n f) f
unfolding lowest
none_below_lowest zero f = none_zero f
none_below_lowest (suc n) f =
    let rest = none_below_lowest n (λ k. f (suc k)) in
    elim (f 0) as (λ t. f 0 ≡ t → None (cond t 0 (suc (lowest n (λ k. f (suc k))))) f) [
      | true ↦ λ e. none_zero f
      | false ↦ λ e. record { at = elim [ zero ↦ λ h. e | suc i ↦ λ h. rest.at i (le_of_suc-le-suc h) ] }
    ]
    refl

pub lowest_fires : (n : ℕ) (f : ℕ → Bool) → lowest n f < n → f (lowest n f) ≡ true
unfolding lowest
lowest_fires zero f h = absurd (not-suc-le-zero h)
lowest_fires (suc n) f h =
    elim (f 0) as (λ t. f 0 ≡ t → cond t 0 (suc (lowest n (λ k. f (suc k)))) < suc n → f (cond t 0 (suc (lowest n (λ k. f (suc k))))) ≡ true) [
      | true ↦ λ e l. e
      | false ↦ λ e l. lowest_fires n (λ k. f (suc k)) (le_of_suc-le-suc l)
    ]
    refl h

pub none_of_lowest : (n : ℕ) (f : ℕ → Bool) → n ≤ lowest n f → None n f
none_of_lowest n f h = none_less n (lowest n f) f (none_below_lowest n f) h

-- ---- a search that has come to i, where no number below i fires

module _ (n i : ℕ) (f : ℕ → Bool) (come : i ≤ lowest n f) where
  -- it fires there
  pub lowest_at : i < n → f i ≡ true → i ≡ lowest n f
  lowest_at l e = go (eq-or-lt_of_le come)
    where
      go : (i ≡ lowest n f) ⊎ (i < lowest n f) → i ≡ lowest n f
      go (inl q) = q
      go (inr h) = absurd (true_false (sym e ∙ (none_below_lowest n f).at i h))

  -- it does not
  pub lowest-next : i < n → f i ≡ false → i + 1 ≤ lowest n f
  lowest-next l e = go (eq-or-lt_of_le come)
    where
      go : (i ≡ lowest n f) ⊎ (i < lowest n f) → i + 1 ≤ lowest n f
      go (inl q) = absurd (true_false (sym (lowest_fires n f (omega arith)) ∙ ap f (sym q) ∙ e))
      go (inr h) = omega arith

  -- there is no more
  pub lowest_over : n ≤ i → n ≡ lowest n f
  lowest_over h = omega (arith, lowest_most n f)

-- among the first m of n alone
module _ (m n : ℕ) (f : ℕ → Bool) (fewer : m ≤ n) where
  among : lowest m f ≡ min m (lowest n f)
  among = go (dec_lt (lowest n f) m)
    where
      go : Dec (lowest n f < m) → lowest m f ≡ min m (lowest n f)
      go (yes l) = lowest_here m (lowest n f) f (none_below_lowest n f) l (lowest_fires n f (omega arith)) ∙ omega arith
      go (no l) = lowest_end m (lowest n f) f (none_below_lowest n f) (omega arith) ∙ omega arith

  pub among_come : (i : ℕ) → i ≤ m → i ≤ lowest n f → i ≤ lowest m f
  among_come i l h = omega (arith, among)

  pub among_found : (r : ℕ) → r ≡ lowest m f → r < m → r ≡ lowest n f
  among_found r e l = omega (arith, among)

  pub among_none : (r : ℕ) → r ≡ lowest m f → m ≤ r → m ≤ lowest n f
  among_none r e l = omega (arith, among)

-- it passes over m of them
pub lowest_past : (n i m : ℕ) (f : ℕ → Bool) → i ≤ lowest n f → i + m ≤ n → any_below m (λ k. f (i + k)) ≡ false → i + m ≤ lowest n f
unfolding any_below
lowest_past n i zero f come l e = rw add-zero come
lowest_past n i (suc m) f come l e =
    let far = any_below m (λ k. f (i + k)) in
    omega (arith, lowest-next n (i + m) f (lowest_past n i m f come (omega arith) (or_first far (f (i + m)) e)) (omega arith) (or_second far (f (i + m)) e))

-- ---- a search through two ranges, each with a test of its own, one range behind the other

module _ (m n all : ℕ) (whole : all ≡ m + n) (f g t : ℕ → Bool)
    (same_first : (i : ℕ) → i < m → f i ≡ t i)
    (same_second : (k : ℕ) → k < n → g k ≡ t (m + k))
    (r : ℕ) (found : r ≡ lowest m f) where
  -- it fires in the first
  pub lowest_first : r < m → r ≡ lowest all t
  lowest_first h =
      sym (lowest_here all r t
      (record { at = λ i l. sym (same_first i (omega arith)) ∙ (none_below_lowest m f).at i (omega arith) })
      (omega arith)
      (sym (same_first r h) ∙ ap f found ∙ lowest_fires m f (omega arith)))

  -- it does not, and so it is the second's
  pub lowest_second : m ≤ r → (s : ℕ) → s ≡ lowest n g → m + s ≡ lowest all t
  lowest_second h s e = go (dec_lt s n)
    where
      at : (i : ℕ) → i < m + s → Dec (i < m) → t i ≡ false
      at i l (yes b) = sym (same_first i b) ∙ (none_of_lowest m f (omega arith)).at i b
      at i l (no b) =
          let back : m + (i - m) ≡ i = omega arith in
          ap t (sym back) ∙ sym (same_second (i - m) (omega (arith, lowest_most n g))) ∙ (none_below_lowest n g).at (i - m) (omega arith)

      none : None (m + s) t
      none = record { at = λ i l. at i l (dec_lt i m) }

      go : Dec (s < n) → m + s ≡ lowest all t
      go (yes l) = sym (lowest_here all (m + s) t none (omega arith) (sym (same_second s l) ∙ ap g e ∙ lowest_fires n g (omega arith)))
      go (no l) =
          let end : m + s ≡ all = omega (arith, lowest_most n g) in
          end ∙ sym (lowest_end all (m + s) t none (omega arith))

-- ---- whether any fires

pub any_none : (n : ℕ) (f : ℕ → Bool) → any_below n f ≡ false → None n f
unfolding any_below
any_none zero f e = none_zero f
any_none (suc n) f e =
    rw (← add-one n) (none_more n f (any_none n f (or_first (any_below n f) (f n) e)) (or_second (any_below n f) (f n) e))

pub none_any : (n : ℕ) (f : ℕ → Bool) → None n f → any_below n f ≡ false
unfolding any_below
none_any zero f p = refl
none_any (suc n) f p =
    or_none (any_below n f) (f n) (none_any n f (none_less n (suc n) f p (omega arith))) (p.at n (lt-suc_self n))

pub any_some : (n : ℕ) (f : ℕ → Bool) → any_below n f ≡ true → (i : ℕ) × (i < n) × (f i ≡ true)
unfolding any_below
any_some zero f e = absurd (true_false (sym e))
any_some (suc n) f e =
    elim (any_below n f) as (λ b. any_below n f ≡ b → (b || f n) ≡ true → (i : ℕ) × (i < suc n) × (f i ≡ true)) [
      | true ↦ λ p q. let r = any_some n f p in (r.0, le_step r.1, r.2)
      | false ↦ λ p q. (n, lt-suc_self n, q)
    ]
    refl e

pub any_here : (n i : ℕ) (f : ℕ → Bool) → i < n → f i ≡ true → any_below n f ≡ true
any_here n i f h e =
    elim (any_below n f) as (λ b. any_below n f ≡ b → b ≡ true) [
      | true ↦ λ p. refl
      | false ↦ λ p. absurd (true_false (sym e ∙ (any_none n f p).at i h))
    ]
    refl

-- two tests that agree below n
pub any_same : (n : ℕ) (f g : ℕ → Bool) → ((i : ℕ) → i < n → f i ≡ g i) → any_below n f ≡ any_below n g
unfolding any_below
any_same zero f g e = refl
any_same (suc n) f g e = ap₂ ◌||◌ (any_same n f g (λ i h. e i (le_step h))) (e n (lt-suc_self n))

-- a range in two parts
pub any_parts : (m n : ℕ) (f : ℕ → Bool) → any_below (m + n) f ≡ (any_below m f || any_below n (λ i. f (m + i)))
unfolding any_below
any_parts m zero f = rw add-zero (sym (or_false (any_below m f)))
any_parts m (suc n) f = rw add-suc (ap (λ (b : Bool). b || f (m + n)) (any_parts m n f) ∙ or_assoc (any_below m f) (any_below n (λ i. f (m + i))) (f (m + n)))

-- whether one fires is whether the lowest that fires is below n
pub any_lowest : (n : ℕ) (f : ℕ → Bool) → any_below n f ≡ ltb (lowest n f) n
any_lowest n f = go (dec_lt (lowest n f) n) (any_below n f) refl
  where
    go : Dec (lowest n f < n) → (b : Bool) → any_below n f ≡ b → any_below n f ≡ ltb (lowest n f) n
    go (yes l) true e = e ∙ sym (lt-ltb _ _ l)
    go (yes l) false e = absurd (true_false (sym (lowest_fires n f l) ∙ (any_none n f e).at (lowest n f) l))
    go (no m) b e = let h : n ≤ lowest n f = omega arith in none_any n f (none_of_lowest n f h) ∙ sym (le-ltb (lowest n f) n h)
