-- Laws of `picked`: a turn of a loop that counts up, and what is picked.
use Prim.Native.Nat.{ℕ, zero, suc, ◌+◌, ◌≤◌, ◌<◌}
use mathlib.Core.Path.{◌≡◌, refl, ap, ◌∙◌}
use mathlib.Core.Logic.{◌⊎◌, inl, inr}
use mathlib.Core.List.{List, [], ◌∷◌, ◌++◌}
use mathlib.Core.Bool.{Bool, true, false, cond}
use native.Mathlib.Nat.{le_step, lt-suc_self, eq-or-lt_of_le, le_of_suc-le-suc}
use native.Mathlib.Numerals.{add-one}
use native.Mathlib.Omega.{arith}
use lib.ListN.{length, length-append}
use Rattle.lists.specs.Pick.{picked}
use Rattle.lists.specs.Sort.{Each, none, also, EachTwo, no_two, also_two}
use Rattle.lists.proofs.Flags.{cond_yes, cond_no}
use Rattle.lists.proofs.Lowests.{None}
use Rattle.lists.proofs.Sorts.{each_map, each_append}

module _ (n : ℕ) (f : ℕ → Bool) where
  pub pick_more : picked (n + 1) f ≡ cond (f n) (picked n f ++ (n ∷ [])) (picked n f)
  unfolding picked
  pick_more = ap (λ (m : ℕ). picked m f) (add-one n)

  pub pick_yes : f n ≡ true → picked (n + 1) f ≡ picked n f ++ (n ∷ [])
  pick_yes e = pick_more ∙ cond_yes (picked n f ++ (n ∷ [])) (picked n f) (f n) e

  pub pick_no : f n ≡ false → picked (n + 1) f ≡ picked n f
  pick_no e = pick_more ∙ cond_no (picked n f ++ (n ∷ [])) (picked n f) (f n) e

-- each is below n and fires
pub pick_each : (n : ℕ) (f : ℕ → Bool) → Each (λ i. (i < n) × (f i ≡ true)) (picked n f)
unfolding picked
pick_each zero f = none
pick_each (suc n) f =
    let ps : Each (λ i. (i < suc n) × (f i ≡ true)) (picked n f) = each_map (λ i p. (le_step p.0, p.1)) (pick_each n f) in
    elim (f n) as (λ t. f n ≡ t → Each (λ i. (i < suc n) × (f i ≡ true)) (cond t (picked n f ++ (n ∷ [])) (picked n f))) [
      | true ↦ λ e. each_append ps (also (lt-suc_self n, e) none)
      | false ↦ λ e. ps
    ]
    refl

pub length_pick : (n : ℕ) (f : ℕ → Bool) → length (picked n f) ≤ n
unfolding picked
length_pick zero f = omega arith
length_pick (suc n) f =
    elim (f n) as (λ t. length (cond t (picked n f ++ (n ∷ [])) (picked n f)) ≤ suc n) [
      | true ↦ simp length-append (omega (arith, length_pick n f))
      | false ↦ omega (arith, length_pick n f)
    ]

-- an element put behind all others
each_two_last :
    {A : Type 0} {R : A → A → Type 0} (x : A) {xs : List A}
    → Each (λ y. R y x) xs
    → EachTwo R xs
    → EachTwo R (xs ++ (x ∷ []))
each_two_last x none no_two = also_two none no_two
each_two_last x (also r rs) (also_two s ss) = also_two (each_append s (also r none)) (each_two_last x rs ss)

-- and they rise
pub pick_rising : (n : ℕ) (f : ℕ → Bool) → EachTwo (λ i j. i < j) (picked n f)
unfolding picked
pick_rising zero f = no_two
pick_rising (suc n) f =
    elim (f n) as (λ t. EachTwo (λ i j. i < j) (cond t (picked n f ++ (n ∷ [])) (picked n f))) [
      | true ↦ each_two_last n (each_map (λ i p. p.0) (pick_each n f)) (pick_rising n f)
      | false ↦ pick_rising n f
    ]

-- the first number at which a test fires is the first that is picked
pick_none : (n : ℕ) (f : ℕ → Bool) → None n f → picked n f ≡ []
unfolding picked
pick_none zero f p = refl
pick_none (suc n) f p = rw (p.at n (lt-suc_self n)) (pick_none n f (record { at = λ j l. p.at j (le_step l) }))

pub pick_first : (n i : ℕ) (f : ℕ → Bool) → None i f → i < n → f i ≡ true → (rest : List ℕ) × (picked n f ≡ i ∷ rest)
unfolding picked
pick_first zero i f p h e = absurd (omega arith)
pick_first (suc n) i f p h e = at (eq-or-lt_of_le (le_of_suc-le-suc h)) (pick_first n i f p)
  where
    at : (i ≡ n) ⊎ (i < n) → (i < n → f i ≡ true → (rest : List ℕ) × (picked n f ≡ i ∷ rest)) → (rest : List ℕ) × (cond (f n) (picked n f ++ (n ∷ [])) (picked n f) ≡ i ∷ rest)
    at (inl q) before = ([], rw (← q, e, pick_none i f p))
    at (inr l) before =
        let r = before l e in
        elim (f n) as (λ t. (rest : List ℕ) × (cond t (picked n f ++ (n ∷ [])) (picked n f) ≡ i ∷ rest)) [
          | true ↦ (r.0 ++ (n ∷ []), rw r.1)
          | false ↦ r
        ]
