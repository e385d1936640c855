-- Laws of `lowest_index`: what a search answers that has come to an index, and what an answer means.
use Rattle.std.proofs.Common.{◌≡◌, ℕ, ◌<◌, Bool, true, false, cond, not, Some, unwrap_or, is_some, refl, ap, sym, ◌∙◌, arith}
use Rattle.std.proofs.Common.{None as Nothing}
use borrow.Author.Tests.{ltb-true, ltb-false, eq-eqb, ne_eqb, not-true, not-false}
use lib.Dec.{ltb, eqb}
use Rattle.lists.specs.Lowest.{lowest, any_below, lowest_index}
use Rattle.lists.proofs.Flags.{cond_yes, cond_no, true_false}
use Rattle.lists.proofs.Lowests.{None, lowest_here, lowest_none, lowest_most, any_lowest}

pub index_here : (n i : ℕ) (f : ℕ → Bool) → None i f → i < n → f i ≡ true → lowest_index n f ≡ Some i
unfolding lowest_index
index_here n i f p h t = ap (λ m. cond (ltb m n) (Some m) Nothing) (lowest_here n i f p h t) ∙ cond_yes (Some i) Nothing (ltb i n) (search (h, arith))

pub index_nowhere : (n : ℕ) (f : ℕ → Bool) → None n f → lowest_index n f ≡ Nothing
unfolding lowest_index
index_nowhere n f p = ap (λ m. cond (ltb m n) (Some m) Nothing) (lowest_none n f p) ∙ cond_no (Some n) Nothing (ltb n n) (search arith)

-- what an answer means
pub index_some : (n i : ℕ) (f : ℕ → Bool) → lowest_index n f ≡ Some i → (lowest n f ≡ i) × (i < n)
unfolding lowest_index
index_some n i f e =
    elim (ltb (lowest n f) n) as (λ b. ltb (lowest n f) n ≡ b → cond b (Some (lowest n f)) Nothing ≡ Some i → (lowest n f ≡ i) × (i < n)) [
      | true ↦ λ t h. let q = ap (λ o. unwrap_or o 0) h in (q, rw q at (ltb-true (lowest n f) n t))
      | false ↦ λ t h. absurd (true_false (sym (ap is_some h)))
    ]
    refl e

pub index_none : (n : ℕ) (f : ℕ → Bool) → lowest_index n f ≡ Nothing → lowest n f ≡ n
unfolding lowest_index
index_none n f e =
    elim (ltb (lowest n f) n) as (λ b. ltb (lowest n f) n ≡ b → cond b (Some (lowest n f)) Nothing ≡ Nothing → lowest n f ≡ n) [
      | true ↦ λ t h. absurd (true_false (ap is_some h))
      | false ↦ λ t h. omega (arith, lowest_most n f, ltb-false (lowest n f) n t)
    ]
    refl e

-- whether there is one
pub index_any : (n : ℕ) (f : ℕ → Bool) → is_some (lowest_index n f) ≡ any_below n f
unfolding lowest_index
index_any n f =
    elim (ltb (lowest n f) n) as (λ b. ltb (lowest n f) n ≡ b → is_some (cond b (Some (lowest n f)) Nothing) ≡ any_below n f) [
      | true ↦ λ t. sym (any_lowest n f ∙ t)
      | false ↦ λ t. sym (any_lowest n f ∙ t)
    ]
    refl

-- whether there is none, as `is_none` says it
pub index_end : (n : ℕ) (f : ℕ → Bool) (r : Bool) → is_some (lowest_index n f) ≡ not r → r ≡ eqb (lowest n f) n
unfolding lowest_index
index_end n f r =
    elim (ltb (lowest n f) n) as (λ b. ltb (lowest n f) n ≡ b → is_some (cond b (Some (lowest n f)) Nothing) ≡ not r → r ≡ eqb (lowest n f) n) [
      | true ↦ λ t e. let l = ltb-true (lowest n f) n t in not-true r (sym e) ∙ sym (ne_eqb _ _ (λ q. omega arith))
      | false ↦ λ t e. let l = ltb-false (lowest n f) n t in not-false r (sym e) ∙ sym (eq-eqb _ _ (omega (arith, lowest_most n f)))
    ]
    refl
