-- The groups part the table: each rectangle belongs to one group, which its first index names.
use Prim.Native.Nat.{ℕ, ◌≤◌, ◌<◌}
use mathlib.Core.Path.{◌≡◌, refl, sym, ◌∙◌}
use mathlib.Core.Logic.{◌⊎◌, inl, inr, ⊎_elim}
use mathlib.Core.Bool.{Bool, true, false, ◌&&◌, ◌||◌}
use native.Mathlib.Nat.{eq-or-lt_of_le, le_of_eq}
use native.Mathlib.Decide.{dec_lt}
use native.Mathlib.Omega.{arith}
use borrow.Author.Tests.{ltb-true, eqb-true, lt-ltb, eq-eqb}
use lib.Dec.{ltb, eqb}
use Rattle.lists.specs.Lowest.{lowest}
use Rattle.lists.proofs.Flags.{true_false, false_of, and_both, and_first, and_second}
use Rattle.lists.proofs.Lowests.{None, none_of_lowest, none_below_lowest, lowest_most, lowest_fires, lowest_none}
use Rattle.grouped_rects_to_place.specs.declared.rect_to_place.RectToPlace.{RectToPlace}
use Rattle.grouped_rects_to_place.specs.Groups.{same_group, lead_of, is_lead}

module _ (r : ℕ → RectToPlace) where
  -- what the test says: one and the same rectangle, or one and the same group that is not 0
  abbrev pub Joined : ℕ → ℕ → Type 0
  Joined i j = (i ≡ j) ⊎ ((0 < (r i).group) × ((r i).group ≡ (r j).group))

  abbrev grouped : ℕ → ℕ → Bool
  grouped i j = ltb 0 (r i).group && eqb (r i).group (r j).group

  pub joined : (i j : ℕ) → same_group r i j ≡ true → Joined i j
  unfolding same_group
  joined i j =
      elim (eqb i j) as (λ t. eqb i j ≡ t → (t || grouped i j) ≡ true → Joined i j) [
        | true ↦ λ p q. inl (eqb-true i j p)
        | false ↦ λ p q. inr (ltb-true _ _ (and_first _ _ q), eqb-true _ _ (and_second (ltb 0 (r i).group) _ q))
      ]
      refl

  test : (i j : ℕ) → Joined i j → same_group r i j ≡ true
  unfolding same_group
  test i j (inl e) = rw (eq-eqb i j e)
  test i j (inr p) = elim (eqb i j) as (λ t. (t || grouped i j) ≡ true) [ true ↦ refl | false ↦ and_both _ _ (lt-ltb _ _ p.0) (eq-eqb _ _ p.1) ]

  pub same_itself : (i : ℕ) → same_group r i i ≡ true
  same_itself i = test i i (inl refl)

  pub same_back : (i j : ℕ) → same_group r i j ≡ true → same_group r j i ≡ true
  same_back i j e = test j i (⊎_elim (λ p. inl (sym p)) (λ p. inr (omega arith, sym p.1)) (joined i j e))

  same_through : (i j k : ℕ) → same_group r i j ≡ true → same_group r j k ≡ true → same_group r i k ≡ true
  same_through i j k e f =
      ⊎_elim (λ p. rw p f)
      (λ p. ⊎_elim (λ q. rw q at e) (λ q. test i k (inr (p.0, p.1 ∙ q.1))) (joined j k f))
      (joined i j e)

  -- the first index is of the group, and is its own first index
  pub lead_within : (i : ℕ) → lead_of r i ≤ i
  unfolding lead_of
  lead_within i = lowest_most i (λ j. same_group r j i)

  pub lead_same : (i : ℕ) → same_group r (lead_of r i) i ≡ true
  unfolding lead_of
  lead_same i =
      ⊎_elim (λ (e : lowest i (λ j. same_group r j i) ≡ i). rw e (same_itself i)) (lowest_fires i (λ j. same_group r j i))
      (eq-or-lt_of_le (lowest_most i (λ j. same_group r j i)))

  none_before : (i : ℕ) → None (lead_of r i) (λ j. same_group r j i)
  unfolding lead_of
  none_before i = none_below_lowest i (λ j. same_group r j i)

  lead_once : (i : ℕ) → None i (λ j. same_group r j i) → is_lead r i ≡ true
  unfolding is_lead lead_of
  lead_once i p = eq-eqb _ _ (lowest_none i (λ j. same_group r j i) p)

  pub lead_lead : (i : ℕ) → is_lead r (lead_of r i) ≡ true
  lead_lead i =
      lead_once (lead_of r i)
      (record { at = λ j h. false_of _ (λ e. true_false (sym (same_through j (lead_of r i) i e (lead_same i)) ∙ (none_before i).at j h)) })

  -- no index before a first one is of its group
  pub lead_none : (i : ℕ) → is_lead r i ≡ true → None i (λ j. same_group r j i)
  unfolding is_lead lead_of
  lead_none i e = none_of_lowest i (λ j. same_group r j i) (le_of_eq (sym (eqb-true _ _ e)))

  -- two first indices of one group are one
  one_lead : (i j : ℕ) → is_lead r i ≡ true → is_lead r j ≡ true → same_group r i j ≡ true → i ≡ j
  one_lead i j a b e =
      elim (dec_lt i j) [
        | yes p ↦ absurd (true_false (sym e ∙ (lead_none j b).at i p))
        | no p ↦ elim (dec_lt j i) [ yes q ↦ absurd (true_false (sym (same_back i j e) ∙ (lead_none i a).at j q)) | no q ↦ omega arith ]
      ]

  -- so j is a member of the group that l leads exactly when l is its first index
  pub member_lead : (l j : ℕ) → is_lead r l ≡ true → same_group r l j ≡ true → l ≡ lead_of r j
  member_lead l j a e =
      one_lead l (lead_of r j) a (lead_lead j) (same_through l j (lead_of r j) e (same_back (lead_of r j) j (lead_same j)))
