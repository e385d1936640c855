-- The groups share out the rectangles: each stands in one group, once, so the sizes of the groups add up to their number.
use Prim.Native.Nat.{ℕ, ◌<◌}
use mathlib.Core.Path.{◌≡◌, refl, sym, ap, ◌∙◌}
use mathlib.Core.Logic.{⊎_elim}
use mathlib.Core.List.{List, [], ◌∷◌}
use mathlib.Core.Bool.{true, false, ◌&&◌, cond}
use native.Mathlib.Nat.{mul-one, mul-zero}
use native.Mathlib.Omega.{arith}
use lib.ListN.{length, get_or}
use Rattle.lists.specs.Sort.{Each, also, EachTwo, also_two}
use Rattle.lists.specs.Sum.{sum_to}
use Rattle.lists.proofs.Flags.{true_false, false_of, and_first, and_second}
use Rattle.lists.proofs.Lowests.{None}
use Rattle.lists.proofs.Picks.{pick_each, pick_rising, pick_first}
use Rattle.lists.proofs.Sorts.{each_map, each_two_map, each_mapped, two_mapped, sort_permuted, sort_each, permuted_two}
use Rattle.lists.proofs.Sums.{sum_ext, sum_swap, sum_all, sum_raised}
use Rattle.lists.proofs.Totals.{total, total_map, total_permuted, total_picked, total_length}
use Rattle.grouped_rects_to_place.specs.declared.rect_to_place.RectToPlace.{RectToPlace}
use Rattle.grouped_rects_to_place.specs.Groups.{same_group, lead_of, is_lead, leads, members, earlier, group_order, groups_of}
use Rattle.grouped_rects_to_place.proofs.Parting.{joined, same_itself, same_back, lead_within, lead_same, lead_lead, lead_none, member_lead}

-- what a group is: the indices, in table order, of all rectangles of the group of its first index
pub record Group (n : ℕ) (r : ℕ → RectToPlace) (g : List ℕ) (lead : ℕ) : Type 0 where
  pub is : g ≡ members n r lead
  pub lead_below : lead < n
  pub first : get_or g 0 0 ≡ lead
  pub some : 0 < length g
  pub below : Each (λ i. i < n) g
  pub rising : EachTwo (λ i j. i < j) g

-- no index stands in both
abbrev pub Disjoint : List ℕ → List ℕ → Type 0
Disjoint g h = Each (λ i. Each (λ j. i ≡ j → ⊥) h) g

module _ (n : ℕ) (r : ℕ → RectToPlace) where
  -- how many of the groups the rectangle at j is in: one
  abbrev counted : ℕ → ℕ → ℕ
  counted i j = cond (is_lead r i && same_group r i j) 1 0

  counted_both : (i : ℕ) → cond (is_lead r i) (length (members n r i)) 0 ≡ sum_to n (counted i)
  counted_both i =
      elim (is_lead r i) as (λ t. cond t (length (members n r i)) 0 ≡ sum_to n (λ j. cond (t && same_group r i j) 1 0)) [
        | true ↦ total_length (members n r i) ∙ total_picked (λ j. 1) (same_group r i) n
        | false ↦ sym (sum_all n 0 (λ j. 0) (λ j h. refl) ∙ mul-zero n)
      ]

  counted_once : (j : ℕ) → j < n → sum_to n (λ i. counted i j) ≡ 1
  counted_once j h =
      sum_raised n (λ i. 0) (λ i. counted i j) (lead_of r j) 1 (omega (arith, lead_within r j)) (rw (lead_lead r j, lead_same r j))
      (λ i ne. rw (false_of (is_lead r i && same_group r i j) (λ t. ne (member_lead r i j (and_first _ _ t) (and_second (is_lead r i) _ t)))))
      ∙ omega (arith, sum_all n 0 (λ i. 0) (λ i l. refl), mul-zero n)

  -- the sizes of the groups add up to the number of rectangles
  pub groups_total : total length (groups_of n r) ≡ n
  unfolding groups_of group_order
  groups_total =
      total_map length (members n r) (group_order n r)
      ∙ sym (total_permuted (λ i. length (members n r i)) (sort_permuted (earlier n r) (leads n r)))
      ∙ total_picked (λ i. length (members n r i)) (is_lead r) n
      ∙ sum_ext n (λ i. cond (is_lead r i) (length (members n r i)) 0) (λ i. sum_to n (counted i)) (λ i h. counted_both i)
      ∙ sum_swap n n (λ j i. counted i j)
      ∙ sum_all n 1 (λ j. sum_to n (λ i. counted i j)) counted_once
      ∙ mul-one n

  pub group_of : (i : ℕ) → i < n → is_lead r i ≡ true → Group n r (members n r i) i
  group_of i h e =
      let before : None i (same_group r i) =
      record { at = λ j l. false_of (same_group r i j) (λ p. true_false (sym (same_back r i j p) ∙ (lead_none r i e).at j l)) } in
      let f = pick_first n i (same_group r i) before h (same_itself r i) in
      record {
        is = refl;
        lead_below = h;
        first = ap (λ (l : List ℕ). get_or l 0 0) f.1;
        some = rw f.1 (omega arith);
        below = each_map (λ j p. p.0) (pick_each n (same_group r i));
        rising = pick_rising n (same_group r i);
      }

  leads-each : Each (λ i. (i < n) × (is_lead r i ≡ true)) (group_order n r)
  unfolding group_order
  leads-each = sort_each (earlier n r) (pick_each n (is_lead r))

  -- each of the groups in the order of packing is one
  pub groups_each : Each (λ g. (lead : ℕ) × Group n r g lead) (groups_of n r)
  unfolding groups_of
  groups_each = each_mapped (members n r) (λ i p. (i, group_of i p.0 p.1)) leads-each

  -- an ungrouped rectangle is a group of its own
  pub ungrouped_alone : (i : ℕ) → i < n → (r i).group ≡ 0 → members n r i ≡ i ∷ []
  ungrouped_alone i h z =
      let before : None i (same_group r i) = record { at = λ j l. false_of (same_group r i j) (λ e. let q : i ≡ j = itself j e in omega arith) } in
      let f = pick_first n i (same_group r i) before h (same_itself r i) in
      f.1
      ∙ ap (λ (l : List ℕ). i ∷ l)
      (only_one f.0 (rw f.1 at (each_map (λ j p. itself j p.1) (pick_each n (same_group r i))))
      (rw f.1 at (pick_rising n (same_group r i))))
    where
      itself : (j : ℕ) → same_group r i j ≡ true → i ≡ j
      itself j e = ⊎_elim (λ q. q) (λ p. absurd (omega arith)) (joined r i j e)

      only_one : (rest : List ℕ) → Each (λ j. i ≡ j) (i ∷ rest) → EachTwo (λ a b. a < b) (i ∷ rest) → rest ≡ []
      only_one [] p q = refl
      only_one (y ∷ ys) (also p (also e es)) (also_two (also l ls) q) = absurd (omega arith)

  members_disjoint : (i k : ℕ) → is_lead r i ≡ true → is_lead r k ≡ true → (i ≡ k → ⊥) → Disjoint (members n r i) (members n r k)
  members_disjoint i k p q d =
      each_map
      (λ a u. each_map (λ b v e. d (member_lead r i b p (rw e at u.1) ∙ sym (member_lead r k b q v.1))) (pick_each n (same_group r k)))
      (pick_each n (same_group r i))

  -- no rectangle stands in two of the groups
  pub groups_disjoint : EachTwo Disjoint (groups_of n r)
  unfolding groups_of group_order
  groups_disjoint =
      two_mapped (members n r) (λ i k d. d)
      (each_two_map (λ i k u v d. members_disjoint i k u.1 v.1 d) leads-each
      (permuted_two (λ i j d e. d (sym e)) (sort_permuted (earlier n r) (leads n r))
      (each_two_map (λ i j u v l e. omega arith) (pick_each n (is_lead r)) (pick_rising n (is_lead r)))))
