-- The chosen place is a choice, and there is only one.
use Prim.Native.Nat.{ℕ, ◌<◌, ◌+◌}
use mathlib.Core.Path.{◌≡◌, refl, sym, ap, ◌∙◌}
use mathlib.Core.List.{List}
use mathlib.Core.Bool.{Bool, true, false}
use mathlib.Core.Logic.{◌⊎◌, inl, inr, ⊎_elim}
use native.Mathlib.Omega.{arith}
use native.Mathlib.Nat.{eq-or-lt_of_le}
use native.Mathlib.Decide.{dec_lt, ℕ_discrete}
use borrow.Author.Tests.{ltb-true, ltb-false, eqb-true}
use lib.ListN.{length, get_or, take}
use lib.Seq.{take_all}
use lib.Dec.{ltb}
use Rattle.lists.proofs.Flags.{true_false}
use Rattle.lists.proofs.Ties.{rising, tied_says}
use Rattle.try_place.specs.declared.choice.Ranked.{Ranked}
use Rattle.bin_section.specs.declared.section.BinSection.{BinSection}
use Rattle.try_place.specs.Choice.{better_of, later_of, best_of, zero_ranked, ranks_of, chosen, Under, NotOver, IsChoice}
use Rattle.try_place.proofs.Choosing.{better_less, better_tie, later_first, later_second, best_one, best_more, six_long, rank_at}

abbrev by_second : Ranked → Ranked → Bool
by_second a b = ltb a.second b.second

-- the test and its two meanings
module _ (a b : Ranked) where
  under : better_of a b ≡ true → Under a b
  unfolding Under better_of
  under h = ⊎_elim (λ p. inl (ltb-true _ _ p)) (λ p. inr (eqb-true _ _ p.0, ltb-true _ _ p.1)) (tied_says (rising (λ k. k.least)) by_second a b h)

  not_over : better_of a b ≡ false → NotOver b a
  unfolding NotOver
  not_over h =
      elim (dec_lt b.least a.least) [
        | yes l ↦ inl l
        | no g ↦ elim (ℕ_discrete a.least b.least) [
          | yes e ↦ inr (sym e, ltb-false _ _ (sym (better_tie a b e) ∙ h))
          | no n ↦ absurd (true_false (sym (better_less a b (omega arith)) ∙ h))
        ]
      ]

  weaken : Under a b → NotOver a b
  unfolding Under NotOver
  weaken = ⊎_elim inl (λ h. inr (h.0, omega arith))

  clash : Under a b → NotOver b a → ⊥
  unfolding Under NotOver
  clash = ⊎_elim
      (λ l. ⊎_elim (λ m. omega arith) (λ m. omega arith))
      (λ l. ⊎_elim (λ m. omega arith) (λ m. omega arith))

not_over_refl : (a : Ranked) → NotOver a a
unfolding Under NotOver
not_over_refl a = inr (refl, omega arith)

not_over_trans : (a b c : Ranked) → NotOver a b → NotOver b c → NotOver a c
unfolding Under NotOver
not_over_trans a b c =
    ⊎_elim
    (λ l. ⊎_elim (λ m. inl (omega arith)) (λ m. inl (omega arith)))
    (λ l. ⊎_elim (λ m. inl (omega arith)) (λ m. inr (l.0 ∙ m.0, omega arith)))

-- one more candidate
below_or : {i n : ℕ} → i < n + 1 → (i ≡ n) ⊎ (i < n)
below_or {i} {n} h = eq-or-lt_of_le (omega arith)

module _ (xs : List Ranked) (n p : ℕ) (w : IsChoice xs n p) where
  keep : Under (get_or xs p zero_ranked) (get_or xs n zero_ranked) → IsChoice xs (n + 1) p
  keep u =
      record {
        within = omega (arith, w.within);
        least = λ i h. ⊎_elim (λ e. rw e (weaken _ _ u)) (w.least i) (below_or h);
        last = λ i g h. ⊎_elim (λ e. rw e u) (w.last i g) (below_or h);
      }

  move : NotOver (get_or xs n zero_ranked) (get_or xs p zero_ranked) → IsChoice xs (n + 1) n
  move u =
      record {
        within = omega arith;
        least =
            λ i h. ⊎_elim (λ e. rw e (not_over_refl _)) (λ l. not_over_trans _ _ _ u (w.least i l)) (below_or h);
        last = λ i g h. absurd (omega arith);
      }

Picked : List Ranked → ℕ → Type 0
Picked xs n = (p : ℕ) × IsChoice xs n p × (get_or xs p zero_ranked ≡ best_of (take n xs))

picked_more : (xs : List Ranked) (n : ℕ) → 0 < n → n < length xs → Picked xs n → Picked xs (n + 1)
unfolding Picked
picked_more xs n z h w = go (better_of (get_or xs w.0 zero_ranked) (get_or xs n zero_ranked)) refl
  where
    b : Ranked
    b = get_or xs w.0 zero_ranked

    k : Ranked
    k = get_or xs n zero_ranked

    more : best_of (take (n + 1) xs) ≡ later_of b k
    more = best_more xs n z h ∙ ap (λ (x : Ranked). later_of x k) (sym w.2)

    go : (t : Bool) → better_of b k ≡ t → Picked xs (n + 1)
    go true e = (w.0, keep xs n _ w.1 (under _ _ e), sym (more ∙ later_first b k e))
    go false e = (n, move xs n _ w.1 (not_over _ _ e), sym (more ∙ later_second b k e))

picked_one : (xs : List Ranked) → 0 < length xs → Picked xs 1
unfolding Picked
picked_one xs h = (
  0,
  record {
    within = omega arith;
    least = λ i l. let e : i ≡ 0 = omega arith in rw e (not_over_refl _);
    last = λ i g l. absurd (omega arith);
  },
  best_one xs h,
)

-- the ranks bear their places
index_at : (t : List (List BinSection)) (p : ℕ) → p < 6 → (get_or (ranks_of t) p zero_ranked).index ≡ p
index_at t p h = ap (λ (x : Ranked). x.index) (rank_at t p h)

-- Demand: the chosen place is minimal and the last of its equals, and no other place is.
pub chosen_is : (t : List (List BinSection)) → IsChoice (ranks_of t) 6 (chosen t)
unfolding Picked chosen
chosen_is t =
    let xs = ranks_of t in
    let l : length xs ≡ 6 = six_long t in
    let w =
    picked_more xs 5 (omega arith) (omega arith)
    (picked_more xs 4 (omega arith) (omega arith)
    (picked_more xs 3 (omega arith) (omega arith)
    (picked_more xs 2 (omega arith) (omega arith)
    (picked_more xs 1 (omega arith) (omega arith) (picked_one xs (omega arith)))))) in
    let e : w.0 ≡ (best_of xs).index =
    sym (index_at t w.0 w.1.within)
    ∙ ap (λ (x : Ranked). x.index) (w.2 ∙ ap best_of (take_all 6 xs (omega arith))) in
    rw e at w.1

pub one_choice : (xs : List Ranked) (n p q : ℕ) → IsChoice xs n p → IsChoice xs n q → p ≡ q
one_choice xs n p q v w = elim (dec_lt p q) [
  | yes l ↦ absurd (clash _ _ (v.last q l w.within) (w.least p v.within))
  | no g ↦ elim (dec_lt q p) [
    | yes l ↦ absurd (clash _ _ (w.last p l v.within) (v.least q w.within))
    | no h ↦ omega arith
  ]
]

-- the chosen place is one of the six
pub chosen_below : (t : List (List BinSection)) → chosen t < 6
chosen_below t = (chosen_is t).within
