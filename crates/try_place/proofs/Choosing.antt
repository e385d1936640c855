-- Laws of the comparison and of the choice.
use Prim.Native.Nat.{ℕ, zero, suc, ◌<◌, ◌≤◌, ◌+◌}
use mathlib.Core.Path.{◌≡◌, refl, sym, ap, ◌∙◌}
use mathlib.Core.List.{List, [], ◌∷◌}
use mathlib.Core.Bool.{true, false}
use native.Mathlib.Omega.{arith}
use native.Mathlib.Nat.{le_of_eq, le_of_suc-le-suc}
use native.Mathlib.Numerals.{add-one}
use borrow.Author.Tests.{lt-ltb, le-ltb, eq-eqb, ne_eqb}
use lib.Dec.{ltb}
use lib.ListN.{length, get_or, take}
use lib.Seq.{take_all}
use Rattle.bin_section.specs.declared.section.BinSection.{BinSection}
use Rattle.try_place.specs.declared.choice.Ranked.{Ranked}
use Rattle.try_place.specs.Choice.{better_of, later_of, best_from, best_of, zero_ranked, rank_split, ranks_of, chosen}
use Rattle.try_place.specs.Leaning.{SmallBoxes, SmallSplits}
use Rattle.try_place.proofs.Six.{of_six}

module _ (a b : Ranked) where
  pub better_less : a.least < b.least → better_of a b ≡ true
  unfolding better_of
  better_less h = simp (lt-ltb _ _ h)

  pub better_tie : a.least ≡ b.least → better_of a b ≡ ltb a.second b.second
  unfolding better_of
  better_tie h = simp (le-ltb _ _ (le_of_eq (sym h)), eq-eqb _ _ h)

  pub better_more : b.least ≤ a.least → (a.least ≡ b.least → ⊥) → better_of a b ≡ false
  unfolding better_of
  better_more h n = simp (le-ltb _ _ h, ne_eqb _ _ n)

pub later_first : (a b : Ranked) → better_of a b ≡ true → later_of a b ≡ a
unfolding later_of
later_first a b h = rw h

pub later_second : (a b : Ranked) → better_of a b ≡ false → later_of a b ≡ b
unfolding later_of
later_second a b h = rw h

-- the best of one more
best_from_more :
    (a : Ranked) (xs : List Ranked) (i : ℕ)
    → i < length xs
    → best_from a (take (suc i) xs) ≡ later_of (best_from a (take i xs)) (get_or xs i zero_ranked)
unfolding best_from
best_from_more a [] i h = absurd (omega arith)
best_from_more a (b ∷ bs) zero h = refl
best_from_more a (b ∷ bs) (suc i) h = best_from_more (later_of a b) bs i (le_of_suc-le-suc h)

pub best_one : (xs : List Ranked) → 0 < length xs → get_or xs 0 zero_ranked ≡ best_of (take 1 xs)
unfolding best_of best_from
best_one [] h = absurd (omega arith)
best_one (a ∷ xs) h = refl

pub best_more :
    (xs : List Ranked) (i : ℕ)
    → 0 < i
    → i < length xs
    → best_of (take (i + 1) xs) ≡ later_of (best_of (take i xs)) (get_or xs i zero_ranked)
unfolding best_of
best_more [] i p h = absurd (omega arith)
best_more (a ∷ xs) zero p h = absurd (omega arith)
best_more (a ∷ xs) (suc i) p h = rw add-one (best_from_more a xs i (le_of_suc-le-suc h))

module _ (t : List (List BinSection)) where
  pub six_long : length (ranks_of t) ≡ 6
  unfolding ranks_of
  six_long = refl

  pub rank_at : (i : ℕ) → i < 6 → get_or (ranks_of t) i zero_ranked ≡ rank_split (get_or t i []) i
  unfolding ranks_of
  rank_at = of_six (λ i. get_or (ranks_of t) i zero_ranked ≡ rank_split (get_or t i []) i) refl refl refl refl refl refl

  pub small_at : SmallSplits t → (i : ℕ) → i < 6 → SmallBoxes (get_or t i [])
  small_at s = of_six (λ i. SmallBoxes (get_or t i [])) s.at0 s.at1 s.at2 s.at3 s.at4 s.at5

-- The state of the choice: b is the best of the first i of the six.
pub record Chosen (t : List (List BinSection)) (i : ℕ) (b : Ranked) : Type 0 where
  pub some : 0 < i
  pub best : b ≡ best_of (take i (ranks_of t))

module _ (t : List (List BinSection)) where
  pub chosen_one : (b : Ranked) → b ≡ rank_split (get_or t 0 []) 0 → Chosen t 1 b
  chosen_one b e =
      record { some = omega arith; best = e ∙ sym (rank_at t 0 (omega arith)) ∙ best_one (ranks_of t) (omega (arith, six_long t)) }

  pub chosen_more :
      (i : ℕ) (b n c : Ranked)
      → Chosen t i b
      → i < 6
      → n ≡ rank_split (get_or t i []) i
      → c ≡ later_of b n
      → Chosen t (i + 1) c
  chosen_more i b n c w h e l =
      record { some = omega arith; best = cc (best_more (ranks_of t) i w.some (omega (arith, six_long t)), w.best, rank_at t i h) }

  pub chosen_all : (i : ℕ) (b : Ranked) → Chosen t i b → 6 ≤ i → b.index ≡ chosen t
  unfolding chosen
  chosen_all i b w h =
      ap (λ (x : Ranked). x.index) (w.best ∙ ap best_of (take_all i (ranks_of t) (omega (arith, six_long t))))
