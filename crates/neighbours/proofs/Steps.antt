-- A list joined step by step: what one join keeps, and what holds afterwards.
use Prim.Native.Nat.{ℕ, zero, suc, ◌+◌, ◌-◌, ◌≤◌, ◌<◌}
use mathlib.Core.Path.{◌≡◌, refl, sym, ap, ◌∙◌}
use mathlib.Core.List.{List, [], ◌∷◌}
use mathlib.Core.Bool.{Bool, true, false, ◌&&◌}
use native.Mathlib.Decide.{dec_lt, ℕ_discrete}
use native.Mathlib.Omega.{arith}
use borrow.Author.Tests.{ltb-true, lt-ltb, le-ltb}
use lib.Dec.{ltb}
use lib.ListN.{length, set, length-set}
use lib.Seq.{get_or-set_same, get_or-set_other}
use Rattle.lists.specs.Lowest.{lowest, any_below}
use Rattle.lists.specs.Sort.{Each}
use Rattle.lists.proofs.Flags.{true_false, and_first, and_second, and_both, and_no_first, and_no_second}
use Rattle.lists.proofs.Lowests.{None, any_none, none_any, any_lowest, lowest_fires, lowest_most, none_below_lowest}
use Rattle.lists.proofs.Sorts.{each_at, each_set, each_remove}
use Rattle.lists.proofs.Tabs.{length-remove_at, getd_remove_at_before, getd_remove_at_after}
use Rattle.lists.proofs.Totals.{total, total_set, total_removed}
use Rattle.bin_section.specs.declared.section.BinSection.{BinSection}
use Rattle.bin_section.specs.Section.{zero_section}
use Rattle.bin_section.specs.Boxes.{box_at}
use Rattle.neighbours.specs.declared.pairs.Pair.{Pair}
use Rattle.neighbours.specs.Neighbour.{joins_of, joined_box}
use Rattle.neighbours.specs.Joining.{joins_with, joins_later, some_join, pair_of, joined_at, join_from, join_all}
use Rattle.neighbours.specs.Means.{Some}
use Rattle.neighbours.proofs.Neighbouring.{Adds, adds_joined}

-- ---- the pair

-- two positions whose sections join
pub record TwoJoin (free : List BinSection) (p : Pair) : Type 0 where
  pub rising : p.first < p.second
  pub listed : p.second < length free
  pub joins : joins_of (box_at free p.first) (box_at free p.second) ≡ true

-- where two sections join, the pair is two that join
pub pair_joins : (free : List BinSection) → some_join free ≡ true → TwoJoin free (pair_of free)
unfolding some_join pair_of joins_later joins_with
pair_joins free t =
    let n = length free in
    let i = lowest n (joins_later free) in
    let j = lowest n (joins_with free i) in
    let li : i < n = ltb-true i n (sym (any_lowest n (joins_later free)) ∙ t) in
    let lj : j < n = ltb-true j n (sym (any_lowest n (joins_with free i)) ∙ lowest_fires n (joins_later free) li) in
    let fires : (ltb i j && joins_of (box_at free i) (box_at free j)) ≡ true = lowest_fires n (joins_with free i) lj in
    record {
      rising = ltb-true i j (and_first (ltb i j) _ fires);
      listed = lj;
      joins = and_second (ltb i j) (joins_of (box_at free i) (box_at free j)) fires;
    }

-- where none is found, no two sections join
pub none_join : (free : List BinSection) → some_join free ≡ false → (i j : ℕ) → i < j → j < length free → joins_of (box_at free i) (box_at free j) ≡ false
unfolding some_join joins_later joins_with
none_join free e i j l h = go (joins_of (box_at free i) (box_at free j)) refl
  where
    go : (t : Bool) → joins_of (box_at free i) (box_at free j) ≡ t → joins_of (box_at free i) (box_at free j) ≡ false
    go true q =
        absurd (true_false
        (sym (and_both (ltb i j) (joins_of (box_at free i) (box_at free j)) (lt-ltb i j l) q)
        ∙ (any_none (length free) (joins_with free i) ((any_none (length free) (joins_later free) e).at i (omega arith))).at j h))
    go false q = q

-- ---- one join

module _ (free : List BinSection) (p : Pair) (two : TwoJoin free p) where
  abbrev i : ℕ
  i = p.first

  abbrev j : ℕ
  j = p.second

  abbrev box : BinSection
  box = joined_box (box_at free i) (box_at free j)

  abbrev changed : List BinSection
  changed = set free i box

  low : i < length free
  low = omega (arith, two.rising, two.listed)

  still : j < length changed
  still = omega (arith, length-set free i box, two.listed)

  pub length-joined : suc (length (joined_at free p)) ≡ length free
  unfolding joined_at
  length-joined = length-remove_at j changed still ∙ length-set free i box

  -- a weight that adds up stays
  pub total_joined : (w : BinSection → ℕ) → Adds w → total w (joined_at free p) ≡ total w free
  unfolding joined_at
  total_joined w adds =
      omega (
        arith,
        total_removed w j zero_section changed still,
        ap w (get_or-set_other free i j box zero_section (λ e. omega (arith, two.rising))),
        total_set w i box zero_section free low,
        adds_joined w adds (box_at free i) (box_at free j) two.joins,
      )

  -- what holds of each section, and of the joined box where it holds of both, holds of each
  pub each-joined : {P : BinSection → Type 0} → ((a b : BinSection) → P a → P b → P (joined_box a b)) → Each P free → Each P (joined_at free p)
  unfolding joined_at
  each-joined both e = each_remove j (each_set i box (both _ _ (each_at e i zero_section low) (each_at e j zero_section two.listed)) e)

  -- the others are as they were: those after the second one have moved down
  pub kept_before : (k : ℕ) → k < j → (k ≡ i → ⊥) → box_at (joined_at free p) k ≡ box_at free k
  unfolding joined_at
  kept_before k l ne =
      getd_remove_at_before j k changed zero_section l ∙ get_or-set_other free i k box zero_section ne

  pub kept_after : (k : ℕ) → j ≤ k → box_at (joined_at free p) k ≡ box_at free (suc k)
  unfolding joined_at
  kept_after k l =
      getd_remove_at_after j k changed zero_section l
      ∙ get_or-set_other free i (suc k) box zero_section (λ e. omega (arith, two.rising))

-- what holds of some section, and of the joined box where it holds of one of the two, still holds of some section
module _ {P : BinSection → Type 0} (first-kept : (a b : BinSection) → P a → P (joined_box a b)) (second-kept : (a b : BinSection) → P b → P (joined_box a b))
    (free : List BinSection) (p : Pair) (two : TwoJoin free p) where
  joined_first : box_at (joined_at free p) p.first ≡ joined_box (box_at free p.first) (box_at free p.second)
  unfolding joined_at
  joined_first =
      getd_remove_at_before p.second p.first (changed free p two) zero_section two.rising
      ∙ get_or-set_same free p.first (box free p two) zero_section (low free p two)

  at_first : P (joined_box (box_at free p.first) (box_at free p.second)) → Some P (joined_at free p)
  at_first h = record { index = p.first; below = omega (arith, length-joined free p two, two.rising, two.listed); holds = rw joined_first h }

  pub some_joined : Some P free → Some P (joined_at free p)
  some_joined s = go (ℕ_discrete s.index p.first) (ℕ_discrete s.index p.second) (dec_lt s.index p.second)
    where
      go : Dec (s.index ≡ p.first) → Dec (s.index ≡ p.second) → Dec (s.index < p.second) → Some P (joined_at free p)
      go (yes e) d l = at_first (first-kept _ _ (rw e at s.holds))
      go (no n) (yes e) l = at_first (second-kept _ _ (rw e at s.holds))
      go (no n) (no m) (yes l) =
          record { index = s.index; below = omega (arith, length-joined free p two, two.listed); holds = rw (kept_before free p two s.index l n) s.holds }
      go (no n) (no m) (no l) =
          let e : suc (s.index - 1) ≡ s.index = omega arith in
          record {
            index = s.index - 1;
            below = omega (arith, length-joined free p two, s.below);
            holds = rw (kept_after free p two (s.index - 1) (omega arith), e) s.holds;
          }

-- ---- where the next pair is

-- a section before the first of the pair joins with no later one
early_none : (free : List BinSection) → some_join free ≡ true → (k m : ℕ) → k < (pair_of free).first → k < m → m < length free → joins_of (box_at free k) (box_at free m) ≡ false
unfolding pair_of joins_later joins_with
early_none free t k m l h b =
    let none = (any_none (length free) (joins_with free k) ((none_below_lowest (length free) (joins_later free)).at k l)).at m b in
    rw (lt-ltb k m h) at none

module _ (free : List BinSection) (t : some_join free ≡ true) where
  abbrev p : Pair
  p = pair_of free

  abbrev after : List BinSection
  after = joined_at free p

  -- so afterwards it can join with the joined box alone
  later_none : (k m : ℕ) → k < p.first → joins_of (box_at after k) (box_at after p.first) ≡ false → k < m → m < length after → Dec (m ≡ p.first) → Dec (m < p.second) → joins_of (box_at after k) (box_at after m) ≡ false
  later_none k m l none h b (yes e) d = rw e none
  later_none k m l none h b (no ne) (yes d) =
      let two = pair_joins free t in
      rw (kept_before free p two k (omega (arith, two.rising)) (λ e. omega arith), kept_before free p two m d ne)
      (early_none free t k m l h (omega (arith, two.listed)))
  later_none k m l none h b (no ne) (no d) =
      let two = pair_joins free t in
      rw (kept_before free p two k (omega (arith, two.rising)) (λ e. omega arith), kept_after free p two m (omega arith))
      (early_none free t k (suc m) l (omega arith) (omega (arith, length-joined free p two)))

  pub next_from : (r : ℕ) → r ≡ lowest p.first (λ k. joins_of (box_at after k) (box_at after p.first)) → None r (joins_later after)
  unfolding joins_later joins_with
  next_from r e =
      let most = lowest_most p.first (λ k. joins_of (box_at after k) (box_at after p.first)) in
      record {
        at = λ k l.
            let low : k < p.first = omega arith in
            let none : joins_of (box_at after k) (box_at after p.first) ≡ false =
            (none_below_lowest p.first (λ i. joins_of (box_at after i) (box_at after p.first))).at k (omega arith) in
            none_any (length after) (joins_with after k) (record { at = λ m b. go k m (dec_lt k m) (later_none k m low none) b });
      }
    where
      go : (k m : ℕ) → Dec (k < m) → (k < m → m < length after → Dec (m ≡ p.first) → Dec (m < p.second) → joins_of (box_at after k) (box_at after m) ≡ false) → m < length after → joins_with after k m ≡ false
      go k m (yes h) f b = and_no_second (ltb k m) (joins_of (box_at after k) (box_at after m)) (f h b (ℕ_discrete m p.first) (dec_lt m p.second))
      go k m (no h) f b = and_no_first (ltb k m) (joins_of (box_at after k) (box_at after m)) (le-ltb k m (omega arith))

-- ---- all joins

-- what each join keeps holds afterwards
module _ (P : List BinSection → Type 0) (step : (free : List BinSection) (p : Pair) → TwoJoin free p → P free → P (joined_at free p)) where
  from_keeps : (n m : ℕ) (free : List BinSection) → P free → P (join_from n m free).free
  unfolding join_from
  from_keeps zero m free h = h
  from_keeps (suc n) m free h = go (some_join free) refl (λ t. from_keeps n (suc m) (joined_at free (pair_of free)) (step free (pair_of free) (pair_joins free t) h))
    where
      go : (t : Bool) → some_join free ≡ t → (t ≡ true → P (join_from n (suc m) (joined_at free (pair_of free))).free) → P (join_from (suc n) m free).free
      go true e rest = rw e (rest refl)
      go false e rest = rw e h

  pub all_keeps : (free : List BinSection) → P free → P (join_all free).free
  unfolding join_all
  all_keeps free h = from_keeps (length free) 0 free h

-- each join takes one section away
from_count : (n m : ℕ) (free : List BinSection) → length (join_from n m free).free + (join_from n m free).joins ≡ length free + m
unfolding join_from
from_count zero m free = refl
from_count (suc n) m free = go (some_join free) refl (from_count n (suc m) (joined_at free (pair_of free)))
  where
    go : (t : Bool) → some_join free ≡ t
        → length (join_from n (suc m) (joined_at free (pair_of free))).free + (join_from n (suc m) (joined_at free (pair_of free))).joins ≡ length (joined_at free (pair_of free)) + suc m
        → length (join_from (suc n) m free).free + (join_from (suc n) m free).joins ≡ length free + m
    go true e rest = rw e (rest ∙ omega (arith, length-joined free (pair_of free) (pair_joins free e)))
    go false e rest = rw e

pub all_count : (free : List BinSection) → length (join_all free).free + (join_all free).joins ≡ length free
unfolding join_all
all_count free = omega (arith, from_count (length free) 0 free)

none_left : (free : List BinSection) → length free ≡ 0 → some_join free ≡ false
unfolding some_join any_below
none_left [] e = refl
none_left (x ∷ xs) e = absurd (omega arith)

-- as many steps as sections are enough
from_none : (n m : ℕ) (free : List BinSection) → length free ≤ n → some_join (join_from n m free).free ≡ false
unfolding join_from
from_none zero m free h = none_left free (omega arith)
from_none (suc n) m free h = go (some_join free) refl (from_none n (suc m) (joined_at free (pair_of free)))
  where
    go : (t : Bool) → some_join free ≡ t
        → (length (joined_at free (pair_of free)) ≤ n → some_join (join_from n (suc m) (joined_at free (pair_of free))).free ≡ false)
        → some_join (join_from (suc n) m free).free ≡ false
    go true e rest = rw e (rest (omega (arith, length-joined free (pair_of free) (pair_joins free e))))
    go false e rest = rw e e

pub all_none : (free : List BinSection) → some_join (join_all free).free ≡ false
unfolding join_all
all_none free = from_none (length free) 0 free (omega arith)
