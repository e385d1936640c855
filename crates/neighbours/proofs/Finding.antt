-- Laws of the search through the words, of one join in them, and of the loop that joins as long as two sections join.
use Prim.Native.Nat.{ℕ, zero, suc, ◌+◌, ◌*◌, ◌-◌, ◌≤◌, ◌<◌}
use mathlib.Core.Path.{◌≡◌, refl, sym, ap, ap₂, ◌∙◌}
use mathlib.Core.List.{List}
use mathlib.Core.Bool.{Bool, true, false, cond}
use native.Mathlib.Decide.{dec_lt}
use native.Mathlib.Omega.{arith}
use borrow.Author.Tests.{lt-ltb, le-ltb}
use lib.Dec.{ltb}
use lib.ListN.{length, set}
use Rattle.std.proofs.Common.{Option, Some, option_map, unwrap_or}
use Rattle.std.proofs.Common.{None as Nothing}
use Rattle.std.proofs.lemmas.Option.{none-some, same_Some}
use Rattle.lists.specs.Lowest.{lowest, lowest_index}
use Rattle.lists.specs.Tab.{put, remove_at}
use Rattle.lists.proofs.Flags.{true_false, and_no_first}
use Rattle.lists.proofs.Lowests.{None, lowest_none, lowest_here, lowest_fires, lowest_most, lowest_same, any_lowest}
use Rattle.lists.proofs.LowestIndex.{index_some, index_none}
use Rattle.lists.proofs.Sorts.{each_at}
use Rattle.words.proofs.Records as records
use Rattle.bin_section.specs.declared.section.BinSection.{BinSection}
use Rattle.bin_section.specs.Section.{section_at, section_words, zero_section}
use Rattle.bin_section.specs.Boxes.{box_at}
use Rattle.bin_section.specs.Layouts.{section_layout}
use Rattle.sections.specs.Sections.{sections}
use Rattle.sections.specs.Leaning.{Removed}
use Rattle.sections.proofs.Reading.{length-sections, getd_sections}
use Rattle.neighbours.specs.declared.pairs.Pair.{Pair}
use Rattle.neighbours.specs.Neighbour.{joins_of, joined_box}
use Rattle.neighbours.specs.Joining.{joins_with, joins_later, some_join, pair_of, first_pair, joined_at, leaving, join_from, join_all}
use Rattle.neighbours.specs.Leaning.{Ends, AllEnd}
use Rattle.neighbours.proofs.Neighbouring.{joined_ends}
use Rattle.sections.proofs.Searching.{none_from}
use Rattle.neighbours.proofs.Ranges.{FirstAnswer}
use Rattle.neighbours.proofs.Steps.{pair_joins, each-joined, next_from}

-- ---- the sections that come after one

module _ (w : List ℕ) (n i : ℕ) where
  abbrev S : List BinSection
  S = sections w n

  -- those up to the section itself are not looked at
  pub joins_after : i < n → i + 1 ≤ lowest n (joins_with S i)
  unfolding joins_with
  joins_after h = go (dec_lt (lowest n (joins_with S i)) (i + 1))
    where
      go : Dec (lowest n (joins_with S i) < i + 1) → i + 1 ≤ lowest n (joins_with S i)
      go (no l) = omega arith
      go (yes l) =
          let k = lowest n (joins_with S i) in
          absurd (true_false
          (sym (lowest_fires n (joins_with S i) (omega arith)) ∙ and_no_first (ltb i k) (joins_of (box_at S i) (box_at S k)) (le-ltb i k (omega arith))))

  -- the test at a later one
  pub joins_at : (a b : BinSection) (j : ℕ) (t : Bool) → i < j → j < n → a ≡ section_at w i → b ≡ section_at w j → t ≡ joins_of a b → joins_with S i j ≡ t
  unfolding joins_with
  joins_at a b j t l h ea eb e =
      let p : box_at S i ≡ a = getd_sections w n i zero_section (omega arith) ∙ sym ea in
      let q : box_at S j ≡ b = getd_sections w n j zero_section h ∙ sym eb in
      rw (lt-ltb i j l, p, q, e)

-- ---- the first pair

abbrev pub pair : ℕ → ℕ → Pair
pair i j = record { first = i; second = j }

-- what the search answers of the section at i
abbrev pub pair_at : List BinSection → ℕ → ℕ → Option Pair
pair_at free n i = option_map (pair i) (lowest_index n (joins_with free i))

module _ (w : List ℕ) (n from : ℕ) (come : from ≤ lowest n (joins_later (sections w n))) where
  abbrev F : List BinSection
  F = sections w n

  joins_lowest : (i : ℕ) → joins_later F i ≡ ltb (lowest n (joins_with F i)) n
  unfolding joins_later
  joins_lowest i = rw length-sections (any_lowest n (joins_with F i))

  some_lowest : some_join F ≡ ltb (lowest n (joins_later F)) n
  unfolding some_join
  some_lowest = rw length-sections (any_lowest n (joins_later F))

  later_none : (i : ℕ) (o : Option ℕ) → o ≡ lowest_index n (joins_with F i) → option_map (pair i) o ≡ Nothing → joins_later F i ≡ false
  later_none i Nothing e h = joins_lowest i ∙ le-ltb _ _ (omega (arith, index_none n (joins_with F i) (sym e)))
  later_none i (Some j) e h = absurd (none-some _ (sym h))

  later_some : (i : ℕ) (p : Pair) (o : Option ℕ) → o ≡ lowest_index n (joins_with F i) → option_map (pair i) o ≡ Some p → (joins_later F i ≡ true) × (p ≡ pair i (lowest n (joins_with F i)))
  later_some i p Nothing e h = absurd (none-some _ h)
  later_some i p (Some j) e h =
      let q = index_some n j (joins_with F i) (sym e) in
      (joins_lowest i ∙ lt-ltb _ _ (omega (arith, q.0, q.1)), sym (same_Some _ _ h) ∙ ap (pair i) (sym q.0))

  pub pair_found : (r : Option Pair) → FirstAnswer (pair_at F n) from n r → r ≡ first_pair F
  unfolding first_pair pair_of
  pair_found Nothing h =
      let none = none_from n from (joins_later F) come n (λ k l b. later_none k _ refl (h k l b)) in
      rw (some_lowest, lowest_none n (joins_later F) none, le-ltb n n (omega arith))
  pair_found (Some p) h =
      let i = h.0 in
      let e = later_some i p _ refl h.3 in
      let none = none_from n from (joins_later F) come i (λ k l b. later_none k _ refl (h.4 k l b)) in
      let at : lowest n (joins_later F) ≡ i = lowest_here n i (joins_later F) none h.2 e.0 in
      rw (some_lowest, length-sections, at, lt-ltb i n h.2, e.1)

-- what the search for it says
module _ (free : List BinSection) (o : Option Pair) (found : o ≡ first_pair free) where
  told : (t : Bool) → some_join free ≡ t → o ≡ cond t (Some (pair_of free)) Nothing
  unfolding first_pair
  told t e = found ∙ rw e

  pub pair_none : o ≡ Nothing → some_join free ≡ false
  pair_none h = go (some_join free) refl
    where
      go : (t : Bool) → some_join free ≡ t → some_join free ≡ false
      go true e = absurd (none-some _ (sym h ∙ told true e))
      go false e = e

  pub pair_some : (p : Pair) → o ≡ Some p → (some_join free ≡ true) × (p ≡ pair_of free)
  pair_some p h = go (some_join free) refl
    where
      go : (t : Bool) → some_join free ≡ t → (some_join free ≡ true) × (p ≡ pair_of free)
      go true e = (e, same_Some _ _ (sym h ∙ told true e))
      go false e = absurd (none-some _ (sym (told false e) ∙ h))

pub pair_low : (w : List ℕ) (n : ℕ) (o : Option Pair) → o ≡ first_pair (sections w n) → (p : Pair) → o ≡ Some p → (p.first < n) × (p.second < n)
pair_low w n o found p h =
    let some = pair_some (sections w n) o found p h in
    let two = pair_joins (sections w n) some.0 in
    rw some.1 (omega (arith, two.rising, two.listed, length-sections w n), omega (arith, two.listed, length-sections w n))

-- ---- one join in the words

pub ends_at : (w : List ℕ) (n i : ℕ) (s : BinSection) → AllEnd w n → i < n → s ≡ section_at w i → Ends s
ends_at w n i s all h e =
    rw (e, ← getd_sections w n i zero_section h) (each_at all i zero_section (omega (arith, length-sections w n)))

pub pair_written :
    (w v u : List ℕ) (n : ℕ) (p : Pair) (a b c : BinSection)
    → n * 6 ≤ length w
    → p.first < n
    → p.second < n
    → a ≡ section_at w p.first
    → b ≡ section_at w p.second
    → c ≡ joined_box a b
    → v ≡ put w (p.first * 6) (section_words c)
    → Removed n p.second v u
    → sections u (n - 1) ≡ joined_at (sections w n) p
unfolding joined_at sections
pair_written w v u n p a b c room lf ls ea eb ec wrote removed =
    let box : c ≡ joined_box (box_at (sections w n) p.first) (box_at (sections w n) p.second) =
    ec ∙ ap₂ joined_box (ea ∙ sym (getd_sections w n p.first zero_section lf)) (eb ∙ sym (getd_sections w n p.second zero_section ls)) in
    removed.free
    ∙ ap (remove_at p.second)
    (ap (λ (l : List ℕ). sections l n) wrote
    ∙ records.tab-put 6 section_at (λ s. section_words s) section_layout w n p.first c lf room
    ∙ ap (set (sections w n) p.first) box)

-- ---- the loop: so many sections are left, none before `from` joins with a later one, and what is left to do leads to the same end

pub record SoFar (w₀ : List ℕ) (n : ℕ) (w : List ℕ) (left from : ℕ) : Type 0 where
  pub count : left ≤ n
  pub long : length w ≡ length w₀
  pub room : left * 6 ≤ length w
  pub ends : AllEnd w left
  pub come : from ≤ lowest left (joins_later (sections w left))
  pub same : join_from left (n - left) (sections w left) ≡ join_all (sections w₀ n)

pub so_far_none : (w : List ℕ) (n : ℕ) → n * 6 ≤ length w → AllEnd w n → SoFar w n w n 0
unfolding join_all
so_far_none w n room ends =
    record {
      count = omega arith;
      long = refl;
      room = room;
      ends = ends;
      come = omega arith;
      same = rw length-sections (ap (λ (m : ℕ). join_from n m (sections w n)) (omega arith));
    }

-- a search that has passed over all numbers below r
come_to : (n r : ℕ) (f : ℕ → Bool) → None r f → r ≤ n → r ≤ lowest n f
come_to n r f none h = go (dec_lt (lowest n f) r)
  where
    go : Dec (lowest n f < r) → r ≤ lowest n f
    go (yes l) = absurd (true_false (sym (lowest_fires n f (omega arith)) ∙ none.at (lowest n f) l))
    go (no l) = omega arith

-- what the search before the joined box comes to
come_from : (r first : ℕ) (o : Option ℕ) (f : ℕ → Bool) → o ≡ lowest_index first f → r ≡ unwrap_or o first → r ≡ lowest first f
come_from r first Nothing f e h = h ∙ sym (index_none first f (sym e))
come_from r first (Some i) f e h = h ∙ sym (index_some first i f (sym e)).0

module _ (w₀ : List ℕ) (n : ℕ) (w u : List ℕ) (left from : ℕ) (so : SoFar w₀ n w left from) where
  abbrev J : List BinSection
  J = sections w left

  -- one join more
  module _ (some : some_join J ≡ true) (first : ℕ) (found : first ≡ (pair_of J).first) (joins : sections u (left - 1) ≡ joined_at J (pair_of J)) (long : length u ≡ length w) where
    -- the joined box is not the last of those that are left
    before_last : first < left - 1
    before_last = let two = pair_joins J some in omega (arith, two.rising, two.listed, length-sections w left)

    pub in_words : (0 < left) × (first * 6 + 6 ≤ length u)
    in_words = (omega (arith, before_last), omega (arith, before_last, so.room))

    pub so_far_more : (r : ℕ) (o : Option ℕ) → o ≡ lowest_index first (λ i. joins_of (section_at u i) (section_at u first)) → r ≡ unwrap_or o first → SoFar w₀ n u (left - 1) r
    unfolding join_from
    so_far_more r o e h =
        let steps : left ≡ suc (left - 1) = omega (arith, before_last) in
        let next : n - (left - 1) ≡ suc (n - left) = omega (arith, before_last, so.count) in
        let more : join_from left (n - left) J ≡ join_from (left - 1) (suc (n - left)) (joined_at J (pair_of J)) =
        ap (λ (m : ℕ). join_from m (n - left) J) steps ∙ rw some in
        let at : (i : ℕ) → i < left - 1 → section_at u i ≡ box_at (joined_at J (pair_of J)) i =
        λ i b. sym (getd_sections u (left - 1) i zero_section b) ∙ ap (λ (xs : List BinSection). box_at xs i) joins in
        let r_is : r ≡ lowest (pair_of J).first (λ i. joins_of (box_at (joined_at J (pair_of J)) i) (box_at (joined_at J (pair_of J)) (pair_of J).first)) =
        come_from r first o _ e h
        ∙ lowest_same first (λ i. joins_of (section_at u i) (section_at u first)) (λ i. joins_of (box_at (joined_at J (pair_of J)) i) (box_at (joined_at J (pair_of J)) first))
        (λ i b. ap₂ joins_of (at i (omega (arith, before_last))) (at first before_last))
        ∙ rw found in
        record {
          count = omega (arith, so.count);
          long = long ∙ so.long;
          room = omega (arith, so.room);
          ends = rw joins (each-joined J (pair_of J) (pair_joins J some) joined_ends so.ends);
          come = rw joins (come_to (left - 1) r (joins_later (joined_at J (pair_of J))) (next_from J some r r_is) (omega (arith, before_last, r_is, found, lowest_most (pair_of J).first (λ i. joins_of (box_at (joined_at J (pair_of J)) i) (box_at (joined_at J (pair_of J)) (pair_of J).first)))));
          same = rw (joins, next) (sym more ∙ so.same);
        }

  -- no two join any more
  over : (m k : ℕ) → some_join J ≡ false → join_from m k J ≡ leaving J k
  unfolding join_from
  over zero k none = refl
  over (suc m) k none = rw none

  pub so_far_end : some_join J ≡ false → u ≡ w → (sections u left ≡ (join_all (sections w₀ n)).free) × (left + (join_all (sections w₀ n)).joins ≡ n)
  so_far_end none kept = rw (kept, ← so.same, over left (n - left) none) (refl, omega (arith, so.count))
