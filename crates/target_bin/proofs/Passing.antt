-- What checks 1, 2 and 3 mean: they pass exactly where the tables are sound.
use Prim.Native.Nat.{ℕ, zero, suc, ◌*◌, ◌%◌, ◌≤◌, ◌<◌}
use mathlib.Core.Path.{◌≡◌, refl, ap}
use mathlib.Core.List.{List}
use mathlib.Core.Bool.{true, false, ◌&&◌, not}
use native.Mathlib.Omega.{arith}
use borrow.Author.Tests.{lt-ltb, eq-eqb, le-leb, ltb-true, leb-true, eqb-true, not-false}
use lib.ListN.{length}
use Rattle.std.specs.Prelude.{Option}
use Rattle.std.specs.Prelude.{None as Nothing}
use Rattle.lists.specs.Lowest.{lowest_index}
use lib.Dec.{leb, eqb}
use Rattle.lists.proofs.Flags.{and_both, and_first, and_second}
use Rattle.lists.proofs.Lowests.{None, any_none, none_any}
use Rattle.replies.specs.declared.reply.Reply.{Reply}
use Rattle.bin_section.specs.Sides.{sides_ok}
use Rattle.bin_section.specs.Section.{section_at}
use Rattle.replies.specs.Replies.{reply, in_order}
use Rattle.sections.specs.Inside.{outside_at}
use Rattle.bin_section.specs.Inside.{Inside}
use Rattle.bin_section.proofs.Bounding.{inside→, →inside}
use Rattle.bin_section.proofs.Ranges.{SidesInRange, sides→range, range→sides}
use Rattle.target_bin.specs.Chambers.{chamber_at, chamber_count}
use Rattle.target_bin.specs.Store.{part_at}
use Rattle.target_bin.specs.Checks.{lengths_ok, id_ok, shape_ok, chamber_ok, bad_shape, bad_chamber, bad_sections, table_checks}
use Rattle.target_bin.specs.Leaning.{Counted, Shaped}
use Rattle.replies.proofs.Ladders.{index_none_at, AllPass, row_passes, no_fault, none_passes}

-- 1
pub record Lengths (chambers store : List ℕ) : Type 0 where
  pub few : chamber_count chambers ≤ 16
  pub whole : length chambers ≡ chamber_count chambers * 5
  pub long : length store ≡ chamber_count chambers * 768

pub lengths : (chambers store : List ℕ) → lengths_ok chambers store ≡ true → Lengths chambers store
unfolding lengths_ok
lengths chambers store t =
    let a = eqb (length chambers % 5) 0 in
    let b = leb (chamber_count chambers) 16 in
    let d = eqb (length store) (chamber_count chambers * 768) in
    let r : length chambers % 5 ≡ 0 = eqb-true _ _ (and_first a (b && d) t) in
    let rest : (b && d) ≡ true = and_second a (b && d) t in
    record { few = leb-true _ _ (and_first b d rest); whole = omega arith; long = eqb-true _ _ (and_second b d rest) }

-- 2, old counts ignored
pub record ShapesSound (chambers : List ℕ) : Type 0 where
  pub rising : (i : ℕ) → suc i < chamber_count chambers → (chamber_at chambers i).id < (chamber_at chambers (suc i)).id
  pub sides : (i : ℕ) → i < chamber_count chambers → SidesInRange (chamber_at chambers i).whd

shape_ok→ : (chambers : List ℕ) (i : ℕ) → shape_ok chambers i ≡ true → (id_ok chambers i ≡ true) × SidesInRange (chamber_at chambers i).whd
unfolding shape_ok
shape_ok→ chambers i t =
    let a = id_ok chambers i in
    let b = sides_ok (chamber_at chambers i).whd in
    (and_first a b t, sides→range (chamber_at chambers i).whd (and_second a b t))

pub shapes_sound : (chambers : List ℕ) → None (chamber_count chambers) (bad_shape chambers) → ShapesSound chambers
unfolding id_ok
shapes_sound chambers p =
    record {
      rising = λ i h. ltb-true _ _ (shape_ok→ chambers (suc i) (not-false _ (p.at (suc i) h))).0;
      sides = λ i h. (shape_ok→ chambers i (not-false _ (p.at i h))).1;
    }

-- 2
shape_of : (chambers : List ℕ) (i : ℕ) → chamber_ok chambers i ≡ true → shape_ok chambers i ≡ true
unfolding chamber_ok
shape_of chambers i t = and_first (shape_ok chambers i) (leb (chamber_at chambers i).count 128) t

count_of : (chambers : List ℕ) (i : ℕ) → chamber_ok chambers i ≡ true → (chamber_at chambers i).count ≤ 128
unfolding chamber_ok
count_of chambers i t = leb-true _ _ (and_second (shape_ok chambers i) (leb (chamber_at chambers i).count 128) t)

pub counted : (chambers : List ℕ) → None (chamber_count chambers) (bad_chamber chambers) → Counted chambers
counted chambers p = record { counts = λ i h. count_of chambers i (not-false _ (p.at i h)) }

-- so where the search finds none
pub counted_by : (chambers : List ℕ) (r : Option ℕ) → r ≡ lowest_index (chamber_count chambers) (bad_chamber chambers) → r ≡ Nothing → Counted chambers
counted_by chambers r e p = counted chambers (index_none_at _ _ r e p)

pub shapes : (chambers : List ℕ) → None (chamber_count chambers) (bad_chamber chambers) → None (chamber_count chambers) (bad_shape chambers)
shapes chambers p = record { at = λ i h. ap not (shape_of chambers i (not-false _ (p.at i h))) }

-- 3
pub record SectionsInside (chambers store : List ℕ) : Type 0 where
  pub inside : (i j : ℕ) → i < chamber_count chambers → j < (chamber_at chambers i).count → Inside (chamber_at chambers i).whd (section_at (part_at store i) j)

pub sections_inside : (chambers store : List ℕ) → None (chamber_count chambers) (bad_sections chambers store) → SectionsInside chambers store
unfolding bad_sections
sections_inside chambers store p =
    record {
      inside = λ i j h l.
          inside→ (chamber_at chambers i).whd (section_at (part_at store i) j)
          (not-false _ ((any_none (chamber_at chambers i).count (outside_at (chamber_at chambers i).whd (part_at store i)) (p.at i h)).at j l));
    }

-- ---- all three

-- what checks 1, 2 and 3 leave
pub record Sound (chambers store : List ℕ) : Type 0 where
  pub shaped : Shaped chambers store
  pub shapes_ok : ShapesSound chambers
  pub all_in : SectionsInside chambers store

pub shaped_from : (chambers store : List ℕ) → Lengths chambers store → Counted chambers → Shaped chambers store
shaped_from chambers store l c = record { few = l.few; whole = l.whole; long = l.long; counted = c }

pub sound : (chambers store : List ℕ) → lengths_ok chambers store ≡ true → None (chamber_count chambers) (bad_chamber chambers) → None (chamber_count chambers) (bad_sections chambers store) → Sound chambers store
sound chambers store t p q =
    record {
      shaped = shaped_from chambers store (lengths chambers store t) (counted chambers p);
      shapes_ok = shapes_sound chambers (shapes chambers p);
      all_in = sections_inside chambers store q;
    }

-- ---- the other way round: sound tables pass

module _ (chambers store : List ℕ) where
  →lengths : Lengths chambers store → lengths_ok chambers store ≡ true
  unfolding lengths_ok
  →lengths l = and_both _ _ (eq-eqb _ _ (omega (arith, l.whole))) (and_both _ _ (le-leb _ _ l.few) (eq-eqb _ _ l.long))

→id : (chambers : List ℕ) (i : ℕ) → ShapesSound chambers → i < chamber_count chambers → id_ok chambers i ≡ true
unfolding id_ok
→id chambers zero h l = refl
→id chambers (suc i) h l = lt-ltb _ _ (h.rising i l)

→shape : (chambers : List ℕ) (i : ℕ) → ShapesSound chambers → i < chamber_count chambers → shape_ok chambers i ≡ true
unfolding shape_ok
→shape chambers i h l = and_both (id_ok chambers i) (sides_ok (chamber_at chambers i).whd) (→id chambers i h l) (range→sides _ (h.sides i l))

→chamber : (chambers : List ℕ) (i : ℕ) → ShapesSound chambers → (chamber_at chambers i).count ≤ 128 → i < chamber_count chambers → chamber_ok chambers i ≡ true
unfolding chamber_ok
→chamber chambers i h c l = and_both (shape_ok chambers i) (leb (chamber_at chambers i).count 128) (→shape chambers i h l) (le-leb _ _ c)

→sections : (chambers store : List ℕ) (i : ℕ) → SectionsInside chambers store → i < chamber_count chambers → bad_sections chambers store i ≡ false
unfolding bad_sections
→sections chambers store i h l =
    none_any (chamber_at chambers i).count (outside_at (chamber_at chambers i).whd (part_at store i))
    (record { at = λ j b. ap not (→inside (chamber_at chambers i).whd (section_at (part_at store i) j) (h.inside i j l b)) })

-- checks 1 to 3 pass exactly where the tables are sound
pub tables_pass : (chambers store : List ℕ) → Sound chambers store → AllPass (table_checks chambers store)
tables_pass chambers store h =
    let p1 = ap not (→lengths chambers store (record { few = h.shaped.few; whole = h.shaped.whole; long = h.shaped.long })) in
    let p2 = none_passes _ _ (record { at = λ i b. ap not (→chamber chambers i h.shapes_ok (h.shaped.counted.counts i b) b) }) in
    let p3 = none_passes _ _ (record { at = λ i b. →sections chambers store i h.all_in b }) in
    (p1, (p2, (p3, tt)))

pub tables_sound : (chambers store : List ℕ) → AllPass (table_checks chambers store) → Sound chambers store
tables_sound chambers store p = sound chambers store (not-false _ p.0) (no_fault _ _ p.1.0) (no_fault _ _ p.1.1.0)

-- where the code finds that they answer 0
pub sound_tables : (chambers store : List ℕ) (t : Reply) → t ≡ in_order (table_checks chambers store) (λ a. a) (reply 0 0) → t.number ≡ 0 → Sound chambers store
sound_tables chambers store t e z = tables_sound chambers store (row_passes (λ r. r.number) (λ a. a) (reply 0 0) (table_checks chambers store) t refl e z)
