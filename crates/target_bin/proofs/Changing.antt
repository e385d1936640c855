-- One chamber's count and part written anew: what stands in the tables then, as lists, and that they are sound.
use Prim.Native.Nat.{ℕ, suc, ◌+◌, ◌*◌, ◌/◌, ◌≤◌, ◌<◌}
use mathlib.Core.Path.{◌≡◌, ap, ap₂}
use mathlib.Core.List.{List}
use native.Mathlib.Decide.{ℕ_discrete}
use native.Mathlib.Omega.{arith}
use lib.ListN.{length, set, length-set}
use Rattle.lists.specs.Tab.{put}
use Rattle.lists.proofs.Tabs.{length-put}
use Rattle.bin_section.specs.declared.section.BinSection.{BinSection}
use Rattle.bin_section.specs.Section.{section_at}
use Rattle.bin_section.specs.Inside.{Inside}
use Rattle.sections.specs.Sections.{sections}
use Rattle.target_bin.specs.declared.chamber.TargetBin.{TargetBin}
use Rattle.target_bin.specs.Chambers.{chamber_at, chamber_count}
use Rattle.target_bin.specs.Store.{part_at, free_at}
use Rattle.target_bin.proofs.Tables.{chamber_at-set_same, chamber_at-set_other}
use Rattle.target_bin.proofs.Parts.{part_at-put_same, part_at-put_other}
use Rattle.target_bin.proofs.Passing.{Sound}

-- the tables afterwards have the same chambers, and the same free sections but for those of the chamber at k
pub record OneChanged (chambers store after left : List ℕ) (k : ℕ) (free : List BinSection) : Type 0 where
  pub many : chamber_count after ≡ chamber_count chambers
  pub ids : (i : ℕ) → (chamber_at after i).id ≡ (chamber_at chambers i).id
  pub sides : (i : ℕ) → (chamber_at after i).whd ≡ (chamber_at chambers i).whd
  pub here : free_at after left k ≡ free
  pub others : (i : ℕ) → (i ≡ k → ⊥) → free_at after left i ≡ free_at chambers store i

module _ (chambers store : List ℕ) (k v : ℕ) (Q : List ℕ) (sound : Sound chambers store) (low : k < chamber_count chambers) (long : length Q ≡ 768) where
  abbrev after : List ℕ
  after = set chambers (k * 5 + 4) v

  abbrev left : List ℕ
  left = put store (k * 768) Q

  in_table : k * 5 + 5 ≤ length chambers
  in_table = omega (arith, sound.shaped.whole)

  in_store : (k + 1) * 768 ≤ length store
  in_store = omega (arith, sound.shaped.long)

  same_many : chamber_count after ≡ chamber_count chambers
  same_many = ap (λ (m : ℕ). m / 5) (length-set chambers (k * 5 + 4) v)

  same_bin : (i : ℕ) → Dec (i ≡ k) → ((chamber_at after i).id ≡ (chamber_at chambers i).id) × ((chamber_at after i).whd ≡ (chamber_at chambers i).whd)
  same_bin i (yes e) =
      let p = chamber_at-set_same chambers k v in_table in
      rw e ((ap (λ (b : TargetBin). b.id) p, ap (λ (b : TargetBin). b.whd) p))
  same_bin i (no ne) =
      let p = chamber_at-set_other chambers k v in_table i ne in
      (ap (λ (b : TargetBin). b.id) p, ap (λ (b : TargetBin). b.whd) p)

  count_here : (chamber_at after k).count ≡ v
  count_here = ap (λ (b : TargetBin). b.count) (chamber_at-set_same chambers k v in_table)

  count_there : (i : ℕ) → (i ≡ k → ⊥) → (chamber_at after i).count ≡ (chamber_at chambers i).count
  count_there i ne = ap (λ (b : TargetBin). b.count) (chamber_at-set_other chambers k v in_table i ne)

  part_here : part_at left k ≡ Q
  part_here = part_at-put_same store k Q in_store long

  part_there : (i : ℕ) → (i ≡ k → ⊥) → part_at left i ≡ part_at store i
  part_there = part_at-put_other store k Q in_store long

  pub changed : OneChanged chambers store (set chambers (k * 5 + 4) v) (put store (k * 768) Q) k (sections Q v)
  unfolding free_at
  changed =
      record {
        many = same_many;
        ids = λ i. (same_bin i (ℕ_discrete i k)).0;
        sides = λ i. (same_bin i (ℕ_discrete i k)).1;
        here = ap₂ (λ (w : List ℕ) (n : ℕ). sections w n) part_here count_here;
        others = λ i ne. ap₂ (λ (w : List ℕ) (n : ℕ). sections w n) (part_there i ne) (count_there i ne);
      }

  -- ---- the tables are sound again

  module _ (small : v ≤ 128) (inside : (j : ℕ) → j < v → Inside (chamber_at chambers k).whd (section_at Q j)) where
    few : (i : ℕ) → i < chamber_count chambers → Dec (i ≡ k) → (chamber_at after i).count ≤ 128
    few i h (yes e) = rw e (omega (arith, count_here))
    few i h (no ne) = omega (arith, count_there i ne, sound.shaped.counted.counts i h)

    section_in : (i j : ℕ) → i < chamber_count chambers → j < (chamber_at after i).count → Dec (i ≡ k) → Inside (chamber_at chambers i).whd (section_at (part_at left i) j)
    section_in i j h l (yes e) = rw (e, part_here) (inside j (omega (arith, count_here, ap (λ (m : ℕ). (chamber_at after m).count) e)))
    section_in i j h l (no ne) = rw (part_there i ne) (sound.all_in.inside i j h (omega (arith, count_there i ne)))

    pub changed_sound : Sound (set chambers (k * 5 + 4) v) (put store (k * 768) Q)
    changed_sound =
        record {
          shaped = record {
            few = omega (arith, same_many, sound.shaped.few);
            whole = omega (arith, same_many, length-set chambers (k * 5 + 4) v, sound.shaped.whole);
            long = omega (arith, same_many, length-put store (k * 768) Q (omega (arith, in_store)), sound.shaped.long);
            counted = record { counts = λ i h. few i (omega (arith, same_many)) (ℕ_discrete i k) };
          };
          shapes_ok = record {
            rising = λ i h. omega (arith, changed.ids i, changed.ids (suc i), sound.shapes_ok.rising i (omega (arith, same_many)));
            sides = λ i h. rw (changed.sides i) (sound.shapes_ok.sides i (omega (arith, same_many)));
          };
          all_in = record {
            inside = λ i j h l. rw (changed.sides i) (section_in i j (omega (arith, same_many)) l (ℕ_discrete i k));
          };
        }
