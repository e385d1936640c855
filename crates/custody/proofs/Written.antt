-- Tables written anew from lists of free sections: what stands in them, and that they are sound.
use Prim.Native.Nat.{ℕ, suc, ◌*◌, ◌≤◌, ◌<◌}
use mathlib.Core.Path.{◌≡◌, sym, ap, ◌∙◌}
use mathlib.Core.List.{List, []}
use native.Mathlib.Omega.{arith}
use lib.ListN.{length, get_or}
use Rattle.lists.specs.Sort.{Each}
use Rattle.lists.proofs.Sorts.{each_at}
use Rattle.lists.proofs.Tabs.{length-tab, getd_tab}
use Rattle.bin_section.specs.declared.section.BinSection.{BinSection}
use Rattle.bin_section.specs.Section.{zero_section, section_at}
use Rattle.bin_section.specs.Sides.{sides}
use Rattle.cells.specs.Whole.{Inside}
use Rattle.words.proofs.Records.{length-joined}
use Rattle.sections.proofs.Reading.{getd_sections}
use Rattle.target_bin.specs.declared.chamber.TargetBin.{TargetBin}
use Rattle.target_bin.specs.Chambers.{bin, chamber_at, chamber_count, table_of}
use Rattle.target_bin.specs.Store.{part_at, free_at, part_of, store_of}
use Rattle.target_bin.specs.Leaning.{Counted}
use Rattle.target_bin.proofs.Tables.{count_table_of, chamber_at-table_of, length-table_of}
use Rattle.target_bin.proofs.Parts.{length-part_of, sections-part_of, part_at-store_of, store_decoded, getd_free_of}
use Rattle.target_bin.proofs.Passing.{Sound}
use Rattle.rectangle_pack.specs.Pack.{bins_with}

module _
    (chambers store : List ℕ) (frees : List (List BinSection)) (sound : Sound chambers store) (many : length frees ≡ chamber_count chambers)
    (few : (k : ℕ) → k < chamber_count chambers → length (get_or frees k []) ≤ 128) where
  abbrev table : List ℕ
  table = table_of (bins_with chambers frees)

  bins_long : length (bins_with chambers frees) ≡ chamber_count chambers
  unfolding bins_with
  bins_long = length-tab (chamber_count chambers) (λ k. bin (chamber_at chambers k).id (chamber_at chambers k).whd (length (get_or frees k [])))

  pub written_count : chamber_count (table_of (bins_with chambers frees)) ≡ chamber_count chambers
  written_count = count_table_of (bins_with chambers frees) ∙ bins_long

  -- each chamber as it was, with the count of its free sections
  pub written_at : (k : ℕ) → k < chamber_count chambers → chamber_at (table_of (bins_with chambers frees)) k ≡ bin (chamber_at chambers k).id (chamber_at chambers k).whd (length (get_or frees k []))
  unfolding bins_with
  written_at k h =
      chamber_at-table_of (bins_with chambers frees) k (bin 0 (sides 0 0 0) 0) (omega (arith, bins_long))
      ∙ getd_tab (chamber_count chambers) (λ j. bin (chamber_at chambers j).id (chamber_at chambers j).whd (length (get_or frees j []))) k (bin 0 (sides 0 0 0) 0) h

  count_at : (k : ℕ) → k < chamber_count chambers → (chamber_at table k).count ≡ length (get_or frees k [])
  count_at k h = ap (λ (b : TargetBin). b.count) (written_at k h)

  written_counted : Counted table
  written_counted = record { counts = λ k h. let l : k < chamber_count chambers = omega (arith, written_count) in omega (arith, count_at k l, few k l) }

  -- its free sections are those of the list
  pub written_free : (k : ℕ) → k < chamber_count chambers → free_at (table_of (bins_with chambers frees)) (store_of frees) k ≡ get_or frees k []
  written_free k h =
      sym (getd_free_of table (store_of frees) k [] (omega (arith, written_count)))
      ∙ ap (λ (l : List (List BinSection)). get_or l k [])
      (store_decoded table frees (written_count ∙ sym many) written_counted (λ i l. count_at i (omega arith)))

  store_long : length (store_of frees) ≡ chamber_count chambers * 768
  store_long =
      length-joined part_of 768 frees [] (λ i h. length-part_of (get_or frees i []) (few i (omega (arith, many)))) ∙ ap (λ (n : ℕ). n * 768) many

  written-section : (k j : ℕ) → k < chamber_count chambers → j < length (get_or frees k []) → section_at (part_at (store_of frees) k) j ≡ get_or (get_or frees k []) j zero_section
  written-section k j h l =
      ap (λ (w : List ℕ). section_at w j) (part_at-store_of frees k (λ i b. few i (omega arith)) (omega arith))
      ∙ sym (getd_sections (part_of (get_or frees k [])) (length (get_or frees k [])) j zero_section l)
      ∙ ap (λ (ss : List BinSection). get_or ss j zero_section) (sections-part_of (get_or frees k []))

  module _ (inside : (k : ℕ) → k < chamber_count chambers → Each (Inside (chamber_at chambers k).whd) (get_or frees k [])) where
    pub written_sound : Sound (table_of (bins_with chambers frees)) (store_of frees)
    written_sound =
        record {
          shaped = record {
            few = omega (arith, written_count, sound.shaped.few);
            whole = omega (arith, length-table_of (bins_with chambers frees), bins_long, written_count);
            long = omega (arith, store_long, written_count);
            counted = written_counted;
          };
          shapes_ok = record {
            rising = λ i h.
                omega (
                  arith,
                  sound.shapes_ok.rising i (omega (arith, written_count)),
                  ap (λ (b : TargetBin). b.id) (written_at i (omega (arith, written_count))),
                  ap (λ (b : TargetBin). b.id) (written_at (suc i) (omega (arith, written_count))),
                );
            sides = λ i h. let l : i < chamber_count chambers = omega (arith, written_count) in rw (written_at i l) (sound.shapes_ok.sides i l);
          };
          all_in = record {
            inside = λ i j h l.
                let b : i < chamber_count chambers = omega (arith, written_count) in
                let c : j < length (get_or frees i []) = omega (arith, count_at i b) in
                rw (written_at i b, written-section i j b c) (each_at (inside i b) j zero_section c);
          };
        }
