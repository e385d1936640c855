-- What fresh leaves, as lists: each chamber with count 1 and itself as its one free section; and that the tables are sound.
use Prim.Native.Nat.{ℕ, zero, suc, ◌*◌, ◌<◌}
use mathlib.Core.Path.{◌≡◌, refl, sym, ap, ap₂, ◌∙◌}
use mathlib.Core.List.{List, [], ◌∷◌, map}
use native.Mathlib.Omega.{arith}
use lib.ListN.{length, get_or, length-map, get_or-map}
use Rattle.bin_section.specs.declared.section.BinSection.{BinSection}
use Rattle.bin_section.specs.declared.width_height_depth.WidthHeightDepth.{WidthHeightDepth}
use Rattle.bin_section.specs.Section.{whole_section, zero_section, section_at}
use Rattle.bin_section.specs.Sides.{sides}
use Rattle.bin_section.specs.Inside.{Inside}
use Rattle.words.proofs.Records.{length-joined-tab}
use Rattle.sections.proofs.Reading.{getd_sections}
use Rattle.target_bin.specs.declared.chamber.TargetBin.{TargetBin}
use Rattle.target_bin.specs.Chambers.{bin, bin_words, chamber_at, chamber_count, chambers_of}
use Rattle.target_bin.specs.Store.{part_at, part_of, free_of, store_of}
use Rattle.target_bin.specs.Fresh.{freshened, fresh_table, fresh_store}
use Rattle.target_bin.proofs.Tables.{length-chambers_of, getd_chambers_of, count_table_of, chamber_at-table_of}
use Rattle.target_bin.proofs.Parts.{length-part_of, sections-part_of, part_at-store_of, store_decoded}
use Rattle.bin_section.proofs.Ranges.{SidesInRange}
use Rattle.target_bin.proofs.Passing.{Lengths, ShapesSound, Sound}
use Rattle.target_bin.proofs.Freshening.{whole_of, fresh_at, whole_at, fresh_table_lem, fresh_store_lem}

getd_map_in : {A B : Type 0} (f : A → B) (l : List A) (i : ℕ) (e : B) (d : A) → i < length l → get_or (map f l) i e ≡ f (get_or l i d)
getd_map_in f [] i e d h = absurd (omega arith)
getd_map_in f (x ∷ xs) zero e d h = refl
getd_map_in f (x ∷ xs) (suc i) e d h = getd_map_in f xs i e d (omega arith)

module _ (chambers : List ℕ) where
  many : length (map (λ b. freshened b) (chambers_of chambers)) ≡ chamber_count chambers
  many = length-map (chambers_of chambers) (λ b. freshened b) ∙ length-chambers_of chambers

  pub fresh_count : chamber_count (fresh_table chambers) ≡ chamber_count chambers
  unfolding fresh_table
  fresh_count = count_table_of (map (λ b. freshened b) (chambers_of chambers)) ∙ many

  pub fresh_at_lem : (i : ℕ) → i < chamber_count chambers → chamber_at (fresh_table chambers) i ≡ freshened (chamber_at chambers i)
  unfolding fresh_table
  fresh_at_lem i h =
      let d : TargetBin = bin 0 (sides 0 0 0) 0 in
      chamber_at-table_of (map (λ b. freshened b) (chambers_of chambers)) i (freshened d) (omega (arith, many))
      ∙ get_or-map (λ b. freshened b) (chambers_of chambers) i d
      ∙ ap (λ (b : TargetBin). freshened b) (getd_chambers_of chambers i d h)

  -- the whole chamber is the one free section of each
  pub fresh_free : free_of (fresh_table chambers) (fresh_store chambers) ≡ map (λ b. whole_of b) (chambers_of chambers)
  unfolding fresh_store
  fresh_free =
      let long : length (map (λ b. whole_of b) (chambers_of chambers)) ≡ chamber_count chambers = length-map (chambers_of chambers) (λ b. whole_of b) ∙ length-chambers_of chambers in
      store_decoded (fresh_table chambers) (map (λ b. whole_of b) (chambers_of chambers)) (fresh_count ∙ sym long)
      (record { counts = λ i h. let e = ap (λ (b : TargetBin). b.count) (fresh_at_lem i (omega (arith, fresh_count))) in omega arith })
      (λ i h. ap (λ (b : TargetBin). b.count) (fresh_at_lem i (omega arith)) ∙ sym (one i (omega arith)))
    where
      one : (i : ℕ) → i < chamber_count chambers → length (get_or (map (λ b. whole_of b) (chambers_of chambers)) i []) ≡ 1
      one i h = ap length (getd_map_in (λ b. whole_of b) (chambers_of chambers) i [] (bin 0 (sides 0 0 0) 0) (omega (arith, length-chambers_of chambers)))

-- the one section lies inside
pub whole_inside : (whd : WidthHeightDepth) → SidesInRange whd → Inside whd (whole_section whd)
whole_inside whd h = omega arith

-- the tables pass checks 1 to 3 again
module _ (chambers store : List ℕ) (lengths_ok_lem : Lengths chambers store) (shapes_ok : ShapesSound chambers) where
  at : (i : ℕ) → i < chamber_count (fresh_table chambers) → chamber_at (fresh_table chambers) i ≡ freshened (chamber_at chambers i)
  at i h = fresh_at_lem chambers i (omega (arith, fresh_count chambers))

  fresh_long : length (fresh_store chambers) ≡ chamber_count chambers * 768
  fresh_long =
      ap length (fresh_store_lem chambers)
      ∙ length-joined-tab part_of 768 (chamber_count chambers) (whole_at chambers) (λ i h. length-part_of (whole_at chambers i) (omega arith))

  fresh_whole : length (fresh_table chambers) ≡ chamber_count chambers * 5
  fresh_whole =
      ap length (fresh_table_lem chambers) ∙ length-joined-tab (λ b. bin_words b) 5 (chamber_count chambers) (fresh_at chambers) (λ i h. refl)

  fresh-section : (i j : ℕ) → i < chamber_count (fresh_table chambers) → j < (chamber_at (fresh_table chambers) i).count → section_at (part_at (fresh_store chambers) i) j ≡ whole_section (chamber_at chambers i).whd
  unfolding fresh_store
  fresh-section i j h l =
      let low : i < chamber_count chambers = omega (arith, fresh_count chambers) in
      let first : j ≡ 0 = omega (arith, ap (λ (b : TargetBin). b.count) (at i h)) in
      let fs : List (List BinSection) = map (λ b. whole_of b) (chambers_of chambers) in
      let d : TargetBin = bin 0 (sides 0 0 0) 0 in
      let got : (m : ℕ) → m < chamber_count chambers → get_or fs m [] ≡ whole_at chambers m =
      λ m b. getd_map_in (λ x. whole_of x) (chambers_of chambers) m [] d (omega (arith, length-chambers_of chambers))
      ∙ ap (λ (x : TargetBin). whole_of x) (getd_chambers_of chambers m d b) in
      let long : length fs ≡ chamber_count chambers = length-map (chambers_of chambers) (λ b. whole_of b) ∙ length-chambers_of chambers in
      let part : part_at (store_of fs) i ≡ part_of (whole_at chambers i) =
      part_at-store_of fs i (λ m b. omega (arith, ap length (got m (omega arith)))) (omega arith) ∙ ap part_of (got i low) in
      ap₂ (λ (w : List ℕ) (m : ℕ). section_at w m) part first
      ∙ sym (getd_sections (part_of (whole_at chambers i)) 1 0 zero_section (omega arith))
      ∙ ap (λ (ss : List BinSection). get_or ss 0 zero_section) (sections-part_of (whole_at chambers i))

  pub fresh_sound : Sound (fresh_table chambers) (fresh_store chambers)
  fresh_sound =
      record {
        shaped = record {
          few = omega (arith, fresh_count chambers, lengths_ok_lem.few);
          whole = omega (arith, fresh_whole);
          long = omega (arith, fresh_long, fresh_count chambers);
          counted = record { counts = λ i h. omega (arith, ap (λ (b : TargetBin). b.count) (at i h)) };
        };
        shapes_ok = record {
          rising = λ i h.
              omega (arith, shapes_ok.rising i (omega (arith, fresh_count chambers)), ap (λ (b : TargetBin). b.id) (at i (omega arith)), ap (λ (b : TargetBin). b.id) (at (suc i) h));
          sides = λ i h. rw (at i h) (shapes_ok.sides i (omega (arith, fresh_count chambers)));
        };
        all_in = record {
          inside = λ i j h l.
              rw (fresh-section i j h l, at i h) (whole_inside (chamber_at chambers i).whd (shapes_ok.sides i (omega (arith, fresh_count chambers))));
        };
      }
