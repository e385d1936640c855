-- Laws of pack's checks: which case each of them leads to, and what the tables have once all pass.
use Prim.Native.Nat.{ℕ, ◌+◌, ◌*◌, ◌%◌, ◌≤◌, ◌<◌}
use mathlib.Core.Path.{◌≡◌, refl, sym, ap, ◌∙◌}
use mathlib.Core.List.{List, []}
use mathlib.Core.Bool.{true, false, not, ◌&&◌}
use native.Mathlib.Omega.{arith}
use borrow.Author.Tests.{eqb-true, leb-true, eq-eqb, ne_eqb, le-leb, lt-leb, lt-ltb, le-ltb, ltb-false, not-false}
use lib.Dec.{eqb, leb}
use lib.ListN.{length, get_or}
use Rattle.lists.specs.Sort.{Each}
use Rattle.lists.proofs.Flags.{and_first, and_second, and_no_first, and_no_second}
use Rattle.lists.proofs.Lowests.{None}
use Rattle.lists.proofs.Sorts.{each-tab}
use Rattle.replies.specs.declared.reply.Reply.{Reply}
use Rattle.replies.specs.Replies.{reply, in_order}
use Rattle.bin_section.specs.Leaning.{Small}
use Rattle.bin_section.specs.Section.{section_at}
use Rattle.bin_section.specs.Inside.{Inside}
use Rattle.sections.specs.Sections.{sections}
use Rattle.sections.proofs.Reading.{length-sections}
use Rattle.bin_section.proofs.Ranges.{range→small}
use Rattle.target_bin.specs.declared.chamber.TargetBin.{TargetBin}
use Rattle.target_bin.specs.Chambers.{chamber_at, chamber_count}
use Rattle.target_bin.specs.Checks.{table_checks}
use Rattle.target_bin.specs.Store.{part_at, free_at, free_of}
use Rattle.target_bin.proofs.Parts.{getd_free_of}
use Rattle.replies.proofs.Ladders.{AllPass, passes, row_passes, row_fires, past, no_fault}
use Rattle.target_bin.proofs.Passing.{Sound, tables_sound}
use Rattle.grouped_rects_to_place.specs.Rect.{rect_at, rect_width, rect_count}
use Rattle.placement.specs.Placements.{placement_width}
use Rattle.grouped_rects_to_place.specs.Checks.{bad_rect}
use Rattle.grouped_rects_to_place.proofs.Checking.{good_rects}
use Rattle.rectangle_pack.specs.Pack.{rect_lengths_ok, rect_checks, pack_checks}
use Rattle.packing_rules.specs.Packing.{most_sections, no_room}
use Rattle.rectangle_pack.specs.Leaning.{Passed}

-- ---- 1

module _ (rects p : List ℕ) where
  pub rect_odd : (length rects % rect_width ≡ 0 → ⊥) → false ≡ rect_lengths_ok rects p
  unfolding rect_lengths_ok
  rect_odd n = sym (and_no_first _ _ (ne_eqb _ _ n))

  pub rect_many : 63 < rect_count rects → false ≡ rect_lengths_ok rects p
  unfolding rect_lengths_ok
  rect_many h =
      sym (and_no_second (eqb (length rects % rect_width) 0) (leb (rect_count rects) 63 && eqb (length p) (rect_count rects * placement_width)) (and_no_first _ _ (lt-leb _ _ h)))

  pub rect_places : length rects % rect_width ≡ 0 → rect_count rects ≤ 63 → eqb (length p) (rect_count rects * placement_width) ≡ rect_lengths_ok rects p
  unfolding rect_lengths_ok
  rect_places z h = sym (rw (eq-eqb _ _ z, le-leb _ _ h))

  pub record RectLengths : Type 0 where
    pub few : rect_count rects ≤ 63
    pub long : length rects ≡ rect_count rects * rect_width
    pub places : length p ≡ rect_count rects * placement_width

  pub rect_lengths : rect_lengths_ok rects p ≡ true → RectLengths
  unfolding rect_lengths_ok
  rect_lengths t =
      let a = eqb (length rects % rect_width) 0 in
      let b = leb (rect_count rects) 63 in
      let d = eqb (length p) (rect_count rects * placement_width) in
      let r = and_second a (b && d) t in
      let x : length rects % rect_width ≡ 0 = eqb-true _ _ (and_first a (b && d) t) in
      let y : rect_count rects ≤ 63 = leb-true _ _ (and_first b d r) in
      record { few = y; long = omega arith; places = eqb-true _ _ (and_second b d r) }

-- ---- all of them

-- the halves of the checks, in their order
module _ (c st rects p : List ℕ) (ok : rect_lengths_ok rects p ≡ true) where
  pub pack-tables : (t : Reply) → t ≡ in_order (table_checks c st) (λ a. a) (reply 0 0) → (t.number ≡ 0 → ⊥) → t ≡ in_order (pack_checks c st rects p) (λ a. a) (reply 0 0)
  unfolding pack_checks
  pack-tables t e n = row_fires (λ r. r.number) (λ a. a) _ (table_checks c st) _ (reply 0 0) t refl e n ∙ sym (passes _ _ _ _ (ap not ok))

  pub pack_rects : reply 0 0 ≡ in_order (table_checks c st) (λ a. a) (reply 0 0) → (r : Reply) → r ≡ in_order (rect_checks c rects) (λ a. a) (reply 0 0) → r ≡ in_order (pack_checks c st rects p) (λ a. a) (reply 0 0)
  unfolding pack_checks
  pack_rects e r f =
      f ∙ sym (passes _ _ _ _ (ap not ok) ∙ past _ _ (table_checks c st) _ (row_passes (λ x. x.number) (λ a. a) (reply 0 0) (table_checks c st) _ refl e refl))

-- what the tables have once all pass
module _ (c st rects p : List ℕ) (all : AllPass (pack_checks c st rects p)) where
  pub sound_before : Sound c st
  unfolding pack_checks
  sound_before = let q = all.1 in tables_sound c st (q.0, (q.1.0, (q.1.1.0, tt)))

  pub no_bad : None (rect_count rects) (bad_rect (rect_at rects))
  unfolding pack_checks rect_checks
  no_bad = no_fault _ _ all.1.1.1.1.0

  pub none_full : None (chamber_count c) (no_room c (rect_count rects))
  unfolding pack_checks rect_checks
  none_full = no_fault _ _ all.1.1.1.1.1.1.0

  room_at : (k : ℕ) → k < chamber_count c → most_sections (length (get_or (free_of c st) k [])) (rect_count rects) ≤ 128
  unfolding no_room free_at
  room_at k h = rw (getd_free_of c st k [] h, length-sections (part_at st k) (chamber_at c k).count) (ltb-false _ _ (none_full.at k h))

  inside_at : (k : ℕ) → k < chamber_count c → Each (Inside (chamber_at c k).whd) (get_or (free_of c st) k [])
  unfolding free_at sections
  inside_at k h = rw (getd_free_of c st k [] h) (each-tab (chamber_at c k).count (section_at (part_at st k)) (λ i l. sound_before.all_in.inside k i h l))

  lengths_ok_lem : RectLengths rects p
  unfolding pack_checks
  lengths_ok_lem = rect_lengths rects p (not-false _ all.0)

  small_at : (k : ℕ) → k < chamber_count c → Small (chamber_at c k).whd
  small_at k h = range→small _ (sound_before.shapes_ok.sides k h)

  pub passed : Passed c st rects p
  passed =
      let l = lengths_ok_lem in
      record {
        ready = record { shaped = sound_before.shaped; small = small_at; inside = inside_at; room = room_at };
        rects_good = good_rects rects (rect_count rects) l.few (omega (arith, l.long)) no_bad;
        places_long = l.places;
      }

-- 6, at one chamber
module _ (c : List ℕ) (n k : ℕ) (b : TargetBin) (read : b ≡ chamber_at c k) where
  pub too_little : 128 < b.count + 2 * n → no_room c n k ≡ true
  unfolding no_room most_sections
  too_little h = lt-ltb 128 ((chamber_at c k).count + 2 * n) (omega (arith, ap (λ (x : TargetBin). x.count) read))

  pub room_left : b.count + 2 * n ≤ 128 → no_room c n k ≡ false
  unfolding no_room most_sections
  room_left h = le-ltb 128 ((chamber_at c k).count + 2 * n) (omega (arith, ap (λ (x : TargetBin). x.count) read))
