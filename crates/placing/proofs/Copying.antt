-- Laws of a chamber's counted sections, copied, and of the group placed on the copy.
use Prim.Native.Nat.{ℕ, ◌*◌, ◌≤◌, ◌<◌}
use mathlib.Core.Path.{◌≡◌, refl, sym, ap, ◌∙◌}
use mathlib.Core.Bool.{Bool}
use mathlib.Core.List.{List, []}
use native.Mathlib.Omega.{arith}
use lib.ListN.{length, get_or}
use Rattle.lists.proofs.Sorts.{each_map}
use Rattle.bin_section.specs.declared.section.BinSection.{BinSection}
use Rattle.bin_section.specs.declared.rect_to_insert.RectToInsert.{RectToInsert}
use Rattle.sections.specs.Sections.{sections}
use Rattle.target_bin.specs.declared.chamber.TargetBin.{TargetBin}
use Rattle.target_bin.specs.Chambers.{chamber_at, chamber_count}
use Rattle.target_bin.specs.Store.{part_at, free_at, free_of}
use Rattle.target_bin.proofs.Parts.{length-part_at, part_in, getd_free_of}
use Rattle.grouped_rects_to_place.specs.declared.rect_to_place.RectToPlace.{RectToPlace}
use Rattle.packing_rules.specs.Rules.{Trial, place_one, place_group}
use Rattle.packing_rules.specs.Packing.{rects_at, trial_in, most_sections}
use Rattle.packing_rules.proofs.Left.{inside_reachable}
use Rattle.packing_rules.proofs.Room.{part_most, most_part}
use Rattle.placing.specs.Leaning.{is_somewhere, Reaching, RoomThrough, Ready}
use Rattle.placing.proofs.Reaches.{each_reaching}

-- what is ready for n rectangles is so for fewer
pub ready_part : (c st : List ℕ) (m n : ℕ) → Ready c st n → m ≤ n → Ready c st m
ready_part c st m n r h =
    record {
      shaped = r.shaped;
      small = r.small;
      inside = r.inside;
      room = λ k l. omega (arith, r.room k l, most_part (length (get_or (free_of c st) k [])) m n h);
    }

-- the chamber's part, as it is lent
module _ (c st : List ℕ) (k n : ℕ) (ready : Ready c st n) (here : k < chamber_count c) (bin : TargetBin) (read : bin ≡ chamber_at c k) (part : List ℕ) (lent : part ≡ part_at st k) where
  count_few : bin.count ≤ 128
  count_few = omega (arith, ready.shaped.counted.counts k here, ap (λ (b : TargetBin). b.count) read)

  pub part_holds : bin.count * 6 ≤ length part
  part_holds = omega (arith, count_few, ap length lent, length-part_at st k (part_in c st k ready.shaped here))

  pub copy_room : (copy : List ℕ) → length copy ≡ 768 → (bin.count * 6 ≤ length part) × (bin.count * 6 ≤ length copy)
  copy_room copy long = (part_holds, omega (arith, count_few))

  -- words that have the chamber's free sections: its part, or a copy of it
  module _ (w : List ℕ) (same : sections w bin.count ≡ sections part bin.count) where
    pub words_free : sections w bin.count ≡ get_or (free_of c st) k []
    unfolding free_at
    words_free = same ∙ rw (lent, read) (sym (getd_free_of c st k [] here))

    pub words_reaching : Reaching bin.count w
    words_reaching =
        each_reaching bin.count w (rw words_free (each_map (λ s i. inside_reachable (chamber_at c k).whd (ready.small k here) s i) (ready.inside k here)))

    pub words_through : (r : ℕ → RectToPlace) (group : List ℕ) → length w ≡ 768 → length group ≡ n → RoomThrough bin.count r group w
    words_through r group long many =
        record {
          at = λ i ls free e.
              let room : most_sections (length (get_or (free_of c st) k [])) (length group) ≤ 128 = rw many (ready.room k here) in
              omega (arith, long, room, part_most r (get_or (free_of c st) k []) group i ls free (rw words_free at e));
        }

    pub trial_here : (t : Trial) (r : ℕ → RectToPlace) (group : List ℕ) → t ≡ place_group (sections w bin.count) (rects_at r group) → t ≡ trial_in (rects_at r group) (free_of c st) k
    unfolding trial_in
    trial_here t r group e = e ∙ ap (λ (free : List BinSection). place_group free (rects_at r group)) words_free

  pub place_here : (b : Bool) (q : RectToInsert) → b ≡ is_somewhere (place_one (sections part bin.count) q) → b ≡ is_somewhere (place_one (get_or (free_of c st) k []) q)
  place_here b q e = e ∙ ap (λ (free : List BinSection). is_somewhere (place_one free q)) (words_free part refl)
