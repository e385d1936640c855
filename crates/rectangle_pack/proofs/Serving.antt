-- Laws of one group: the first chamber where all fit, and the tables once that chamber keeps the copy.
use Prim.Native.Nat.{ℕ, ◌+◌, ◌*◌, ◌/◌, ◌≤◌, ◌<◌}
use mathlib.Core.Path.{◌≡◌, refl, sym, ap, ◌∙◌}
use mathlib.Core.Logic.{⊎_elim}
use mathlib.Core.List.{List, [], ◌∷◌}
use mathlib.Core.Bool.{Bool, false}
use native.Mathlib.Decide.{ℕ_discrete}
use native.Mathlib.Omega.{arith}
use lib.ListN.{length, get_or, set, length-set}
use Rattle.lists.specs.Sort.{Each}
use Rattle.lists.specs.Tab.{put}
use Rattle.lists.proofs.Lowests.{None}
use Rattle.lists.proofs.Sorts.{each_at}
use Rattle.lists.proofs.Tabs.{length-put, set_cases}
use Rattle.bin_section.specs.declared.rect_to_insert.RectToInsert.{RectToInsert}
use Rattle.bin_section.specs.declared.section.BinSection.{BinSection}
use Rattle.bin_section.specs.Inside.{Inside}
use Rattle.sections.specs.Sections.{sections}
use Rattle.sections.proofs.Reading.{length-sections}
use Rattle.try_place.specs.declared.packed_location.PackedLocation.{PackedLocation}
use Rattle.target_bin.specs.declared.chamber.TargetBin.{TargetBin}
use Rattle.target_bin.specs.Chambers.{chamber_at, chamber_count}
use Rattle.target_bin.specs.Leaning.{Shaped}
use Rattle.target_bin.specs.Store.{free_at, free_of}
use Rattle.target_bin.proofs.Parts.{part_at-put_same, only_in, free_set}
use Rattle.target_bin.proofs.Tables.{chamber_at-set_same, chamber_at-set_other}
use Rattle.grouped_rects_to_place.specs.declared.rect_to_place.RectToPlace.{RectToPlace}
use Rattle.packing_rules.specs.Rules.{place_one, whole, is_whole}
use Rattle.packing_rules.specs.Packing.{rects_at, trial_in, most_sections}
use Rattle.packing_rules.specs.Promises.{NoneServes}
use Rattle.packing_rules.proofs.Left.{placings_free, inside_reachable, inside_passes}
use Rattle.packing_rules.proofs.Placings.{group_placings, stops_first}
use Rattle.placing.proofs.Placed.{not_placed}
use Rattle.std.proofs.Common.{Some}
use Rattle.packing_rules.proofs.Room.{group_most, most_part, most_least}
use Rattle.placing.specs.Leaning.{is_somewhere, Ready}
use Rattle.placing.specs.Step.{locations_in}
use Rattle.rectangle_pack.specs.declared.groups.Fit.{Fit}
use Rattle.rectangle_pack.specs.Leaning.{FitHere, FirstFit, KeptIn, Grouped}

-- ---- one chamber

-- the first of the group fits no section: so it stops the trial
pub first_stops :
    (r : ℕ → RectToPlace) (group : List ℕ) (frees : List (List BinSection)) (k : ℕ) (b : Bool)
    → 0 < length group
    → b ≡ is_somewhere (place_one (get_or frees k []) (record { whd = (r (get_or group 0 0)).whd }))
    → b ≡ false
    → is_whole (trial_in (rects_at r group) frees k) ≡ false
unfolding trial_in rects_at
first_stops r [] frees k b some e none = absurd (omega arith)
first_stops r (i ∷ is) frees k b some e none =
    stops_first (get_or frees k []) (record { whd = (r i).whd }) (rects_at r is) (not_placed _ (sym e ∙ none))

-- ---- the first chamber where all fit

module _ (order : List ℕ) (group : List RectToInsert) (frees : List (List BinSection)) (t : ℕ)
    (passed : None t (λ i. is_whole (trial_in group frees (get_or order i 0)))) where
  pub serves_here :
      (f : Fit) (m : ℕ) (copy table : List ℕ)
      → t < length order
      → FitHere (Some f) (get_or order t 0) group frees m copy table
      → FirstFit (Some f) order group frees m copy table
  serves_here f m copy table h d =
      (t, record { within = h; earlier_stop = passed.at; all_fit = ap is_whole d.1 }, d.0, rw d.0 at d.1)

  pub serves_nowhere : length order ≤ t → NoneServes order group frees
  serves_nowhere h = record { at = λ u l. passed.at u (omega arith) }

-- ---- the copy is kept

module _ (c st c' st' part copy : List ℕ) (k n : ℕ)
    (shaped : Shaped c st)
    (here : k < chamber_count c)
    (few : n ≤ 128)
    (part-long : length part ≡ 768)
    (same : sections part n ≡ sections copy n)
    (counted : c' ≡ set c (k * 5 + 4) n)
    (stored : st' ≡ put st (k * 768) part) where
  record_in : k * 5 + 5 ≤ length c
  record_in = omega (arith, shaped.whole)

  part_in : (k + 1) * 768 ≤ length st
  part_in = omega (arith, shaped.long)

  count_same : chamber_count c' ≡ chamber_count c
  count_same = ap (λ (x : ℕ). x / 5) (ap length counted ∙ length-set c (k * 5 + 4) n)

  at_here : chamber_at c' k ≡ record { id = (chamber_at c k).id; whd = (chamber_at c k).whd; count = n }
  at_here = ap (λ (w : List ℕ). chamber_at w k) counted ∙ chamber_at-set_same c k n record_in

  at_other : (i : ℕ) → (i ≡ k → ⊥) → chamber_at c' i ≡ chamber_at c i
  at_other i ne = ap (λ (w : List ℕ). chamber_at w i) counted ∙ chamber_at-set_other c k n record_in i ne

  -- a fact of each chamber: of this one with its new count, and of the others as they were
  each-chamber :
      (Q : ℕ → TargetBin → Type 0)
      → Q k (record { id = (chamber_at c k).id; whd = (chamber_at c k).whd; count = n })
      → ((i : ℕ) → Q i (chamber_at c i))
      → (i : ℕ)
      → Q i (chamber_at c' i)
  each-chamber Q this others i = elim (ℕ_discrete i k) [ yes e ↦ rw (e, at_here) this | no ne ↦ rw (at_other i ne) (others i) ]

  free_here : free_at c' st' k ≡ sections copy n
  unfolding free_at
  free_here = rw (stored, part_at-put_same st k part part_in part-long, at_here) same

  pub kept_in : KeptIn k (sections copy n) c st c' st'
  kept_in =
      record {
        same = record {
          long = ap length counted ∙ length-set c (k * 5 + 4) n;
          ids = each-chamber (λ i b. b.id ≡ (chamber_at c i).id) refl (λ i. refl);
          sides = each-chamber (λ i b. b.whd ≡ (chamber_at c i).whd) refl (λ i. refl);
        };
        shaped = record {
          few = omega (arith, count_same, shaped.few);
          whole = omega (arith, count_same, ap length counted, length-set c (k * 5 + 4) n, shaped.whole);
          long = omega (arith, count_same, ap length stored, length-put st (k * 768) part (omega (arith, part_in, part-long)), shaped.long);
          counted = record {
            counts = λ i h. each-chamber (λ i b. i < chamber_count c → b.count ≤ 128) (λ _. few) shaped.counted.counts i (omega (arith, count_same));
          };
        };
        frees =
            free_set c c' st st' k (sections copy n) count_same here (rw stored (only_in st k part part_in part-long)) free_here
            (λ i ne. ap (λ (b : TargetBin). b.count) (at_other i ne));
      }

-- ---- one group: the first chamber that serves it keeps the copy

module _ (c st order group : List ℕ) (r : ℕ → RectToPlace) (m : ℕ) (copy table : List ℕ) (f : Fit) (found : FirstFit (Some f) order (rects_at r group) (free_of c st) m copy table) where
  pub fit_below : (b : ℕ) → Each (λ i. i < b) order → f.chamber < b
  fit_below b low = rw found.2 at (each_at low found.0 0 found.1.within)

  pub fit_few : (b : ℕ) → Ready c st b → length group ≡ b → Each (λ i. i < chamber_count c) order → f.count ≤ 128
  unfolding trial_in
  fit_few b ready many low =
      let most : most_sections (length (get_or (free_of c st) f.chamber [])) (length group + 0) ≤ 128 =
      let e : length group + 0 ≡ b = omega arith in rw e (ready.room f.chamber (fit_below (chamber_count c) low)) in
      omega (
        arith,
        length-sections copy f.count,
        most_least (length (sections copy f.count)) 0,
        group_most r (get_or (free_of c st) f.chamber []) group 0 (locations_in table m) (sections copy f.count) found.3,
        most,
      )

  pub grouped_served : (c' st' : List ℕ) → KeptIn f.chamber (sections copy f.count) c st c' st' → Grouped (Some f) order (rects_at r group) m table c st c' st'
  grouped_served c' st' kept = (found.0, found.1, found.2, sections copy f.count, length-sections copy f.count, found.3, kept)

-- ---- what was ready for all is ready for the others, once a group stands in its chamber

pub ready_next :
    (c st c' st' group : List ℕ) (r : ℕ → RectToPlace) (k rest : ℕ) (ls : List PackedLocation) (free : List BinSection)
    → Ready c st (length group + rest)
    → k < chamber_count c
    → trial_in (rects_at r group) (free_of c st) k ≡ whole ls free
    → KeptIn k free c st c' st'
    → Ready c' st' rest
unfolding trial_in
ready_next c st c' st' group r k rest ls free ready here e kept =
    let many : chamber_count c' ≡ chamber_count c = ap (λ (x : ℕ). x / 5) kept.same.long in
    let whd = (chamber_at c k).whd in
    let left : Each (Inside whd) free =
    placings_free (Inside whd) (inside_reachable whd (ready.small k here)) (inside_passes whd)
    (group_placings (get_or (free_of c st) k []) (rects_at r group) ls free e) (ready.inside k here) in
    record {
      shaped = kept.shaped;
      small = λ i h. rw (kept.same.sides i) (ready.small i (omega arith));
      inside = λ i h.
          rw (kept.frees, kept.same.sides i)
          (⊎_elim (λ u. rw u (ready.inside i (omega arith))) (λ u. rw (u.1, u.0) left) (set_cases (free_of c st) k free i []));
      room = λ i h.
          rw kept.frees
          (⊎_elim
          (λ u. rw u (omega (arith, ready.room i (omega arith), most_part (length (get_or (free_of c st) i [])) rest (length group + rest) (omega arith))))
          (λ u. rw u.1 (omega (arith, ready.room k here, group_most r (get_or (free_of c st) k []) group rest ls free e)))
          (set_cases (free_of c st) k free i []));
    }
