-- A pack leaves every chamber whole: what was free is free still or lies in a box that its records place there; a pack refused by a
-- check changes nothing.
use Prim.Native.Nat.{ℕ, ◌≤◌, ◌<◌}
use mathlib.Core.Path.{◌≡◌, refl, sym, ap, ◌∙◌, subst}
use mathlib.Core.Logic.{◌⊎◌, inl, inr}
use mathlib.Core.List.{List, [], ◌++◌}
use mathlib.Core.Bool.{true, false}
use native.Mathlib.Decide.{ℕ_discrete}
use native.Mathlib.Omega.{arith}
use borrow.Author.Tests.{ltb-true, ne_eqb}
use lib.Dec.{ltb, eqb}
use lib.ListN.{length, get_or, replicate}
use Rattle.lists.proofs.Flags.{cond_yes, cond_no, or_none}
use Rattle.replies.specs.declared.reply.Reply.{Reply}
use Rattle.bin_section.specs.declared.section.BinSection.{BinSection}
use Rattle.bin_section.specs.declared.width_height_depth.WidthHeightDepth.{WidthHeightDepth}
use Rattle.replies.specs.Replies.{reply, in_order}
use Rattle.cells.specs.Whole.{Whole}
use Rattle.cells.proofs.Grid.{has}
use Rattle.cells.proofs.Held.{held, whole_same}
use Rattle.cells.proofs.Insides.{each_inside, inside_each, inside_first, inside_second, inside_both}
use Rattle.target_bin.specs.declared.chamber.TargetBin.{TargetBin}
use Rattle.target_bin.specs.Chambers.{chamber_at, chamber_count, table_of}
use Rattle.target_bin.specs.Store.{free_at, free_of, store_of}
use Rattle.replies.proofs.Ladders.{AllPass, answer_is}
use Rattle.bin_section.proofs.Ranges.{range→small}
use Rattle.target_bin.proofs.Parts.{length-free_of, getd_free_of}
use Rattle.grouped_rects_to_place.specs.declared.rect_to_place.RectToPlace.{RectToPlace}
use Rattle.grouped_rects_to_place.specs.Rect.{rect_at, rect_count}
use Rattle.grouped_rects_to_place.specs.Groups.{groups_of}
use Rattle.packing_rules.specs.Order.{trial_order}
use Rattle.packing_rules.specs.Seats.{Seat, unplaced}
use Rattle.rectangle_pack.specs.Records.{placements_of}
use Rattle.packing_rules.specs.Packing.{state, Ended, start, packing}
use Rattle.rectangle_pack.specs.Pack.{rect_checks, pack_checks, bins_with, PackOutcome, pack_outcome, written, pack_of}
use Rattle.rectangle_pack.proofs.Checked.{no_bad, none_full, passed}
use Rattle.rectangle_pack.proofs.Ending.{pack-refused, all_pass, pack_done}
use Rattle.packing_rules.proofs.Boxes.{range→sided}
use Rattle.packing_rules.proofs.Room.{never_overflows}
use Rattle.packing_rules.proofs.Seating.{groups_wait}
use Rattle.packing_rules.proofs.TrialOrders.{trial_below}
use Rattle.custody.specs.Ledger.{new_boxes, places, after_pack}
use Rattle.custody.specs.Run.{Hall, hall_of, packed, SameChambers, placed_at}
use Rattle.custody.proofs.Between.{Good, good_ledger, same_chambers, one_index}
use Rattle.grouped_rects_to_place.proofs.Checking.{rects_range}
use Rattle.grouped_rects_to_place.proofs.Sizes.{groups_disjoint}
use Rattle.custody.proofs.Ledgers.{new_total}
use Rattle.custody.proofs.Packs.{Conserved, Finished, start_conserved, groups_conserved}
use Rattle.custody.proofs.Seating.{seat_total}
use Rattle.lists.proofs.Totals.{total, total_append}
use Rattle.custody.proofs.Totals.{strays, all_inside}
use Rattle.custody.proofs.Written.{written_count, written_at, written_free, written_sound}

module _ (f : Hall) (good : Good f) (rects placements : List ℕ) where
  abbrev c : List ℕ
  c = f.chambers

  abbrev s : List ℕ
  s = f.store

  abbrev m : ℕ
  m = chamber_count c

  abbrev n : ℕ
  n = rect_count rects

  abbrev r : ℕ → RectToPlace
  r = rect_at rects

  abbrev ids : ℕ → ℕ
  ids = λ k. (chamber_at c k).id

  abbrev whds : ℕ → WidthHeightDepth
  whds = λ k. (chamber_at c k).whd

  -- the answer of the checks, 0 where all pass
  abbrev checked : Reply
  checked = in_order (pack_checks c s rects placements) (λ a. a) (reply 0 0)

  low : ltb checked.number 7 ≡ true
  unfolding pack_checks rect_checks
  low = answer_is (λ a. ltb a.number 7) (pack_checks c s rects placements) (reply 0 0) refl refl

  -- ---- refused by a check

  nothing_placed_lem : (a : Reply) (id : ℕ) → places a ≡ false → after_pack a rects placements f.ledger id ≡ f.ledger id
  unfolding after_pack
  nothing_placed_lem a id e = cond_no (f.ledger id ++ new_boxes rects placements id) (f.ledger id) (places a) e

  places_none : (a : Reply) → (a.number ≡ 0 → ⊥) → a.number < 7 → places a ≡ false
  unfolding places
  places_none a ne h = or_none (eqb a.number 0) (eqb a.number 7) (ne_eqb a.number 0 ne) (ne_eqb a.number 7 (λ e. omega arith))

  all_placed : (a : Reply) (id : ℕ) (records : List ℕ) → places a ≡ true → after_pack a rects records f.ledger id ≡ f.ledger id ++ new_boxes rects records id
  unfolding after_pack
  all_placed a id records e = cond_yes (f.ledger id ++ new_boxes rects records id) (f.ledger id) (places a) e

  number_places : (a : Reply) → (a.number ≡ 0) ⊎ (a.number ≡ 7) → places a ≡ true
  unfolding places
  number_places a (inl e) = rw e refl
  number_places a (inr e) = rw e refl

  written_is : written c (packing c s rects) ≡ pack_outcome (packing c s rects).reply (table_of (bins_with c (packing c s rects).after.frees)) (store_of (packing c s rects).after.frees) (placements_of (packing c s rects).after.seats)
  unfolding written
  written_is = refl

  -- ---- past the checks

  module _ (pass : AllPass (pack_checks c s rects placements)) where
    finished : Finished m n ids whds r (free_of c s) (packing c s rects)
    unfolding packing start
    finished =
        groups_conserved m n ids whds r (free_of c s) (one_index c s good.sound_tables)
        (λ k h. range→small (whds k) (good.sound_tables.shapes_ok.sides k h))
        (λ i h. range→sided (r i).whd (rects_range r n (no_bad c s rects placements pass) i h))
        (trial_order c) (trial_below c) (groups_of n r) (state (free_of c s) (replicate n unplaced))
        (start_conserved m n ids whds r (free_of c s) (length-free_of c s)
        (λ k h. rw (getd_free_of c s k [] h) (inside_each (whds k) (free_at c s k) (inside_second (whds k) (placed_at f k) (free_at c s k) (good.whole k h).inside))))
        (groups_wait n r) (groups_disjoint n r)

    abbrev e : Ended
    e = packing c s rects

    abbrev frees : List (List BinSection)
    frees = e.after.frees

    abbrev seats : List Seat
    seats = e.after.seats

    k₀ : Conserved m n ids whds r (free_of c s) e.after
    k₀ = finished.conserved

    few : (k : ℕ) → k < m → length (get_or frees k []) ≤ 128
    few k h = never_overflows c s rects (passed c s rects placements pass).rects_good.few (none_full c s rects placements pass) k

    new_weight : (w : BinSection → ℕ) (k : ℕ) → total w (new_boxes rects (placements_of seats) (ids k)) ≡ seat_total w r n (ids k) seats
    new_weight w k = new_total w rects (ids k) seats k₀.seats_long

    whole_at_lem : (k : ℕ) → k < m → Whole (whds k) ((f.ledger (ids k) ++ new_boxes rects (placements_of seats) (ids k)) ++ get_or frees k [])
    whole_at_lem k h =
        let w = good.whole k h in
        let old = f.ledger (ids k) in
        let fresh = new_boxes rects (placements_of seats) (ids k) in
        whole_same (whds k) (old ++ free_at c s k) ((old ++ fresh) ++ get_or frees k []) w
        (inside_both (whds k) (old ++ fresh) (get_or frees k [])
        (inside_both (whds k) old fresh (inside_first (whds k) old (free_at c s k) w.inside)
        (each_inside (whds k) (all_inside (whds k) fresh (new_weight (strays (whds k)) k ∙ k₀.placed_inside k h))))
        (each_inside (whds k) (k₀.free_in k h)))
        (λ cx cy cz b.
        omega (
          arith,
          total_append (λ b. has b cx cy cz) (old ++ fresh) (get_or frees k []),
          total_append (λ b. has b cx cy cz) old fresh,
          total_append (λ b. has b cx cy cz) old (free_at c s k),
          new_weight (λ b. has b cx cy cz) k,
          k₀.cells k h cx cy cz,
          ap (λ (l : List BinSection). held l cx cy cz) (getd_free_of c s k [] h),
        ))

    placed_places : places e.reply ≡ true
    placed_places = number_places e.reply finished.number

    written_good : Good (hall_of (table_of (bins_with c frees)) (store_of frees) (after_pack e.reply rects (placements_of seats) f.ledger))
    written_good =
        record {
          sound_tables = written_sound c s frees good.sound_tables k₀.frees_long few k₀.free_in;
          whole = λ k b.
              let h : k < m = omega (arith, written_count c s frees good.sound_tables k₀.frees_long few) in
              rw (
                written_at c s frees good.sound_tables k₀.frees_long few k h,
                written_free c s frees good.sound_tables k₀.frees_long few k h,
                all_placed e.reply (ids k) (placements_of seats) placed_places,
              )
              (whole_at_lem k h);
        }

  -- either way
  data Outcomes : Type 0 where
    unchanged : (a : Reply) → pack_of c s rects placements ≡ pack_outcome a c s placements → places a ≡ false → Outcomes
    changed : AllPass (pack_checks c s rects placements) → pack_of c s rects placements ≡ written c (packing c s rects) → Outcomes

  outcomes : Outcomes
  outcomes = go (ℕ_discrete checked.number 0)
    where
      go : Dec (checked.number ≡ 0) → Outcomes
      go (no ne) =
          unchanged checked (sym (pack-refused c s rects placements checked refl ne)) (places_none checked ne (ltb-true _ _ low))
      go (yes z) =
          let p = all_pass c s rects placements checked refl z in
          changed p (sym (pack_done c s rects placements (written c (packing c s rects)) p refl))

  pub pack_good : Good (packed f rects placements)
  pack_good = go outcomes
    where
      go : Outcomes → Good (packed f rects placements)
      go (unchanged a same no-places) =
          subst (λ (o : PackOutcome). Good (hall_of o.chambers o.store (after_pack o.reply rects o.placements f.ledger))) (sym same)
          (good_ledger c s f.ledger (after_pack a rects placements f.ledger) (λ id. nothing_placed_lem a id no-places) good)
      go (changed pass same) =
          subst (λ (o : PackOutcome). Good (hall_of o.chambers o.store (after_pack o.reply rects o.placements f.ledger))) (sym (same ∙ written_is))
          (written_good pass)

  pub pack_same : SameChambers f.chambers (pack_of f.chambers f.store rects placements).chambers
  pack_same = go outcomes
    where
      go : Outcomes → SameChambers c (pack_of c s rects placements).chambers
      go (unchanged a same no-places) = subst (λ (o : PackOutcome). SameChambers c o.chambers) (sym same) (same_chambers c)
      go (changed pass same) =
          subst (λ (o : PackOutcome). SameChambers c o.chambers) (sym (same ∙ written_is))
          (record {
            many = written_count c s (frees pass) good.sound_tables (k₀ pass).frees_long (few pass);
            ids = λ k h. ap (λ (b : TargetBin). b.id) (written_at c s (frees pass) good.sound_tables (k₀ pass).frees_long (few pass) k h);
            sides = λ k h. ap (λ (b : TargetBin). b.whd) (written_at c s (frees pass) good.sound_tables (k₀ pass).frees_long (few pass) k h);
          })
