-- A run worked through: a pack that answers 7 and keeps an earlier group, a pack and a return refused by checks, a return, a second pack; then a
-- coil that fits nowhere, a join that is refused, a join of two free sections, and the coil that fits now.
use Prim.Native.Nat.{ℕ}
use mathlib.Core.Path.{◌≡◌, refl, ap, subst}
use mathlib.Core.List.{List, [], ◌∷◌, ◌++◌}
use native.Mathlib.Omega.{arith}
use lib.ListN.{replicate}
use Rattle.std.specs.Prelude.{Some, None}
use Rattle.lists.specs.Lowest.{lowest, any_below}
use Rattle.lists.specs.Pick.{picked}
use Rattle.lists.specs.Sort.{insert_by, insert_all}
use Rattle.lists.specs.Sum.{sum_to}
use Rattle.lists.specs.Tab.{tab, remove_at, put}
use Rattle.bin_section.specs.declared.section.BinSection.{BinSection}
use Rattle.bin_section.specs.Sides.{sides, side_ok}
use Rattle.bin_section.specs.Section.{section, section_at}
use Rattle.bin_section.specs.Overlap.{spans_meet, overlaps_of, common_side, common_box, common_of}
use Rattle.replies.specs.Replies.{reply, in_order}
use Rattle.cells.specs.Whole.{volumes}
use Rattle.words.specs.Words.{joined}
use Rattle.sections.specs.Sections.{sections, all_words}
use Rattle.sections.specs.Inside.{shares_earlier}
use Rattle.bin_section.specs.Inside.{span_inside, inside_of}
use Rattle.try_place.specs.Splits.{six_splits}
use Rattle.try_place.specs.Choice.{chosen, ranks_of, best_of, best_from, later_of, better_of}
use Rattle.try_place.specs.Try.{fit_checks, fit_of}
use Rattle.placement.specs.Placements.{placement_at}
use Rattle.packing_rules.specs.Appended.{larger, kept_one, kept, appended_of}
use Rattle.target_bin.specs.Chambers.{chamber_at, chambers_of, chamber_of}
use Rattle.target_bin.specs.Checks.{lengths_ok, id_ok, shape_ok, chamber_ok, bad_sections}
use Rattle.target_bin.specs.Store.{part_at, free_at, free_of, part_of}
use Rattle.target_bin.specs.Outcome.{Outcome, outcome, CommonOutcome, with_common}
use Rattle.target_bin.specs.Fresh.{fresh_table, fresh_store, fresh_of}
use Rattle.target_bin.specs.Return.{push_checks, return_checks, returned, return_outcome, return_common, return_of}
use Rattle.neighbours.specs.Neighbour.{spans_equal, spans_touch, joins_of, joined_side, joined_box}
use Rattle.neighbours.specs.Joining.{joins_with, joins_later, some_join, pair_of, joined_at, join_from, join_all}
use Rattle.joins.specs.Join.{share_checks, join_checks, join_done, join_outcome, join_common, join_of}
use Rattle.grouped_rects_to_place.specs.Rect.{rect_at}
use Rattle.grouped_rects_to_place.specs.Checks.{bad_rect, repeated_id}
use Rattle.grouped_rects_to_place.specs.Groups.{same_group, lead_of, is_lead, share, group_volume, key_with, comes_before, earlier, group_order, groups_of}
use Rattle.packing_rules.specs.Rules.{place_from, place_one, place_all, place_group}
use Rattle.packing_rules.specs.Order as order
use Rattle.packing_rules.specs.Seats.{seated, dealt}
use Rattle.packing_rules.specs.Packing.{rects_at, trial_in, first_whole, place_groups, answer_of, pack_groups, most_sections, no_room, start, packing}
use Rattle.rectangle_pack.specs.Pack.{rect_lengths_ok, rect_checks, pack_checks, bins_with, PackOutcome, pack_outcome, written, pack_of}
use Rattle.audit.specs.Audit as audit
use Rattle.custody.specs.Ledger.{placed_in, record_box, new_boxes, places, Ledger, nothing, after_pack, In, first, same_box, taken_out, after_return}
use Rattle.custody.specs.Run.{Hall, hall_of, Run, fresh, packs, returns, joins, audit_at, AuditAccepts}
use Rattle.custody.proofs.Custody.{custody}

abbrev box : ℕ → ℕ → ℕ → ℕ → ℕ → ℕ → BinSection
box x y z w h d = section x y z (sides w h d)

abbrev coil : ℕ → ℕ → ℕ → ℕ → ℕ → List ℕ
coil id group w h d = id ∷ group ∷ w ∷ h ∷ d ∷ []

-- ---- the jobs: one chamber of 10 x 10 x 1 with id 1; every table is lent with other words in it

unfoldable lent_chambers : List ℕ
lent_chambers = 1 ∷ 10 ∷ 10 ∷ 1 ∷ 77 ∷ []

unfoldable lent_store : List ℕ
lent_store = replicate 768 9

-- a coil of 6 x 10 x 1, and a group of two, each 4 x 6 x 1
unfoldable three : List ℕ
three = coil 1 0 6 10 1 ++ coil 2 5 4 6 1 ++ coil 3 5 4 6 1

-- a coil with a zero side
unfoldable faulty : List ℕ
faulty = coil 4 0 1 0 1

-- the group of two alone
unfoldable two : List ℕ
two = coil 2 5 4 6 1 ++ coil 3 5 4 6 1

-- a coil as long as the chamber
unfoldable long : List ℕ
long = coil 6 0 10 4 1

unfoldable returned-box : BinSection
returned-box = box 0 0 0 6 10 1

-- ---- the tables after each job

unfoldable chamber_with : ℕ → List ℕ
chamber_with count = 1 ∷ 10 ∷ 10 ∷ 1 ∷ count ∷ []

unfoldable free₀ : List BinSection
free₀ = box 0 0 0 10 10 1 ∷ []

unfoldable free₁ : List BinSection
free₁ = box 6 0 0 4 10 1 ∷ []

unfoldable free₄ : List BinSection
free₄ = box 6 0 0 4 10 1 ∷ box 0 0 0 6 10 1 ∷ []

unfoldable free₅ : List BinSection
free₅ = box 0 6 0 6 4 1 ∷ box 4 0 0 2 6 1 ∷ box 6 6 0 4 4 1 ∷ []

-- two of the three are joined
unfoldable free₇ : List BinSection
free₇ = box 0 6 0 10 4 1 ∷ box 4 0 0 2 6 1 ∷ []

unfoldable free₈ : List BinSection
free₈ = box 4 0 0 2 6 1 ∷ []

unfoldable records₁ : List ℕ
records₁ = (1 ∷ 1 ∷ 0 ∷ 0 ∷ 0 ∷ []) ++ replicate 10 0

unfoldable records₅ : List ℕ
records₅ = (1 ∷ 1 ∷ 0 ∷ 0 ∷ 0 ∷ []) ++ (1 ∷ 1 ∷ 6 ∷ 0 ∷ 0 ∷ [])

unfoldable records₈ : List ℕ
records₈ = 1 ∷ 1 ∷ 0 ∷ 6 ∷ 0 ∷ []

-- what an onlooker writes down, job by job; a join changes nothing there

unfoldable ledger₁ : Ledger
ledger₁ = after_pack (reply 7 1) three records₁ nothing

unfoldable ledger₂ : Ledger
ledger₂ = after_pack (reply 4 0) faulty (replicate 5 9) ledger₁

unfoldable ledger₃ : Ledger
ledger₃ = after_return (reply 10 0) 1 (box 5 0 0 2 2 1) ledger₂

unfoldable ledger₄ : Ledger
ledger₄ = after_return (reply 0 1) 1 returned-box ledger₃

unfoldable ledger₅ : Ledger
ledger₅ = after_pack (reply 0 0) two records₅ ledger₄

unfoldable ledger₆ : Ledger
ledger₆ = after_pack (reply 7 0) long (replicate 5 0) ledger₅

unfoldable ledger₈ : Ledger
ledger₈ = after_pack (reply 0 0) long records₈ ledger₆

-- ---- each job, worked through

record Jobs : Type 0 where
  -- fresh answers 0
  freshly : fresh_of lent_chambers lent_store ≡ outcome (reply 0 0) (chamber_with 1) (part_of free₀)
  -- the pack answers 7 for the group at index 1; the coil at index 0, served before it, stays
  kept_first : pack_of (chamber_with 1) (part_of free₀) three (replicate 15 9) ≡ pack_outcome (reply 7 1) (chamber_with 1) (part_of free₁) records₁
  -- a pack refused by check 4 changes nothing
  refused : pack_of (chamber_with 1) (part_of free₁) faulty (replicate 5 9) ≡ pack_outcome (reply 4 0) (chamber_with 1) (part_of free₁) (replicate 5 9)
  -- a return refused by check 10, since a free section shares a cell with the box, changes nothing, and hands on the space shared
  shared : return_of (chamber_with 1) (part_of free₁) 1 (box 5 0 0 2 2 1) ≡ with_common (Some (box 6 0 0 1 2 1)) (outcome (reply 10 0) (chamber_with 1) (part_of free₁))
  -- the return answers 0
  back : return_of (chamber_with 1) (part_of free₁) 1 returned-box ≡ with_common None (outcome (reply 0 1) (chamber_with 2) (part_of free₄))
  -- now the group fits: the second pack answers 0
  again : pack_of (chamber_with 2) (part_of free₄) two (replicate 10 9) ≡ pack_outcome (reply 0 0) (chamber_with 3) (part_of free₅) records₅
  -- the long coil fits none of the three free sections: the pack answers 7
  too_long : pack_of (chamber_with 3) (part_of free₅) long (replicate 5 9) ≡ pack_outcome (reply 7 0) (chamber_with 3) (part_of free₅) (replicate 5 0)
  -- a join refused by check 8, since no chamber has the id, changes nothing
  unknown : join_of (chamber_with 3) (part_of free₅) 9 ≡ with_common None (outcome (reply 8 0) (chamber_with 3) (part_of free₅))
  -- the first and the third lie side by side: the join answers 0 with one join
  joined_up_lem : join_of (chamber_with 3) (part_of free₅) 1 ≡ with_common None (outcome (reply 0 1) (chamber_with 2) (part_of free₇))
  -- now the long coil fits
  fits_now : pack_of (chamber_with 2) (part_of free₇) long (replicate 5 9) ≡ pack_outcome (reply 0 0) (chamber_with 1) (part_of free₈) records₈
  -- the boxes placed in chamber 1 after each job
  ledgers :
      ledger₁ 1 ∷ ledger₂ 1 ∷ ledger₃ 1 ∷ ledger₄ 1 ∷ ledger₅ 1 ∷ ledger₆ 1 ∷ ledger₈ 1 ∷ []
      ≡ (returned-box ∷ []) ∷ (returned-box ∷ []) ∷ (returned-box ∷ []) ∷ []
      ∷ (box 0 0 0 4 6 1 ∷ box 6 0 0 4 6 1 ∷ [])
      ∷ (box 0 0 0 4 6 1 ∷ box 6 0 0 4 6 1 ∷ [])
      ∷ (box 0 0 0 4 6 1 ∷ box 6 0 0 4 6 1 ∷ box 0 6 0 10 4 1 ∷ [])
      ∷ []
  still_placed : In returned-box (ledger₃ 1)
  -- the audit accepts the chamber at the end
  accepted : audit_at (hall_of (chamber_with 1) (part_of free₈) ledger₈) 0 ≡ audit.audited (reply 0 0) []
  -- with a box left out of the ledger it would find a gap, and with the returned box still in it a shared cell
  left_out : (audit.audit_of (sides 10 10 1) (all_words (ledger₅ 1)) (all_words free₈)).reply ≡ reply 18 0
  still_in : (audit.audit_of (sides 10 10 1) (all_words (returned-box ∷ ledger₈ 1)) (all_words free₈)).reply ≡ reply 17 1

jobs : Jobs
unfolding lowest any_below picked sum_to tab remove_at put section_at spans_meet overlaps_of common_side common_box common_of in_order sections joined span_inside inside_of
    side_ok volumes six_splits chosen ranks_of best_of best_from later_of better_of fit_checks fit_of larger kept_one kept appended_of insert_by insert_all
    chamber_at chambers_of lengths_ok id_ok shape_ok chamber_ok bad_sections part_at free_at free_of part_of fresh_table fresh_store fresh_of
    chamber_of push_checks return_checks returned return_outcome return_common return_of
    placement_at rect_at bad_rect repeated_id same_group lead_of is_lead share group_volume key_with comes_before earlier group_order groups_of
    place_from place_one place_all place_group order.goes_before order.tried_before order.trial_order seated
    rects_at trial_in first_whole place_groups answer_of dealt pack_groups rect_lengths_ok most_sections no_room rect_checks pack_checks start packing bins_with written pack_of
    placed_in record_box new_boxes places after_pack same_box taken_out after_return
    lent_chambers lent_store three faulty two long returned-box chamber_with free₀ free₁ free₄ free₅ free₇ free₈ records₁ records₅ records₈
    spans_equal spans_touch joins_of joined_side joined_box joins_with joins_later some_join pair_of joined_at join_from join_all
    share_checks join_checks join_done join_outcome join_common join_of
    audit_at audit.audit_boxes audit.box_lists_ok shares_earlier audit.audit_reply audit.audit_common audit.audit_answer audit.shown_of
    audit.audit_of ledger₁ ledger₂ ledger₃ ledger₄ ledger₅ ledger₆ ledger₈
jobs =
    record {
      freshly = refl;
      kept_first = refl;
      refused = refl;
      shared = refl;
      back = refl;
      again = refl;
      too_long = refl;
      unknown = refl;
      joined_up_lem = refl;
      fits_now = refl;
      ledgers = refl;
      still_placed = first;
      accepted = refl;
      left_out = refl;
      still_in = refl;
    }

-- ---- they are a run, so the theorem speaks of it

abbrev end : Hall
end = hall_of (chamber_with 1) (part_of free₈) ledger₈

run : Run end
unfolding ledger₁ ledger₂ ledger₃ ledger₄ ledger₅ ledger₆ ledger₈
run =
    let r₀ : Run (hall_of (chamber_with 1) (part_of free₀) nothing) =
    subst (λ (o : Outcome). Run (hall_of o.chambers o.store nothing)) jobs.freshly
    (fresh lent_chambers lent_store (ap (λ (o : Outcome). o.reply.number) jobs.freshly)) in
    let r₁ : Run (hall_of (chamber_with 1) (part_of free₁) ledger₁) =
    subst (λ (o : PackOutcome). Run (hall_of o.chambers o.store (after_pack o.reply three o.placements nothing))) jobs.kept_first
    (packs r₀ three (replicate 15 9)) in
    let r₂ : Run (hall_of (chamber_with 1) (part_of free₁) ledger₂) =
    subst (λ (o : PackOutcome). Run (hall_of o.chambers o.store (after_pack o.reply faulty o.placements ledger₁))) jobs.refused
    (packs r₁ faulty (replicate 5 9)) in
    let r₃ : Run (hall_of (chamber_with 1) (part_of free₁) ledger₃) =
    subst (λ (o : CommonOutcome). Run (hall_of o.chambers o.store (after_return o.reply 1 (box 5 0 0 2 2 1) ledger₂))) jobs.shared
    (returns r₂ 1 (box 5 0 0 2 2 1) (λ z. absurd (omega (arith, z, ap (λ (o : CommonOutcome). o.reply.number) jobs.shared)))) in
    let r₄ : Run (hall_of (chamber_with 2) (part_of free₄) ledger₄) =
    subst (λ (o : CommonOutcome). Run (hall_of o.chambers o.store (after_return o.reply 1 returned-box ledger₃))) jobs.back
    (returns r₃ 1 returned-box (λ z. jobs.still_placed)) in
    let r₅ : Run (hall_of (chamber_with 3) (part_of free₅) ledger₅) =
    subst (λ (o : PackOutcome). Run (hall_of o.chambers o.store (after_pack o.reply two o.placements ledger₄))) jobs.again
    (packs r₄ two (replicate 10 9)) in
    let r₆ : Run (hall_of (chamber_with 3) (part_of free₅) ledger₆) =
    subst (λ (o : PackOutcome). Run (hall_of o.chambers o.store (after_pack o.reply long o.placements ledger₅))) jobs.too_long
    (packs r₅ long (replicate 5 9)) in
    let r₇ : Run (hall_of (chamber_with 2) (part_of free₇) ledger₆) =
    subst (λ (o : CommonOutcome). Run (hall_of o.chambers o.store ledger₆)) jobs.joined_up_lem
    (joins (subst (λ (o : CommonOutcome). Run (hall_of o.chambers o.store ledger₆)) jobs.unknown (joins r₆ 9)) 1) in
    subst (λ (o : PackOutcome). Run (hall_of o.chambers o.store (after_pack o.reply long o.placements ledger₆))) jobs.fits_now
    (packs r₇ long (replicate 5 9))

accepts : AuditAccepts end
accepts = custody run
