-- What an example shows of each job, by that job's own rules. The `unfolding` lines name what has to be computed; they say nothing else.
use Rattle.std.specs.Prelude.{ℕ, ◌+◌, List, map, cond, eqb, get_or, Option}
use Rattle.lists.specs.Lowest.{lowest, any_below}
use Rattle.lists.specs.Pick.{picked}
use Rattle.lists.specs.Sort.{insert_by, insert_all}
use Rattle.lists.specs.Sum.{sum_to}
use Rattle.lists.specs.Tab.{tab, remove_at, put}
use Rattle.replies.specs.declared.reply.Reply.{Reply}
use Rattle.replies.specs.Replies.{in_order}
use Rattle.bin_section.specs.declared.width_height_depth.WidthHeightDepth.{WidthHeightDepth}
use Rattle.bin_section.specs.declared.section.BinSection.{BinSection}
use Rattle.bin_section.specs.declared.rect_to_insert.RectToInsert.{RectToInsert}
use Rattle.bin_section.specs.Sides.{side_ok, volume_of}
use Rattle.bin_section.specs.Section.{section_at}
use Rattle.bin_section.specs.Overlap.{spans_meet, overlaps_of, common_side, common_box, common_of}
use Rattle.bin_section.specs.Inside.{span_inside, inside_of}
use Rattle.cells.specs.Whole.{volumes}
use Rattle.try_place.specs.declared.choice.Ranked.{Ranked}
use Rattle.try_place.specs.Splits.{six_splits}
use Rattle.try_place.specs.Choice.{chosen, ranks_of, best_of, best_from, later_of, better_of, zero_ranked}
use Rattle.try_place.specs.Try.{span_ok, fit_checks, fit_of, range_checks, try_checks, try_answer, try_of, number_of}
use Rattle.packing_rules.specs.Appended.{larger, kept_one, kept, appended_of}
use Rattle.words.specs.Words.{joined}
use Rattle.sections.specs.Sections.{sections}
use Rattle.sections.specs.Inside.{shares_earlier}
use Rattle.sections.specs.Common.{first_common, earliest_common}
use Rattle.target_bin.specs.Chambers.{chamber_at, chamber_of, chambers_of}
use Rattle.target_bin.specs.Checks.{lengths_ok, id_ok, shape_ok, chamber_ok, bad_sections}
use Rattle.target_bin.specs.Store.{part_at, free_at, free_of, part_of}
use Rattle.target_bin.specs.Outcome as tables
use Rattle.target_bin.specs.Fresh.{fresh_table, fresh_store, fresh_of}
use Rattle.target_bin.specs.Return as ret
use Rattle.neighbours.specs.Neighbour.{spans_equal, spans_touch, joins_of, joined_side, joined_box}
use Rattle.neighbours.specs.Joining.{joins_with, joins_later, some_join, pair_of, joined_at, join_from, join_all}
use Rattle.joins.specs.Join as joining
use Rattle.packing_rules.specs.Rules.{place_from, place_one, place_all, place_group}
use Rattle.grouped_rects_to_place.specs.Rect.{rect_at}
use Rattle.grouped_rects_to_place.specs.Checks.{bad_rect, repeated_id}
use Rattle.grouped_rects_to_place.specs.Groups.{same_group, lead_of, is_lead, share, group_volume, key_with, comes_before, earlier, group_order, groups_of}
use Rattle.packing_rules.specs.Order as order
use Rattle.packing_rules.specs.Seats.{seated, dealt}
use Rattle.packing_rules.specs.Packing.{rects_at, trial_in, first_whole, place_groups, answer_of, pack_groups, most_sections, no_room, start, packing}
use Rattle.rectangle_pack.specs.Pack.{PackOutcome, rect_lengths_ok, rect_checks, pack_checks, bins_with, written, pack_of}
use Rattle.audit.specs.Audit as auditing

-- the chamber table and the store, as words
pub record LentTables : Type 0 where
  pub chambers : List ℕ
  pub store : List ℕ

-- ---- a try

pub record TryShown : Type 0 where
  pub number : ℕ
  -- of a try that is placed: the chosen split, from 1, and how many of the six tie with it, itself counted; else 0
  pub split : ℕ
  pub ties : ℕ
  -- the volumes right, above and behind, and what a pack would append
  pub volumes : List ℕ
  pub appended : List BinSection

-- 1 for a rank that is as good as the chosen one
abbrev pub as_good : List (List BinSection) → Ranked → ℕ
as_good t k = cond (better_of (best_of (ranks_of t)) k) 0 1

unfoldable pub tied : List (List BinSection) → ℕ
unfolding sum_to
tied t = sum_to 6 (λ k. as_good t (get_or (ranks_of t) k zero_ranked))

unfoldable pub try_shown : RectToInsert → BinSection → TryShown
unfolding tied side_ok span_ok in_order fit_checks range_checks try_checks try_answer six_splits chosen ranks_of best_of best_from later_of better_of
    appended_of larger kept_one kept insert_by insert_all
try_shown r s =
    let t = try_of s r in
    let n = number_of t.answer in
    record {
      number = n;
      split = cond (eqb n 0) (chosen (six_splits s r) + 1) 0;
      ties = cond (eqb n 0) (tied (six_splits s r)) 0;
      volumes = map (λ (b : BinSection). volume_of b.whd) t.sections;
      appended = appended_of t.sections;
    }

-- ---- a return, a join and a pack: all that they leave, as the rules say it

unfoldable pub return_shown : LentTables → ℕ → BinSection → tables.CommonOutcome
unfolding lowest any_below put in_order section_at spans_meet overlaps_of common_side common_box common_of span_inside inside_of side_ok joined
    chamber_at lengths_ok id_ok shape_ok chamber_ok bad_sections part_at part_of chamber_of
    ret.push_checks ret.return_checks ret.returned ret.return_outcome ret.return_common ret.return_of
return_shown t id box = ret.return_of t.chambers t.store id box

unfoldable pub join_shown : LentTables → ℕ → tables.CommonOutcome
unfolding lowest any_below tab remove_at put in_order section_at sections spans_meet overlaps_of common_side common_box common_of span_inside inside_of side_ok joined
    chamber_at lengths_ok id_ok shape_ok chamber_ok bad_sections part_at free_at part_of chamber_of shares_earlier first_common earliest_common
    spans_equal spans_touch joins_of joined_side joined_box joins_with joins_later some_join pair_of joined_at join_from join_all
    joining.share_checks joining.join_checks joining.join_done joining.join_outcome joining.join_common joining.join_of
join_shown t id = joining.join_of t.chambers t.store id

unfoldable pub pack_shown : LentTables → List ℕ → List ℕ → PackOutcome
unfolding lowest any_below picked sum_to tab remove_at in_order section_at span_inside inside_of side_ok sections joined
    chamber_at lengths_ok id_ok shape_ok chamber_ok bad_sections part_at free_at free_of part_of
    rect_at bad_rect repeated_id same_group lead_of is_lead share group_volume key_with comes_before earlier group_order groups_of
    fit_checks fit_of six_splits chosen ranks_of best_of best_from later_of better_of appended_of larger kept_one kept insert_by insert_all
    place_from place_one place_all place_group order.goes_before order.tried_before order.trial_order seated
    rects_at trial_in first_whole place_groups answer_of dealt pack_groups rect_lengths_ok most_sections no_room rect_checks pack_checks start packing bins_with written pack_of
pack_shown t rects placements = pack_of t.chambers t.store rects placements

-- of a pack, the reply alone
unfoldable pub reply_shown : LentTables → List ℕ → List ℕ → Reply
unfolding pack_shown
reply_shown t rects placements = (pack_shown t rects placements).reply

-- the tables that fresh leaves
unfoldable pub fresh_shown : LentTables → LentTables
unfolding lowest tab in_order joined chamber_at lengths_ok id_ok shape_ok side_ok chambers_of part_of fresh_table fresh_store fresh_of
fresh_shown t =
    let f = fresh_of t.chambers t.store in
    record { chambers = f.chambers; store = f.store }

-- ---- an audit

pub record AuditShown : Type 0 where
  pub reply : Reply
  pub common : Option BinSection
  -- the words that it shows
  pub shown : List ℕ
  -- what the volumes of all boxes sum to
  pub sum : ℕ

unfoldable pub audit_shown : WidthHeightDepth → List ℕ → List ℕ → AuditShown
unfolding lowest any_below tab in_order section_at spans_meet overlaps_of common_side common_box common_of span_inside inside_of side_ok volumes
    sections auditing.audit_boxes auditing.box_lists_ok shares_earlier first_common earliest_common auditing.audit_reply auditing.audit_common auditing.audit_answer
    auditing.shown_of auditing.audit_of
audit_shown whd placed free =
    let a = auditing.audit_of whd placed free in
    record { reply = a.reply; common = a.common; shown = a.shown; sum = volumes (auditing.audit_boxes placed free) }
