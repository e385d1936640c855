-- The theorem: after any run of jobs the audit accepts each chamber.
use Prim.Native.Nat.{ℕ, ◌+◌, ◌*◌, ◌/◌, ◌%◌, ◌≤◌, ◌<◌}
use mathlib.Core.Path.{◌≡◌, refl, sym, ap, ap₂, ◌∙◌, subst}
use mathlib.Core.List.{List, [], ◌++◌}
use mathlib.Core.Bool.{true, ◌&&◌}
use native.Mathlib.Omega.{arith}
use borrow.Author.Tests.{le-leb, eq-eqb}
use lib.Dec.{leb, eqb}
use lib.ListN.{length, take}
use lib.Seq.{length-take-le, take_all, take-take}
use Rattle.lists.proofs.Flags.{and_both}
use Rattle.replies.specs.declared.reply.Reply.{Reply}
use Rattle.bin_section.specs.declared.section.BinSection.{BinSection}
use Rattle.bin_section.specs.declared.width_height_depth.WidthHeightDepth.{WidthHeightDepth}
use Rattle.replies.specs.Replies.{reply}
use Rattle.sections.specs.Common.{common_reply}
use Rattle.cells.specs.Whole.{Whole}
use Rattle.sections.specs.Sections.{sections, all_words}
use Rattle.sections.proofs.Reading.{length-sections, length-all_words, encoded, decoded}
use Rattle.target_bin.specs.Chambers.{chamber_at, chamber_count}
use Rattle.target_bin.specs.Store.{part_at, free_at}
use Rattle.target_bin.proofs.Parts.{length-part_at}
use Rattle.bin_section.proofs.Ranges.{range→sides}
use Rattle.audit.specs.Audit.{boxes_of, audit_boxes, box_lists_ok, audit_common, audit_answer, shown_of, audited_with, audited, audit_of}
use Rattle.audit.proofs.Means.{audit_means}
use Rattle.custody.specs.Run.{Hall, Run, fresh, packs, returns, joins, begun_with, SameChambers, placed_at, free_count, audit_at, AuditAccepts}
use Rattle.custody.proofs.Between.{Good, same_then}
use Rattle.custody.proofs.FreshStep.{fresh_good, fresh_same}
use Rattle.custody.proofs.PackStep.{pack_good, pack_same}
use Rattle.custody.proofs.ReturnStep.{return_good, return_same}
use Rattle.custody.proofs.JoinStep.{join_good, join_same}

-- ---- every step of a run

pub run_good : {hall : Hall} → Run hall → Good hall
run_good (fresh chambers store done) = fresh_good chambers store done
run_good (packs {hall} before rects placements) = pack_good hall (run_good before) rects placements
run_good (returns {hall} before id box there) = return_good hall (run_good before) id box there
run_good (joins {hall} before id) = join_good hall (run_good before) id

-- ---- the audit's words

-- the words of a list of boxes, read again
boxes_again : (boxes : List BinSection) → boxes_of (all_words boxes) ≡ boxes
boxes_again boxes =
    let many : length (all_words boxes) / 6 ≡ length boxes = omega (arith, length-all_words boxes) in
    ap (λ (n : ℕ). sections (all_words boxes) n) many
    ∙ decoded boxes (all_words boxes) (length boxes) refl (take_all (length boxes * 6) (all_words boxes) (omega (arith, length-all_words boxes)))

-- the counted words of a part
module _ (part : List ℕ) (n : ℕ) (fits : n * 6 ≤ length part) where
  counted_long : length (take (n * 6) part) ≡ n * 6
  counted_long = length-take-le (n * 6) part fits

  counted_boxes : boxes_of (take (n * 6) part) ≡ sections part n
  counted_boxes =
      let many : length (take (n * 6) part) / 6 ≡ n = omega (arith, counted_long) in
      ap (λ (k : ℕ). sections (take (n * 6) part) k) many
      ∙ decoded (sections part n) (take (n * 6) part) n (length-sections part n)
      (take-take (n * 6) (n * 6) part (omega arith) ∙ sym (encoded part n fits))

lengths_ok_lem : (p q a b : ℕ) → a ≡ p * 6 → b ≡ q * 6 → p + q ≤ 1024 → box_lists_ok a b ≡ true
unfolding box_lists_ok
lengths_ok_lem p q a b ea eb h =
    and_both (eqb (a % 6) 0) (eqb (b % 6) 0 && leb (a / 6 + b / 6) 1024) (eq-eqb (a % 6) 0 (omega arith))
    (and_both (eqb (b % 6) 0) (leb (a / 6 + b / 6) 1024) (eq-eqb (b % 6) 0 (omega arith)) (le-leb (a / 6 + b / 6) 1024 (omega arith)))

-- an audit that answers 0 shows nothing, and hands on no box
nothing_shown : (whd : WidthHeightDepth) (placed free : List ℕ) → (audit_of whd placed free).reply ≡ reply 0 0 → audit_of whd placed free ≡ audited (reply 0 0) []
unfolding audit_of audit_answer audit_common shown_of
nothing_shown whd placed free e =
    ap (λ (a : Reply). audited_with (common_reply a (audit_common (audit_boxes placed free) a)) (shown_of placed free a)) e

-- ---- the theorem

good_accepted : (f : Hall) → Good f → AuditAccepts f
unfolding audit_at free_at audit_boxes
good_accepted f g =
    record {
      at = λ k h most.
          let whd = (chamber_at f.chambers k).whd in
          let n = free_count f k in
          let part = part_at f.store k in
          let long : length part ≡ 768 = length-part_at f.store k (omega (arith, g.sound_tables.shaped.long)) in
          let few : n ≤ 128 = g.sound_tables.shaped.counted.counts k h in
          let fits : n * 6 ≤ length part = omega arith in
          let same : audit_boxes (all_words (placed_at f k)) (take (n * 6) part) ≡ placed_at f k ++ free_at f.chambers f.store k =
          ap₂ (λ (a b : List BinSection). a ++ b) (boxes_again (placed_at f k)) (counted_boxes part n fits) in
          nothing_shown whd (all_words (placed_at f k)) (take (n * 6) part)
          ((audit_means whd (all_words (placed_at f k)) (take (n * 6) part)
          (lengths_ok_lem (length (placed_at f k)) n (length (all_words (placed_at f k))) (length (take (n * 6) part)) (length-all_words (placed_at f k)) (counted_long part n fits) most)
          (range→sides whd (g.sound_tables.shapes_ok.sides k h))).whole.1
          (subst (λ (bs : List BinSection). Whole whd bs) (sym same) (g.whole k h)));
    }

-- "From fresh chambers, after any packs and returns, refused ones included, with tables untouched in between and each returned box then
-- placed in that chamber, it accepts each chamber's free sections with every box placed there and not yet taken back, up to 1,024
-- boxes." With K5 "the allowed steps become packs, returns and joins".
pub custody : {hall : Hall} → Run hall → AuditAccepts hall
custody {hall} run = good_accepted hall (run_good run)

-- said in cells, with no limit: "each lies inside with no zero side and each unit cell lies in exactly one box"
pub every_cell :
    {hall : Hall} → Run hall
    → (k : ℕ)
    → k < chamber_count hall.chambers
    → Whole (chamber_at hall.chambers k).whd (placed_at hall k ++ free_at hall.chambers hall.store k)
every_cell run k h = (run_good run).whole k h

-- the chambers are those that the run began with
pub chambers_stay : {hall : Hall} (run : Run hall) → SameChambers (begun_with run) hall.chambers
unfolding begun_with
chambers_stay (fresh chambers store done) = fresh_same chambers store done
chambers_stay (packs {hall} before rects placements) = same_then (chambers_stay before) (pack_same hall (run_good before) rects placements)
chambers_stay (returns {hall} before id box there) = same_then (chambers_stay before) (return_same hall (run_good before) id box there)
chambers_stay (joins {hall} before id) = same_then (chambers_stay before) (join_same hall (run_good before) id)
