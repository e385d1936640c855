-- Pack: its checks in their order, and what it leaves in every lent table.
use Rattle.std.specs.Prelude.{ℕ, ◌*◌, ◌%◌, List, [], ◌∷◌, ◌++◌, Bool, ◌&&◌, not, leb, eqb, length, get_or}
use Rattle.lists.specs.Tab.{tab}
use Rattle.replies.specs.declared.reply.Reply.{Reply}
use Rattle.bin_section.specs.declared.section.BinSection.{BinSection}
use Rattle.replies.specs.Replies.{Check, once, each, in_order, reply}
use Rattle.target_bin.specs.declared.chamber.TargetBin.{TargetBin}
use Rattle.target_bin.specs.Chambers.{bin, chamber_at, chamber_count, table_of}
use Rattle.target_bin.specs.Store.{store_of}
use Rattle.target_bin.specs.Checks.{table_checks}
use Rattle.grouped_rects_to_place.specs.Rect.{rect_at, rect_count, rect_width}
use Rattle.placement.specs.Placements.{placement_width}
use Rattle.grouped_rects_to_place.specs.Checks.{bad_rect, repeated_id}
use Rattle.packing_rules.specs.Packing.{Ended, packing, no_room}
use Rattle.rectangle_pack.specs.Records.{placements_of}

-- 1: "Rectangle record, 5 words", "At most 63 in a call", and the placement table is "5 words a rectangle"
unfoldable pub rect_lengths_ok : List ℕ → List ℕ → Bool
rect_lengths_ok rects placements =
    eqb (length rects % rect_width) 0 && (leb (rect_count rects) 63 && eqb (length placements) (rect_count rects * placement_width))

-- "Pack: 1 to 7." The seventh is the packing itself. Check 1 has two halves, the rectangles' tables and the chambers'.
unfoldable pub rect_checks : List ℕ → List ℕ → List (Check Reply)
rect_checks chambers rects =
    each (reply 4) (rect_count rects) (bad_rect (rect_at rects))
    ∷ each (reply 5) (rect_count rects) (repeated_id (rect_at rects))
    ∷ each (reply 6) (chamber_count chambers) (no_room chambers (rect_count rects))
    ∷ []

unfoldable pub pack_checks : List ℕ → List ℕ → List ℕ → List ℕ → List (Check Reply)
pack_checks chambers store rects placements =
    once (reply 1 0) (not (rect_lengths_ok rects placements)) ∷ (table_checks chambers store ++ rect_checks chambers rects)

-- the chamber records, with the counts of the free sections
unfoldable pub bins_with : List ℕ → List (List BinSection) → List TargetBin
bins_with chambers frees =
    tab (chamber_count chambers) (λ k. bin (chamber_at chambers k).id (chamber_at chambers k).whd (length (get_or frees k [])))

pub record PackOutcome : Type 0 where
  pub reply : Reply
  pub chambers : List ℕ
  pub store : List ℕ
  pub placements : List ℕ

abbrev pub pack_outcome : Reply → List ℕ → List ℕ → List ℕ → PackOutcome
pack_outcome answer chambers store placements =
    record { reply = answer; chambers = chambers; store = store; placements = placements }

-- "After pack answers 0 or 7, words past each count are 0 and every placement record is written."
unfoldable pub written : List ℕ → Ended → PackOutcome
written chambers e =
    pack_outcome e.reply (table_of (bins_with chambers e.after.frees)) (store_of e.after.frees) (placements_of e.after.seats)

-- "Every refusal but 7 writes nothing."
unfoldable pub pack_of : List ℕ → List ℕ → List ℕ → List ℕ → PackOutcome
pack_of chambers store rects placements =
    in_order (pack_checks chambers store rects placements) (λ r. pack_outcome r chambers store placements)
    (written chambers (packing chambers store rects))
