-- A list packed: fresh chambers, then the pack.
use Rattle.std.specs.Prelude.{ℕ, ◌*◌, List, cond, eqb, length, replicate}
use Rattle.words.specs.Words.{joined}
use Rattle.target_bin.specs.declared.chamber.TargetBin.{TargetBin}
use Rattle.target_bin.specs.Chambers.{bin_words}
use Rattle.target_bin.specs.Outcome.{Outcome}
use Rattle.target_bin.specs.Fresh.{fresh_of}
use Rattle.grouped_rects_to_place.specs.declared.rect_to_place.RectToPlace.{RectToPlace}
use Rattle.grouped_rects_to_place.specs.Rect.{rect_words}
use Rattle.placement.specs.Placements.{placement_width}
use Rattle.rectangle_pack.specs.Pack.{PackOutcome, pack_outcome, pack_of}
use Rattle.plan_list.specs.declared.list.OnLine.{OnLine}
use Rattle.plan_list.specs.declared.list.PlanList.{PlanList}

-- the pack, where the chambers could be made fresh; else the refusal of fresh
unfoldable pub packed_after : Outcome → List ℕ → List ℕ → PackOutcome
packed_after f coils placements =
    cond (eqb f.reply.number 0) (pack_of f.chambers f.store coils placements)
    (pack_outcome f.reply f.chambers f.store placements)

unfoldable pub pack_fresh : List ℕ → List ℕ → List ℕ → List ℕ → PackOutcome
pack_fresh chambers store coils placements = packed_after (fresh_of chambers store) coils placements

-- the tables of a list, a record an entry: "id, width, height, depth, free count" and "id, group (0 for none), width, height, depth"
abbrev pub chamber_table : List (OnLine TargetBin) → List ℕ
chamber_table chambers = joined (λ c. bin_words c.item) chambers

abbrev pub coil_table : List (OnLine RectToPlace) → List ℕ
coil_table coils = joined (λ c. rect_words c.item) coils

-- of a list, with tables of the lengths that it asks for
unfoldable pub packed_list : PlanList → PackOutcome
packed_list l =
    pack_fresh (chamber_table l.chambers.items) (replicate (length l.chambers.items * 768) 0) (coil_table l.coils.items)
    (replicate (length l.coils.items * placement_width) 0)
