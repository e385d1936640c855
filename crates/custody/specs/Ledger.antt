-- What an onlooker writes down who sees the lent words and the replies alone: which boxes are placed in each chamber.
use Rattle.std.specs.Prelude.{ℕ, List, [], ◌∷◌, ◌++◌, map, Bool, ◌&&◌, ◌||◌, cond, eqb}
use Rattle.lists.specs.Pick.{picked}
use Rattle.replies.specs.declared.reply.Reply.{Reply}
use Rattle.bin_section.specs.declared.section.BinSection.{BinSection}
use Rattle.bin_section.specs.Section.{section}
use Rattle.grouped_rects_to_place.specs.Rect.{rect_at, rect_count}
use Rattle.placement.specs.Placements.{placement_at}

-- the boxes placed and not yet taken back, under each chamber id
abbrev pub Ledger : Type 0
Ledger = ℕ → List BinSection

-- nothing is placed in fresh chambers
abbrev pub nothing : Ledger
nothing id = []

-- ---- A pack.

-- "Placement record, .. at the rectangle's index: 1 if placed else 0, chamber id, ..": the rectangle is placed in that chamber
unfoldable pub placed_in : List ℕ → ℕ → ℕ → Bool
placed_in placements id i = eqb (placement_at placements i).placed 1 && eqb (placement_at placements i).chamber id

-- "x, y, z" of the record, with the rectangle's sides
unfoldable pub record_box : List ℕ → List ℕ → ℕ → BinSection
record_box rects placements i =
    section (placement_at placements i).x (placement_at placements i).y (placement_at placements i).z (rect_at rects i).whd

-- the boxes that a pack placed in a chamber, in table order
unfoldable pub new_boxes : List ℕ → List ℕ → ℕ → List BinSection
new_boxes rects placements id = map (record_box rects placements) (picked (rect_count rects) (placed_in placements id))

-- a pack places only where it answers 0 or 7
unfoldable pub places : Reply → Bool
places r = eqb r.number 0 || eqb r.number 7

-- the ledger after a pack, from its reply and the placement records that it left
unfoldable pub after_pack : Reply → List ℕ → List ℕ → Ledger → Ledger
after_pack r rects placements ledger id = cond (places r) (ledger id ++ new_boxes rects placements id) (ledger id)

-- ---- A return.

-- the box stands in the list
pub data In (box : BinSection) : List BinSection → Type 0 where
  first : {boxes : List BinSection} → In box (box ∷ boxes)
  later : {other : BinSection} {boxes : List BinSection} → In box boxes → In box (other ∷ boxes)

-- two boxes have the same six words
unfoldable pub same_box : BinSection → BinSection → Bool
same_box a b =
    eqb a.x b.x
    && (eqb a.y b.y
    && (eqb a.z b.z
    && (eqb a.whd.width b.whd.width
    && (eqb a.whd.height b.whd.height
    && eqb a.whd.depth b.whd.depth))))

-- the list with the box taken out once
unfoldable pub taken_out : BinSection → List BinSection → List BinSection
taken_out box [] = []
taken_out box (b ∷ boxes) = cond (same_box b box) boxes (b ∷ taken_out box boxes)

-- the ledger after a return, from its reply: it takes a box back only where it answers 0
unfoldable pub after_return : Reply → ℕ → BinSection → Ledger → Ledger
after_return r at box ledger id = cond (eqb r.number 0 && eqb at id) (taken_out box (ledger id)) (ledger id)
