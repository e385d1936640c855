-- Checks 1, 2 and 3, and 8. Fresh makes 1 and 2 without the counts; pack makes all three first; a job on one chamber makes 8 after them.
use Rattle.std.specs.Prelude.{ℕ, zero, suc, ◌*◌, ◌%◌, List, [], ◌∷◌, ◌++◌, Bool, true, ◌&&◌, not, length, ltb, leb, eqb}
use Rattle.lists.specs.Lowest.{any_below}
use Rattle.bin_section.specs.Sides.{sides_ok}
use Rattle.replies.specs.declared.reply.Reply.{Reply}
use Rattle.replies.specs.Replies.{Check, once, each, reply}
use Rattle.sections.specs.Inside.{outside_at}
use Rattle.target_bin.specs.Chambers.{chamber_at, chamber_count, has_id}
use Rattle.target_bin.specs.Store.{part_at}

-- 1: "Chamber record, 5 words", "At most 16", "Store: exactly 768 words a chamber"
unfoldable pub lengths_ok : List ℕ → List ℕ → Bool
lengths_ok chambers store =
    eqb (length chambers % 5) 0
    && (leb (chamber_count chambers) 16 && eqb (length store) (chamber_count chambers * 768))

-- 2: not "chamber id not above its predecessor"; the first has none
unfoldable pub id_ok : List ℕ → ℕ → Bool
id_ok chambers zero = true
id_ok chambers (suc i) = ltb (chamber_at chambers i).id (chamber_at chambers (suc i)).id

-- 2 with "old counts ignored": nor "side 0 or above 65,535"
unfoldable pub shape_ok : List ℕ → ℕ → Bool
shape_ok chambers i = id_ok chambers i && sides_ok (chamber_at chambers i).whd

-- 2: nor "count above 128"
unfoldable pub chamber_ok : List ℕ → ℕ → Bool
chamber_ok chambers i = shape_ok chambers i && leb (chamber_at chambers i).count 128

-- the faulty ones
abbrev pub bad_shape : List ℕ → ℕ → Bool
bad_shape chambers i = not (shape_ok chambers i)

abbrev pub bad_chamber : List ℕ → ℕ → Bool
bad_chamber chambers i = not (chamber_ok chambers i)

-- 3: "a counted section has a zero side or reaches past its chamber"
unfoldable pub bad_sections : List ℕ → List ℕ → ℕ → Bool
bad_sections chambers store i =
    any_below (chamber_at chambers i).count (outside_at (chamber_at chambers i).whd (part_at store i))

-- 1: "a table's length breaks the numbers above"
abbrev pub check1 : List ℕ → List ℕ → Check Reply
check1 chambers store = once (reply 1 0) (not (lengths_ok chambers store))

-- "2 (old counts ignored)"; the detail is the "chamber index"
abbrev pub check2_fresh : List ℕ → Check Reply
check2_fresh chambers = each (reply 2) (chamber_count chambers) (bad_shape chambers)

-- 2: "chamber id not above its predecessor, side 0 or above 65,535, count above 128"
abbrev pub check2 : List ℕ → Check Reply
check2 chambers = each (reply 2) (chamber_count chambers) (bad_chamber chambers)

-- 3: the detail is the "chamber index"
abbrev pub check3 : List ℕ → List ℕ → Check Reply
check3 chambers store = each (reply 3) (chamber_count chambers) (bad_sections chambers store)

-- "Checks go in this order, each over the whole table before the next."
abbrev pub table_checks : List ℕ → List ℕ → List (Check Reply)
table_checks chambers store = check1 chambers store ∷ check2 chambers ∷ check3 chambers store ∷ []

-- 8: "no chamber has the id"
abbrev pub check8 : List ℕ → ℕ → Check Reply
check8 chambers id = once (reply 8 0) (not (any_below (chamber_count chambers) (has_id chambers id)))

-- 1, 2, 3 and 8, with which a job on one chamber begins
abbrev pub known_checks : List ℕ → List ℕ → ℕ → List (Check Reply)
known_checks chambers store id = table_checks chambers store ++ (check8 chambers id ∷ [])
