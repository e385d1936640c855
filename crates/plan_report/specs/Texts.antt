-- What the planner's program writes, text by text.
use Rattle.std.specs.Prelude.{ℕ, ◌-◌, List, ◌++◌, map, Bool, ◌||◌, cond, eqb, length, get_or, codes, flat_map, zip, count_by}
use Rattle.replies.specs.declared.reply.Reply.{Reply}
use Rattle.placement.specs.declared.Placement.{Placement}
use Rattle.grouped_rects_to_place.specs.declared.rect_to_place.RectToPlace.{RectToPlace}
use Rattle.plan_list.specs.declared.list.OnLine.{OnLine}
use Rattle.plan_list.specs.declared.list.PlanList.{PlanList}
use Rattle.plan_list.specs.declared.slip.Slip.{Slip}
use Rattle.plan_list.specs.declared.slip.Slip.TheVariants.{Neither, ChamberWords, CoilWords, NoNumber, ManyChambers, ManyCoils, TooLong, NoGroup}
use Rattle.plan_list.specs.declared.slip.SlipAt.{SlipAt}
use Rattle.text.specs.Decimal.{decimal, item}

unfoldable pub line_tag : ℕ → List ℕ
line_tag line = item (codes "line ") line ++ codes ": "

unfoldable pub nothing_placed : List ℕ
nothing_placed = codes "nothing is placed\n"

-- what a slip of the pen is; one that is about a word names it
unfoldable pub slip_text : Slip → List ℕ
slip_text Neither = codes "a line is a chamber or a coil, and begins with that word\n"
slip_text ChamberWords = codes "a chamber is five words: chamber, id, width, height, depth\n"
slip_text CoilWords = codes "a coil is six words: coil, id, group or none, width, height, depth\n"
slip_text (NoNumber word) = item (codes "word ") word ++ codes " is not a number from 0 to 4294967295\n"
slip_text ManyChambers = codes "there are more than 16 chambers\n"
slip_text ManyCoils = codes "there are more than 63 coils\n"
slip_text TooLong = codes "the list is longer than 65536 bytes\n"
slip_text NoGroup = codes "a coil's group is a number from 1 to 4294967295, or none\n"

-- bad text: its line, what is wrong there, and that nothing is placed
unfoldable pub slip_report : SlipAt → List ℕ
slip_report at = line_tag at.line ++ slip_text at.slip ++ nothing_placed

-- what a refusal means
unfoldable pub refusal_text : ℕ → List ℕ
refusal_text number =
    cond (eqb number 2) (codes "the chamber's id is not above the one before it, or a side is not 1 to 65535\n")
    (cond (eqb number 4) (codes "a side of the coil is not 1 to 65535\n")
    (cond (eqb number 5) (codes "the coil's id stands on an earlier line too\n")
    (cond (eqb number 7) (codes "no chamber takes the coil with its whole group; it waits, and so do the groups after it, by falling volume\n")
    (codes "the list can't be packed\n"))))

-- 2, 3 and 6 have the "chamber index" as their detail, the others a rectangle's
abbrev pub names_chamber : ℕ → Bool
names_chamber number = eqb number 2 || (eqb number 3 || eqb number 6)

-- the line of the chamber or the coil at an index, 0 where there is none
abbrev pub line_at : {T : Type 0} → List (OnLine T) → ℕ → ℕ
line_at entries i = get_or (map (λ e. e.line) entries) i 0

-- the line of the list that a refusal points at
unfoldable pub refused_line : PlanList → Reply → ℕ
refused_line list r = cond (names_chamber r.number) (line_at list.chambers.items r.detail) (line_at list.coils.items r.detail)

-- "the number with what it means in words and the line of the list it points at"
unfoldable pub refusal : ℕ → ℕ → List ℕ
refusal line number = line_tag line ++ (item (codes "refused with ") number ++ (codes ": " ++ refusal_text number))

unfoldable pub place_text : ℕ → ℕ → ℕ → List ℕ
place_text x y z = item (codes " at ") x ++ (item (codes " ") y ++ (item (codes " ") z ++ codes "\n"))

-- "where each coil goes, which coils wait": the first word of a placement is 1 where the coil is placed
unfoldable pub goes_to : Placement → List ℕ
goes_to p =
    cond (eqb p.placed 1) (item (codes " goes to chamber ") p.chamber ++ place_text p.x p.y p.z) (codes " waits\n")

-- of a coil
abbrev pub coil_text : ℕ → Placement → List ℕ
coil_text id p = item (codes "coil ") id ++ goes_to p

abbrev pub coil_with : OnLine RectToPlace × Placement → List ℕ
coil_with c = coil_text c.0.item.id c.1

-- of each coil, in the order of the list
unfoldable pub coil_texts : List (OnLine RectToPlace) → List Placement → List ℕ
coil_texts coils placements = flat_map coil_with (zip coils placements)

-- how many coils are placed
abbrev pub is_placed : Placement → Bool
is_placed p = eqb p.placed 1

unfoldable pub placed_count : List Placement → ℕ
placed_count placements = count_by is_placed placements

unfoldable pub summary : List Placement → List ℕ
summary placements =
    let placed = placed_count placements in
    decimal placed ++ (item (codes " placed, ") (length placements - placed) ++ codes " waiting\n")

-- the whole report of a pack: each coil has its line. Every refusal but 7 places nothing.
unfoldable pub pack_report : PlanList → List Placement → Reply → List ℕ
pack_report list placements r =
    let coils = coil_texts list.coils.items placements in
    let line = refused_line list r in
    cond (eqb r.number 0) (coils ++ summary placements)
    (cond (eqb r.number 7) (coils ++ refusal line 7 ++ summary placements)
    (refusal line r.number ++ nothing_placed))
