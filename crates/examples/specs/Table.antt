-- P1 to P12, the examples of room and those of a join: one table, one statement. `Rows` has the words of its rows.
use Rattle.std.specs.Prelude.{◌≡◌, refl, List, [], ◌∷◌, map}
use Rattle.examples.specs.Job.{answered}
use Rattle.examples.specs.Rows.{
  Example,
  ◌gives◌,
  ◌by◌by◌,
  box,
  ◌detail◌,
  chamber,
  ◌free◌,
  tables_of,
  fresh,
  coil,
  ungrouped,
  coils,
  goes,
  waits,
  try,
  split◌ties◌volumes◌appended◌,
  refused_with,
  return,
  returned◌leaving◌,
  returned◌sharing◌leaving◌,
  ◌past◌,
  join,
  joined◌leaving◌,
  joined◌sharing◌leaving◌,
  pack,
  packed◌placements◌leaving◌,
  pack_reply,
  replied,
  audit,
  audited◌shown◌sum◌,
  audited◌sharing◌shown◌sum◌,
}

unfoldable pub table : List Example
table =
    -- P1: "4x5x6 in 10x10x10 at 0: split 1; volumes 600, 200, 80."
    try (4 by 5 by 6) (box 0 0 0 10 10 10)
    gives split 1 ties 1 volumes (600 ∷ 200 ∷ 80 ∷ []) appended (box 4 0 0 6 10 10 ∷ box 0 5 0 4 5 10 ∷ box 0 0 6 4 5 4 ∷ [])
    -- P2: "4x4x1 in 10x10x1: six ties, split 6; appended (0,4,0;10,6,1), then (4,0,0;6,4,1)."
    ∷ try (4 by 4 by 1) (box 0 0 0 10 10 1)
    gives split 6 ties 6 volumes (24 ∷ 60 ∷ 0 ∷ []) appended (box 0 4 0 10 6 1 ∷ box 4 0 0 6 4 1 ∷ [])
    -- P3: "4x4x4 in 4x4x4: no section remains."
    ∷ try (4 by 4 by 4) (box 0 0 0 4 4 4) gives split 6 ties 6 volumes (0 ∷ 0 ∷ 0 ∷ []) appended []
    -- P4: "5x5x5 in 4x4x4: 12."
    ∷ try (5 by 5 by 5) (box 0 0 0 4 4 4) gives refused_with 12
    -- P5: "fresh 10x10x1, ungrouped ids 7 then 3, both 4x4x1: id 3 at 0,0,0, id 7 at 4,0,0; free (0,4,0;10,6,1), (8,0,0;2,4,1)."
    ∷ pack (fresh (chamber 1 (10 by 10 by 1) ∷ [])) (coil 7 ungrouped (4 by 4 by 1) ∷ coil 3 ungrouped (4 by 4 by 1) ∷ [])
    gives packed (0 detail 0) placements (goes 1 4 0 0 ∷ goes 1 0 0 0 ∷ [])
    leaving (chamber 1 (10 by 10 by 1) free (box 0 4 0 10 6 1 ∷ box 8 0 0 2 4 1 ∷ []) ∷ [])
    -- P6: "fresh 10x10x1, ungrouped 10x9x1, 5x5x1, 1x1x1 in that order: 7, detail 1; only the first placed; the third is not tried."
    ∷ pack (fresh (chamber 1 (10 by 10 by 1) ∷ []))
    (coil 1 ungrouped (10 by 9 by 1) ∷ coil 2 ungrouped (5 by 5 by 1) ∷ coil 3 ungrouped (1 by 1 by 1) ∷ [])
    gives packed (7 detail 1) placements (goes 1 0 0 0 ∷ waits ∷ waits ∷ [])
    leaving (chamber 1 (10 by 10 by 1) free (box 0 9 0 10 1 1 ∷ []) ∷ [])
    -- P7: "one group of two 10x6x1, two fresh 10x10x1: 7, nothing placed."
    ∷ pack (fresh (chamber 1 (10 by 10 by 1) ∷ chamber 2 (10 by 10 by 1) ∷ [])) (coil 1 5 (10 by 6 by 1) ∷ coil 2 5 (10 by 6 by 1) ∷ [])
    gives packed (7 detail 0) placements (waits ∷ waits ∷ [])
    leaving (chamber 1 (10 by 10 by 1) free (box 0 0 0 10 10 1 ∷ []) ∷ chamber 2 (10 by 10 by 1) free (box 0 0 0 10 10 1 ∷ []) ∷ [])
    -- P8: "free (0,0,0;10,10,1), return (2,2,0;3,3,1): 10"; the whole box is shared
    ∷ return (tables_of (chamber 1 (10 by 10 by 1) free (box 0 0 0 10 10 1 ∷ []) ∷ [])) 1 (box 2 2 0 3 3 1)
    gives returned (10 detail 0) sharing (box 2 2 0 3 3 1) leaving (chamber 1 (10 by 10 by 1) free (box 0 0 0 10 10 1 ∷ []) ∷ [])
    -- a box that shares only a corner, with the second free section
    ∷ return (tables_of (chamber 1 (10 by 10 by 1) free (box 0 0 0 4 4 1 ∷ box 4 4 0 4 4 1 ∷ []) ∷ [])) 1 (box 6 6 0 4 4 1)
    gives returned (10 detail 1) sharing (box 6 6 0 2 2 1) leaving (chamber 1 (10 by 10 by 1) free (box 0 0 0 4 4 1 ∷ box 4 4 0 4 4 1 ∷ []) ∷ [])
    -- P9: "10x10x1 with no free section, return (8,0,0;5,1,1): 9"
    ∷ return (tables_of (chamber 1 (10 by 10 by 1) free [] ∷ [])) 1 (box 8 0 0 5 1 1)
    gives returned (9 detail 0) leaving (chamber 1 (10 by 10 by 1) free [] ∷ [])
    -- a join of two halves. The words past the chamber's count become 0, the other chamber stays, though its sections would join too
    ∷ join
    (chamber 1 (10 by 10 by 1) free (box 4 0 0 6 10 1 ∷ box 0 0 0 4 10 1 ∷ []) past 9
    ∷ chamber 2 (2 by 1 by 1) free (box 0 0 0 1 1 1 ∷ box 1 0 0 1 1 1 ∷ []) past 9
    ∷ [])
    1
    gives joined (0 detail 1)
    leaving (chamber 1 (10 by 10 by 1) free (box 0 0 0 10 10 1 ∷ []) past 0 ∷ chamber 2 (2 by 1 by 1) free (box 0 0 0 1 1 1 ∷ box 1 0 0 1 1 1 ∷ []) past 9 ∷ [])
    -- two that touch on an edge alone, and one that is less high than its neighbour: no join, but the words past the count become 0
    ∷ join (chamber 1 (10 by 10 by 1) free (box 0 0 0 5 5 1 ∷ box 5 5 0 5 5 1 ∷ box 5 0 0 5 4 1 ∷ []) past 9 ∷ []) 1
    gives joined (0 detail 0) leaving (chamber 1 (10 by 10 by 1) free (box 0 0 0 5 5 1 ∷ box 5 5 0 5 5 1 ∷ box 5 0 0 5 4 1 ∷ []) past 0 ∷ [])
    -- after the second and third were joined the search begins again, and the first joins with them; had it gone on, the fourth would be taken
    ∷ join (chamber 1 (3 by 2 by 1) free (box 0 0 0 2 1 1 ∷ box 0 1 0 1 1 1 ∷ box 1 1 0 1 1 1 ∷ box 2 1 0 1 1 1 ∷ []) past 9 ∷ []) 1
    gives joined (0 detail 2) leaving (chamber 1 (3 by 2 by 1) free (box 0 0 0 2 2 1 ∷ box 2 1 0 1 1 1 ∷ []) past 0 ∷ [])
    -- "the lowest first index": the first with the fourth, before the second with the third
    ∷ join (chamber 1 (3 by 2 by 1) free (box 0 0 0 2 1 1 ∷ box 0 1 0 1 1 1 ∷ box 1 1 0 1 1 1 ∷ box 2 0 0 1 1 1 ∷ []) past 9 ∷ []) 1
    gives joined (0 detail 2) leaving (chamber 1 (3 by 2 by 1) free (box 0 0 0 3 1 1 ∷ box 0 1 0 2 1 1 ∷ []) past 0 ∷ [])
    -- "then the lowest second": the first could join with the second or with the third
    ∷ join (chamber 1 (9 by 9 by 1) free (box 0 0 0 4 4 1 ∷ box 4 0 0 4 4 1 ∷ box 0 4 0 4 4 1 ∷ []) past 9 ∷ []) 1
    gives joined (0 detail 1) leaving (chamber 1 (9 by 9 by 1) free (box 0 0 0 8 4 1 ∷ box 0 4 0 4 4 1 ∷ []) past 0 ∷ [])
    -- 10: the third shares a cell with both before it, and the fourth with the first; the detail is the third's index, and the space is that with the
    -- earliest. 8: no chamber has the id
    ∷ join (chamber 1 (10 by 10 by 1) free (box 0 0 0 5 5 1 ∷ box 5 0 0 5 5 1 ∷ box 4 4 0 2 2 1 ∷ box 0 0 0 1 1 1 ∷ []) past 9 ∷ []) 1
    gives joined (10 detail 2) sharing (box 4 4 0 1 1 1)
    leaving (chamber 1 (10 by 10 by 1) free (box 0 0 0 5 5 1 ∷ box 5 0 0 5 5 1 ∷ box 4 4 0 2 2 1 ∷ box 0 0 0 1 1 1 ∷ []) past 9 ∷ [])
    ∷ join (chamber 1 (2 by 1 by 1) free (box 0 0 0 1 1 1 ∷ box 1 0 0 1 1 1 ∷ []) past 9 ∷ []) 2
    gives joined (8 detail 0) leaving (chamber 1 (2 by 1 by 1) free (box 0 0 0 1 1 1 ∷ box 1 0 0 1 1 1 ∷ []) past 9 ∷ [])
    -- P10: "2x2x1 with (0,0,0;2,1,1) and (0,0,0;1,2,1): 17, detail 1, though the volumes sum to 4."
    ∷ audit (2 by 2 by 1) (box 0 0 0 2 1 1 ∷ box 0 0 0 1 2 1 ∷ []) [] gives audited (17 detail 1) sharing (box 0 0 0 1 1 1) shown (box 0 0 0 1 2 1 ∷ []) sum 4
    ∷ audit (2 by 2 by 1) (box 0 0 0 2 1 1 ∷ []) (box 0 0 0 1 2 1 ∷ []) gives audited (17 detail 1) sharing (box 0 0 0 1 1 1) shown (box 0 0 0 1 2 1 ∷ []) sum 4
    -- a free box that meets both placed ones: the space that it shares with the earliest
    ∷ audit (4 by 2 by 1) (box 0 0 0 2 1 1 ∷ box 2 0 0 2 1 1 ∷ []) (box 1 0 0 2 2 1 ∷ [])
    gives audited (17 detail 2) sharing (box 1 0 0 1 1 1) shown (box 1 0 0 2 2 1 ∷ []) sum 8
    -- one that meets a free box alone
    ∷ audit (4 by 1 by 1) (box 0 0 0 1 1 1 ∷ []) (box 1 0 0 2 1 1 ∷ box 2 0 0 2 1 1 ∷ [])
    gives audited (17 detail 2) sharing (box 2 0 0 1 1 1) shown (box 2 0 0 2 1 1 ∷ []) sum 5
    -- P11: "2x2x1, no boxes: 18."
    ∷ audit (2 by 2 by 1) [] [] gives audited (18 detail 0) shown [] sum 0
    -- the whole example of the audit program; a free box that reaches past the chamber, and a placed one with a zero side before it
    ∷ audit (2 by 2 by 1) (box 0 0 0 1 2 1 ∷ []) (box 1 0 0 1 2 1 ∷ []) gives audited (0 detail 0) shown [] sum 4
    ∷ audit (2 by 2 by 1) (box 0 0 0 1 2 1 ∷ []) (box 1 0 0 2 2 1 ∷ []) gives audited (16 detail 1) shown (box 1 0 0 2 2 1 ∷ []) sum 6
    ∷ audit (2 by 2 by 1) (box 0 0 0 0 2 1 ∷ []) (box 1 0 0 2 2 1 ∷ []) gives audited (16 detail 0) shown (box 0 0 0 0 2 1 ∷ []) sum 4
    -- P12: "no chambers: no rectangles gives 0, one gives 7."
    ∷ pack (tables_of []) [] gives packed (0 detail 0) placements [] leaving []
    ∷ pack (tables_of []) (coil 1 ungrouped (1 by 1 by 1) ∷ []) gives packed (7 detail 0) placements (waits ∷ []) leaving []
    -- "63 rectangles with 2 free pass check 6; with 3 free, reply 6."
    ∷ pack_reply (tables_of (chamber 1 (100 by 1 by 1) free (box 0 0 0 90 1 1 ∷ box 90 0 0 9 1 1 ∷ []) ∷ [])) (coils 63)
    gives replied (0 detail 0)
    ∷ pack_reply (tables_of (chamber 1 (100 by 1 by 1) free (box 0 0 0 90 1 1 ∷ box 90 0 0 9 1 1 ∷ box 99 0 0 1 1 1 ∷ []) ∷ [])) (coils 63)
    gives replied (6 detail 0)
    -- "Side 65,535 passes, 65,536 doesn't."
    ∷ try (65535 by 65535 by 65535) (box 0 0 0 65535 65535 65535) gives split 6 ties 6 volumes (0 ∷ 0 ∷ 0 ∷ []) appended []
    ∷ try (1 by 1 by 1) (box 0 0 0 65536 1 1) gives refused_with 3
    ∷ try (1 by 65536 by 1) (box 0 0 0 1 1 1) gives refused_with 4
    -- the largest boxes that remain, an origin that would wrap in 32 bits, and the order of 3 and 4
    ∷ try (1 by 1 by 1) (box 0 0 0 65535 65535 65535)
    gives split 6 ties 6 volumes (65534 ∷ 4294770690 ∷ 281457797169150 ∷ [])
    appended (box 0 0 1 65535 65535 65534 ∷ box 0 1 0 65535 65534 1 ∷ box 1 0 0 65534 1 1 ∷ [])
    ∷ try (1 by 1 by 1) (box 4294967295 0 0 1 1 1) gives refused_with 3
    ∷ try (0 by 1 by 1) (box 0 0 0 0 1 1) gives refused_with 3
    ∷ []

pub examples_hold : map (λ (e : Example). answered e.job) table ≡ map (λ (e : Example). e.answer) table
unfolding answered fresh coils table
examples_hold = refl
