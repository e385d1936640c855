-- Placing a rectangle leaves at most two sections more: so the store can't overflow past check 6.
use Prim.Native.Nat.{ℕ, suc, ◌+◌, ◌*◌, ◌≤◌}
use mathlib.Core.Path.{◌≡◌, ap}
use mathlib.Core.Logic.{⊎_elim}
use mathlib.Core.List.{List, [], ◌∷◌, ◌++◌}
use mathlib.Core.Bool.{true, false, cond}
use native.Mathlib.Omega.{arith}
use native.Mathlib.Decide.{dec_lt}
use borrow.Author.Tests.{ltb-false}
use lib.Dec.{eqb}
use lib.ListN.{length, get_or, take, length-append, length-take, get_or-eq_default}
use Rattle.lists.specs.Tab.{remove_at}
use Rattle.lists.specs.Sort.{sort_by}
use Rattle.lists.proofs.Lowests.{None}
use Rattle.lists.proofs.Sorts.{length_sort}
use Rattle.lists.proofs.Tabs.{length-remove_at, set_cases}
use Rattle.lists.proofs.Totals.{total}
use Rattle.bin_section.specs.declared.section.BinSection.{BinSection}
use Rattle.bin_section.specs.declared.rect_to_insert.RectToInsert.{RectToInsert}
use Rattle.bin_section.specs.Section.{zero_section}
use Rattle.bin_section.specs.Sides.{volume_of}
use Rattle.sections.proofs.Reading.{length-sections}
use Rattle.try_place.specs.declared.packed_location.PackedLocation.{PackedLocation}
use Rattle.try_place.specs.Try.{chosen_three}
use Rattle.try_place.proofs.Remaining.{chosen_long}
use Rattle.target_bin.specs.Chambers.{chamber_at, chamber_count}
use Rattle.target_bin.specs.Store.{part_at, free_at, free_of}
use Rattle.target_bin.proofs.Parts.{length-free_of, getd_free_of}
use Rattle.grouped_rects_to_place.specs.declared.rect_to_place.RectToPlace.{RectToPlace}
use Rattle.grouped_rects_to_place.specs.Rect.{rect_at, rect_count}
use Rattle.grouped_rects_to_place.specs.Groups.{groups_of}
use Rattle.grouped_rects_to_place.proofs.Sizes.{groups_total}
use Rattle.packing_rules.specs.Appended.{larger, kept_one, kept, appended_of}
use Rattle.packing_rules.specs.Order.{trial_order}
use Rattle.packing_rules.specs.Packing.{trial_in, rects_at, most_sections, no_room, start, packing}
use Rattle.packing_rules.specs.Rules.{placed, place_one, whole, place_group}
use Rattle.packing_rules.proofs.Placings.{Placings, no_more, then, placed_at, group_placings, rects_long}
use Rattle.packing_rules.proofs.Turns.{by_turns}

-- ---- one rectangle

-- at most as many are appended as remain, and three remain
kept_most : (xs : List BinSection) → length (kept xs) ≤ length xs
unfolding kept kept_one
kept_most [] = omega arith
kept_most (b ∷ bs) =
    let h = kept_most bs in
    elim (eqb (volume_of b.whd) 0) as (λ t. length (cond t [] (b ∷ []) ++ kept bs) ≤ suc (length bs)) [ true ↦ omega arith | false ↦ omega arith ]

appended_most : (t : List BinSection) → length (appended_of t) ≤ length t
unfolding appended_of
appended_most t = omega (arith, kept_most (sort_by larger t), length_sort larger t)

-- one section goes and at most three come
one_room : (free : List BinSection) (r : RectToInsert) (l : PackedLocation) (free' : List BinSection) → place_one free r ≡ placed l free' → length free' ≤ length free + 2
one_room free r l free' e =
    let q = placed_at free r l free' e in
    let three = chosen_three (get_or free q.0 zero_section) r in
    omega (
      arith,
      ap length q.1.left,
      length-append (remove_at q.0 free) (appended_of three),
      length-remove_at q.0 free q.1.within,
      appended_most three,
      chosen_long (get_or free q.0 zero_section) r,
    )

-- ---- a group

-- what a group leaves, with n rectangles yet to come
placings_most :
    {free free' : List BinSection} {rs : List RectToInsert} {ls : List PackedLocation} (n : ℕ)
    → Placings free rs ls free'
    → most_sections (length free') n ≤ most_sections (length free) (length rs + n)
unfolding most_sections
placings_most n no_more = omega arith
placings_most n (then {free} {mid} {free'} {r} {rs} {l} e p) = omega (arith, one_room free r l mid e, placings_most n p)

module _ (r : ℕ → RectToPlace) (free : List BinSection) where
  pub group_most :
      (g : List ℕ) (n : ℕ) (ls : List PackedLocation) (free' : List BinSection)
      → place_group free (rects_at r g) ≡ whole ls free'
      → most_sections (length free') n ≤ most_sections (length free) (length g + n)
  group_most g n ls free' e = rw (← (rects_long r g)) (placings_most n (group_placings free (rects_at r g) ls free' e))

  -- however many of them are placed
  pub part_most :
      (g : List ℕ) (i : ℕ) (ls : List PackedLocation) (free' : List BinSection)
      → place_group free (rects_at r (take i g)) ≡ whole ls free'
      → length free' ≤ most_sections (length free) (length g)
  unfolding most_sections
  part_most g i ls free' e = omega (arith, group_most (take i g) 0 ls free' e, length-take i g)

-- fewer rectangles need less
pub most_part : (count m n : ℕ) → m ≤ n → most_sections count m ≤ most_sections count n
unfolding most_sections
most_part count m n h = omega arith

pub most_least : (count n : ℕ) → count ≤ most_sections count n
unfolding most_sections
most_least count n = omega arith

-- ---- the store can't overflow

-- each chamber has room for what the groups that are left can make of it
abbrev Roomy : List (List ℕ) → List (List BinSection) → Type 0
Roomy groups frees = (k : ℕ) → most_sections (length (get_or frees k [])) (total length groups) ≤ 128

-- check 6 leaves that room for all groups, and so no chamber has more than 128 when the packing ends
module _ (chambers store rects : List ℕ) (few : rect_count rects ≤ 63) (room : None (chamber_count chambers) (no_room chambers (rect_count rects))) where
  roomy_start : Roomy (groups_of (rect_count rects) (rect_at rects)) (free_of chambers store)
  unfolding free_at no_room most_sections
  roomy_start k =
      let all = groups_total (rect_count rects) (rect_at rects) in
      elim (dec_lt k (chamber_count chambers)) [
        | yes h ↦ rw (getd_free_of chambers store k [] h)
            (omega (arith, length-sections (part_at store k) (chamber_at chambers k).count, ltb-false 128 ((chamber_at chambers k).count + 2 * rect_count rects) (room.at k h)))
        | no h ↦ rw (get_or-eq_default (free_of chambers store) [] {n = k} (omega (arith, length-free_of chambers store))) (omega arith)
      ]

  -- "Store: .. 128 sections": the store can't overflow past check 6
  pub never_overflows : (k : ℕ) → length (get_or (packing chambers store rects).after.frees k []) ≤ 128
  unfolding packing start trial_in total
  never_overflows k =
      by_turns (trial_order chambers) (λ j. (chamber_at chambers j).id) (rect_at rects)
      (λ groups s e. Roomy groups s.frees → length (get_or e.after.frees k []) ≤ 128)
      (λ s p. omega (arith, p k, most_least (length (get_or s.frees k [])) 0))
      (λ g gs s q p. omega (arith, p k, most_least (length (get_or s.frees k [])) (length g + total length gs)))
      (λ g gs s t ls free' q e rest p.
      rest
      (λ j.
      let here = get_or s.frees (get_or (trial_order chambers) t 0) [] in
      let left = total length gs in
      ⊎_elim (λ f. rw f (omega (arith, p j, most_part (length (get_or s.frees j [])) left (length g + left) (omega arith))))
      (λ f. rw f.1 (omega (arith, p (get_or (trial_order chambers) t 0), group_most (rect_at rects) here g left ls free' e)))
      (set_cases s.frees (get_or (trial_order chambers) t 0) free' j [])))
      (groups_of (rect_count rects) (rect_at rects)) (start chambers store rects) roomy_start
