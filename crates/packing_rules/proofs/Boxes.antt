-- Every placed box lies inside the chamber that its record names, and in a section that was lent as free there.
use Prim.Native.Nat.{ℕ, ◌<◌}
use mathlib.Core.Path.{◌≡◌, sym, ◌∙◌}
use mathlib.Core.Logic.{⊎_elim}
use mathlib.Core.List.{List, []}
use native.Mathlib.Omega.{arith}
use lib.ListN.{get_or}
use Rattle.lists.specs.Sort.{Each}
use Rattle.lists.proofs.Lowests.{None}
use Rattle.lists.proofs.Sorts.{each_map, each_at, each-tab, each_head, each_tail, each_mapped}
use Rattle.lists.proofs.Tabs.{set_cases}
use Rattle.bin_section.specs.declared.section.BinSection.{BinSection}
use Rattle.bin_section.specs.declared.width_height_depth.WidthHeightDepth.{WidthHeightDepth}
use Rattle.bin_section.specs.Section.{section_at}
use Rattle.bin_section.specs.Inside.{Inside}
use Rattle.bin_section.proofs.Ranges.{SidesInRange, range→small}
use Rattle.sections.specs.Sections.{sections}
use Rattle.try_place.specs.Location.{location_box}
use Rattle.try_place.specs.Leaning.{Reachable}
use Rattle.try_place.proofs.Remaining.{BoxWithin}
use Rattle.target_bin.specs.Chambers.{chamber_at, chamber_count}
use Rattle.target_bin.specs.Store.{part_at, free_at}
use Rattle.target_bin.proofs.Parts.{getd_free_of}
use Rattle.target_bin.proofs.Passing.{ShapesSound, SectionsInside}
use Rattle.grouped_rects_to_place.specs.declared.rect_to_place.RectToPlace.{RectToPlace}
use Rattle.grouped_rects_to_place.specs.Checks.{bad_rect}
use Rattle.grouped_rects_to_place.specs.Groups.{groups_of}
use Rattle.grouped_rects_to_place.specs.Rect.{rect_at, rect_count}
use Rattle.grouped_rects_to_place.proofs.Checking.{rects_range}
use Rattle.grouped_rects_to_place.proofs.Sizes.{groups_each}
use Rattle.packing_rules.specs.Order.{trial_order}
use Rattle.packing_rules.specs.Packing.{rects_at, trial_in, State, pack_groups, start, packing}
use Rattle.packing_rules.specs.Promises.{BoxesAre}
use Rattle.packing_rules.proofs.Placings.{group_placings}
use Rattle.packing_rules.proofs.Left.{Sided, placings_free, placings_boxes, inside_reachable, inside_passes}
use Rattle.packing_rules.proofs.Seats.{empty_seat, seated_cases}
use Rattle.packing_rules.proofs.TrialOrders.{trial_below}
use Rattle.packing_rules.proofs.Turns.{by_turns}

pub range→sided : (whd : WidthHeightDepth) → SidesInRange whd → Sided whd
range→sided whd p = omega arith

pub rects_sided : (r : ℕ → RectToPlace) {g : List ℕ} → Each (λ i. Sided (r i).whd) g → Each (λ q. Sided q.whd) (rects_at r g)
unfolding rects_at
rects_sided r vs = each_mapped (λ i. record { whd = (r i).whd }) (λ i v. v) vs

module _
    (n : ℕ)
    (ids : ℕ → ℕ)
    (P : ℕ → BinSection → Type 0)
    (reach : (k : ℕ) → k < n → (s : BinSection) → P k s → Reachable s)
    (passes : (k : ℕ) (s b : BinSection) → P k s → BoxWithin s b → Sided b.whd → P k b)
    (r : ℕ → RectToPlace)
    (order : List ℕ)
    (below : Each (λ k. k < n) order)
  where
    -- a fact of each free section of each chamber, and of each placed box
    record All (s : State) : Type 0 where
      frees_are : (k : ℕ) → k < n → Each (P k) (get_or s.frees k [])
      boxes_are : BoxesAre n ids P s.seats

    all_after : (groups : List (List ℕ)) (s : State) → Each (λ g. Each (λ i. Sided (r i).whd) g) groups → All s → All (pack_groups order ids r groups s).after
    unfolding trial_in
    all_after =
        by_turns order ids r (λ groups s e. Each (λ g. Each (λ i. Sided (r i).whd) g) groups → All s → All e.after)
        (λ s vs a. a)
        (λ g gs s q vs a. a)
        (λ g gs s t ls free q e rest vs a.
        let k = get_or order t 0 in
        let h : k < n = each_at below t 0 q.within in
        let p = group_placings (get_or s.frees k []) (rects_at r g) ls free e in
        let left = placings_free (P k) (reach k h) (passes k) p (a.frees_are k h) in
        let boxes = placings_boxes (P k) (reach k h) (passes k) p (rects_sided r (each_head vs)) (a.frees_are k h) in
        rest (each_tail vs)
        (record {
          frees_are = λ j b. ⊎_elim (λ f. rw f (a.frees_are j b)) (λ f. rw (f.1, f.0) left) (set_cases s.frees k free j []);
          boxes_are = record {
            at = λ i id l f.
                ⊎_elim (λ u. a.boxes_are.at i id l (sym u ∙ f))
                (λ u. let x : id ≡ ids k = cc in let y : u.0 ≡ l = cc in (k, h, x, rw y at u.1))
                (seated_cases (λ m. P k (location_box m)) (ids k) g s.seats i boxes);
          };
        }))

-- ---- of the lent tables

-- a box of the chamber at k: inside it, and in a section that was lent as free there
pub record LentBox (chambers store : List ℕ) (k : ℕ) (b : BinSection) : Type 0 where
  pub inside : Inside (chamber_at chambers k).whd b
  pub section_index : ℕ
  pub counted : section_index < (chamber_at chambers k).count
  pub in_section : BoxWithin (section_at (part_at store k) section_index) b

module _ (chambers store rects : List ℕ) (shapes : ShapesSound chambers) (sections_inside : SectionsInside chambers store) (good : None (rect_count rects) (bad_rect (rect_at rects))) where
  -- every placed box
  pub boxes_lent : BoxesAre (chamber_count chambers) (λ k. (chamber_at chambers k).id) (LentBox chambers store) (packing chambers store rects).after.seats
  unfolding packing start free_at sections
  boxes_lent =
      (all_after (chamber_count chambers) (λ k. (chamber_at chambers k).id) (LentBox chambers store)
      (λ k h s p. inside_reachable (chamber_at chambers k).whd (range→small _ (shapes.sides k h)) s p.inside)
      (λ k s b p w v. record {
        inside = inside_passes (chamber_at chambers k).whd s b p.inside w v;
        section_index = p.section_index;
        counted = p.counted;
        in_section = let q = p.in_section in omega arith;
      })
      (rect_at rects) (trial_order chambers) (trial_below chambers) (groups_of (rect_count rects) (rect_at rects)) (start chambers store rects)
      (each_map
      (λ g p. each_map (λ i h. range→sided _ (rects_range (rect_at rects) (rect_count rects) good i h)) p.1.below)
      (groups_each (rect_count rects) (rect_at rects)))
      (record {
        frees_are = λ k h.
            rw (getd_free_of chambers store k [] h)
            (each-tab (chamber_at chambers k).count (section_at (part_at store k))
            (λ j l. record { inside = sections_inside.inside k j h l; section_index = j; counted = l; in_section = omega arith }));
        boxes_are = record { at = λ i id l e. let z : ◌≡◌ {A = ℕ} 0 1 = cc (empty_seat (rect_count rects) i) in absurd (omega arith) };
      })
      ).boxes_are
