-- Laws of a group that is placed rectangle by rectangle: the first i are placed, or one of them stops the trial.
use Prim.Native.Nat.{ℕ, ◌+◌, ◌≤◌, ◌<◌}
use mathlib.Core.Path.{◌≡◌, refl, sym, ap, ◌∙◌}
use mathlib.Core.List.{List, [], ◌∷◌, ◌++◌, map}
use native.Mathlib.Numerals.{add-one}
use native.Mathlib.Omega.{arith}
use lib.ListN.{length, get_or, take, drop, take-append-drop, length-map}
use lib.Seq.{take-suc, take-length}
use Rattle.std.proofs.Common.{Some, None}
use Rattle.lists.specs.Tab.{tab}
use Rattle.lists.proofs.Tabs.{tab_suc}
use Rattle.bin_section.specs.Section.{section_at}
use Rattle.sections.specs.Sections.{sections}
use Rattle.sections.specs.Leaning.{Appended}
use Rattle.sections.proofs.Reading.{length-sections}
use Rattle.try_place.specs.declared.packed_location.PackedLocation.{PackedLocation}
use Rattle.grouped_rects_to_place.specs.Rect.{rect_at}
use Rattle.packing_rules.specs.Rules.{nowhere, place_one, stops, whole, after_one, place_all, place_group}
use Rattle.packing_rules.specs.Packing.{rects_at}
use Rattle.try_place.specs.Location.{location_box}
use Rattle.packing_rules.proofs.Placings.{trial_more, trial_stops}
use Rattle.placing.specs.declared.place.PlacedRect.{PlacedRect}
use Rattle.placing.specs.Leaning.{Reaching, RoomAfter, PlacedOne, rect_in, RoomThrough}
use Rattle.placing.specs.Step.{as_location, locations_in}
use Rattle.placing.proofs.Reaches.{still_reaching}

-- ---- the table of locations

pub length_locations : (w : List ℕ) (n : ℕ) → length (locations_in w n) ≡ n
unfolding locations_in
length_locations w n = length-map (sections w n) as_location ∙ length-sections w n

map-append : {A B : Type 0} (f : A → B) (xs ys : List A) → map f (xs ++ ys) ≡ map f xs ++ map f ys
map-append f [] ys = refl
map-append f (x ∷ xs) ys = ap (λ l. f x ∷ l) (map-append f xs ys)

pub locations_more : (w w' : List ℕ) (n : ℕ) (l : PackedLocation) → Appended n (location_box l) w w' → locations_in w' (n + 1) ≡ locations_in w n ++ (l ∷ [])
unfolding locations_in
locations_more w w' n l a = ap (map as_location) a.free ∙ map-append as_location (sections w n) (location_box l ∷ [])

pub locations_next : (w : List ℕ) (n : ℕ) → locations_in w (n + 1) ≡ locations_in w n ++ (as_location (section_at w n) ∷ [])
unfolding locations_in sections
locations_next w n = rw (add-one, tab_suc n (section_at w)) (map-append as_location (tab n (section_at w)) (section_at w n ∷ []))

-- ---- the first i rectangles of the group are placed

pub record Placing (rects group : List ℕ) (count : ℕ) (w₀ table₀ : List ℕ) (i left : ℕ) (w table : List ℕ) : Type 0 where
  pub most : i ≤ length group
  pub so_far : place_group (sections w₀ count) (rects_at (rect_at rects) (take i group)) ≡ whole (locations_in table i) (sections w left)
  pub long : length w ≡ length w₀
  pub table_long : length table ≡ length table₀
  pub reach : Reaching left w

module _ (rects group : List ℕ) (count : ℕ) (w₀ table₀ : List ℕ) where
  pub placing_none : Reaching count w₀ → Placing rects group count w₀ table₀ 0 count w₀ table₀
  unfolding place_group place_all rects_at locations_in sections tab
  placing_none reach = record { most = omega arith; so_far = refl; long = refl; table_long = refl; reach = reach }

  module _ (i left : ℕ) (w table : List ℕ) (p : Placing rects group count w₀ table₀ i left w table) where
    module _ (h : i < length group) where
      all_next :
          place_group (sections w₀ count) (rects_at (rect_at rects) (take (i + 1) group))
          ≡ after_one (locations_in table i) (sections w left) (place_one (sections w left) (rect_in rects (get_or group i 0)))
      unfolding place_group
      all_next = rw (add-one, take-suc group i 0 h, trial_more, p.so_far)

      -- room for one more
      pub room_next : RoomThrough count (rect_at rects) group w₀ → RoomAfter left (rect_in rects (get_or group i 0)) w
      room_next room =
          record {
            here = omega (arith, room.at i _ _ p.so_far, length-sections w left, p.long);
            at = λ l free e.
                omega (arith, room.at (i + 1) _ free (all_next ∙ ap (after_one (locations_in table i) (sections w left)) e), p.long);
          }

      pub placing_more :
          (q : PlacedRect) (w' table' : List ℕ)
          → length w' ≡ length w
          → length table' ≡ length table
          → PlacedOne left (rect_in rects (get_or group i 0)) (Some q) w w'
          → locations_in table' (i + 1) ≡ locations_in table i ++ (q.location ∷ [])
          → Placing rects group count w₀ table₀ (i + 1) q.count w' table'
      placing_more q w' table' lw lt d f =
          record {
            most = omega arith;
            so_far = all_next ∙ ap (after_one (locations_in table i) (sections w left)) (sym d.answer) ∙ ap (λ (ls : List PackedLocation). whole ls (sections w' q.count)) (sym f);
            long = lw ∙ p.long;
            table_long = lt ∙ p.table_long;
            reach = still_reaching left q.count (rect_in rects (get_or group i 0)) q.location w w' p.reach d.answer;
          }

      -- this rectangle stops the trial of the whole group, and the copy stays as it is
      pub placing_stops :
          (w' : List ℕ)
          → PlacedOne left (rect_in rects (get_or group i 0)) None w w'
          → stops i (sections w' left) ≡ place_group (sections w₀ count) (rects_at (rect_at rects) group)
      unfolding place_group
      placing_stops w' d =
          let a : nowhere ≡ place_one (sections w left) (rect_in rects (get_or group i 0)) = d.answer in
          let s : place_group (sections w₀ count) (rects_at (rect_at rects) (take (i + 1) group)) ≡ stops i (sections w left) =
          all_next
          ∙ ap (after_one (locations_in table i) (sections w left)) (sym a)
          ∙ ap (λ (k : ℕ). stops k (sections w left)) (length_locations table i) in
          rw (d.none (sym a))
          (sym (rw (take-append-drop (i + 1) group) at (trial_stops (rect_at rects) (whole [] (sections w₀ count)) i (sections w left) (take (i + 1) group) (drop (i + 1) group) s)))

    pub placing_all :
        length group ≤ i
        → whole (locations_in table (length group)) (sections w left) ≡ place_group (sections w₀ count) (rects_at (rect_at rects) group)
    placing_all h =
        let e : i ≡ length group = omega (arith, p.most) in
        sym (rw (e, take-length) at p.so_far)
