-- What one placement leaves, at both its ends.
use Prim.Native.Nat.{ℕ, ◌+◌, ◌*◌, ◌-◌, ◌≤◌}
use mathlib.Core.Path.{◌≡◌, refl, sym, ap}
use mathlib.Core.List.{List, ◌++◌}
use mathlib.Core.Bool.{false}
use native.Mathlib.Omega.{arith}
use lib.ListN.{length, length-append}
use Rattle.std.proofs.Common.{Option, Some, None, is_some}
use Rattle.lists.specs.Tab.{remove_at}
use Rattle.lists.proofs.Flags.{true_false}
use Rattle.lists.proofs.Tabs.{length-remove_at}
use Rattle.bin_section.specs.declared.rect_to_insert.RectToInsert.{RectToInsert}
use Rattle.bin_section.specs.Section.{section_at}
use Rattle.sections.specs.Sections.{sections}
use Rattle.sections.proofs.Reading.{length-sections}
use Rattle.try_place.specs.declared.packed_location.PackedLocation.{PackedLocation}
use Rattle.try_place.specs.Location.{location_in}
use Rattle.try_place.specs.Try.{chosen_three}
use Rattle.packing_rules.specs.Appended.{appended_of}
use Rattle.packing_rules.specs.Rules.{One, nowhere, placed, place_one}
use Rattle.placing.specs.Leaning.{is_somewhere, Taken, TakenAt, RoomAfter, PlacedOne}

-- ---- the search

pub not_placed : (o : One) → is_somewhere o ≡ false → o ≡ nowhere
not_placed nowhere e = refl
not_placed (placed l free) e = absurd (true_false e)

pub taken_told : (count : ℕ) (r : RectToInsert) (found : Option ℕ) (w : List ℕ) → TakenAt count r found w → is_some found ≡ is_somewhere (place_one (sections w count) r)
taken_told count r (Some i) w taken = sym (ap is_somewhere taken.here)
taken_told count r None w none = sym (ap is_somewhere none)

-- ---- the placement

pub placed_nowhere : (count : ℕ) (r : RectToInsert) (w : List ℕ) → place_one (sections w count) r ≡ nowhere → PlacedOne count r None w w
placed_nowhere count r w e = record { answer = sym e; none = λ z. refl }

module _ (count : ℕ) (r : RectToInsert) (i : ℕ) (w : List ℕ) (taken : Taken count r i w) where
  pub placed_room : RoomAfter count r w → (count - 1 + length (appended_of (chosen_three (section_at w i) r))) * 6 ≤ length w
  placed_room room =
      omega (
        arith,
        room.at _ _ taken.here,
        taken.within,
        length-append (remove_at i (sections w count)) (appended_of (chosen_three (section_at w i) r)),
        length-remove_at i (sections w count) (omega (arith, taken.within, length-sections w count)),
        length-sections w count,
      )

  pub placed_here :
      (w' : List ℕ) (n : ℕ) (l : PackedLocation)
      → l ≡ location_in (section_at w i) r
      → sections w' n ≡ remove_at i (sections w count) ++ appended_of (chosen_three (section_at w i) r)
      → PlacedOne count r (Some (record { location = l; count = n })) w w'
  placed_here w' n l at q =
      let e : placed l (sections w' n) ≡ place_one (sections w count) r = rw (at, q) (sym taken.here) in
      record { answer = e; none = λ z. let y : ◌≡◌ {A = ℕ} 0 1 = cc in absurd (omega arith) }
