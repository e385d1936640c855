-- Every section that is left after a placement ends at 65,535 at most, as those before did.
use Prim.Native.Nat.{ℕ}
use mathlib.Core.Path.{◌≡◌}
use mathlib.Core.List.{List}
use native.Mathlib.Omega.{arith}
use Rattle.lists.specs.Sort.{Each}
use Rattle.lists.proofs.Sorts.{each_at, each-tab}
use Rattle.bin_section.specs.declared.rect_to_insert.RectToInsert.{RectToInsert}
use Rattle.bin_section.specs.Section.{section_at, zero_section}
use Rattle.sections.specs.Sections.{sections}
use Rattle.sections.proofs.Reading.{length-sections, getd_sections}
use Rattle.try_place.specs.declared.packed_location.PackedLocation.{PackedLocation}
use Rattle.try_place.specs.Leaning.{Reachable}
use Rattle.try_place.proofs.Remaining.{within_reachable}
use Rattle.packing_rules.specs.Rules.{placed, place_one}
use Rattle.packing_rules.proofs.Left.{one_left}
use Rattle.placing.specs.Leaning.{Reaching}

pub reaching_each : (n : ℕ) (w : List ℕ) → Reaching n w → Each Reachable (sections w n)
unfolding sections
reaching_each n w p = each-tab n (section_at w) p.at

pub each_reaching : (n : ℕ) (w : List ℕ) → Each Reachable (sections w n) → Reaching n w
each_reaching n w p =
    record { at = λ i h. rw (getd_sections w n i zero_section h) at (each_at p i zero_section (omega (arith, length-sections w n))) }

pub still_reaching :
    (count n : ℕ) (r : RectToInsert) (l : PackedLocation) (w w' : List ℕ)
    → Reaching count w
    → placed l (sections w' n) ≡ place_one (sections w count) r
    → Reaching n w'
still_reaching count n r l w w' p e =
    each_reaching n w'
    (one_left Reachable (λ s q. q) (λ s b q v d. within_reachable s b q v) (sections w count) r l (sections w' n) (cc) (reaching_each count w p))
