-- Laws of the placement table: the placements of seats.
use Prim.Native.Nat.{ℕ, zero, suc, ◌*◌, ◌<◌}
use mathlib.Core.Path.{◌≡◌, refl, sym, ap, ◌∙◌}
use mathlib.Core.List.{List, ◌∷◌, map}
use native.Mathlib.Omega.{arith}
use lib.ListN.{length, set, replicate, length-map}
use Rattle.lists.specs.Tab.{put}
use Rattle.lists.proofs.Tabs.{map-set}
use Rattle.words.specs.Words.{joined}
use Rattle.words.proofs.Records.{length-joined, joined-put}
use Rattle.placement.specs.declared.Placement.{Placement}
use Rattle.placement.specs.Placements.{no_placement, placement_width, placement_at, placement_words, placement_table}
use Rattle.placement.specs.Layouts.{placement_layout}
use Rattle.packing_rules.specs.Seats.{Seat, unplaced}
use Rattle.rectangle_pack.specs.Records.{placement_of, placements_of}

pub length_placements : (seats : List Seat) → length (placements_of seats) ≡ length seats * placement_width
length_placements seats =
    length-joined (λ p. placement_words p) placement_width (map placement_of seats) no_placement (λ i h. refl) ∙ ap (λ (n : ℕ). n * placement_width) (length-map seats placement_of)

pub zero_placements : (n : ℕ) → replicate (n * placement_width) 0 ≡ placements_of (replicate n unplaced)
unfolding joined
zero_placements zero = refl
zero_placements (suc n) =
    let e : suc n * placement_width ≡ suc (suc (suc (suc (suc (n * placement_width))))) = omega arith in
    rw e (ap (λ (l : List ℕ). 0 ∷ 0 ∷ 0 ∷ 0 ∷ 0 ∷ l) (zero_placements n))

-- one rectangle more takes its seat
pub placements_put : (seats : List Seat) (i : ℕ) (s : Seat) → i < length seats → put (placements_of seats) (i * placement_width) (placement_words (placement_of s)) ≡ placements_of (set seats i s)
placements_put seats i s h =
    joined-put placement_width placement_at (λ p. placement_words p) placement_layout (map placement_of seats) i (placement_of s) (omega (arith, length-map seats placement_of))
    ∙ ap (λ (l : List Placement). placement_table l) (sym (map-set placement_of seats i s))
