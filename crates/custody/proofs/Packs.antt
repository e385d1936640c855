-- The packing of the groups keeps each cell: in each chamber what was free is free still, or lies in the box of a rectangle seated there.
use Prim.Native.Nat.{ℕ, ◌+◌, ◌<◌}
use mathlib.Core.Path.{◌≡◌, refl, sym, ap, ◌∙◌}
use mathlib.Core.Logic.{◌⊎◌, inl, inr}
use mathlib.Core.List.{List, []}
use native.Mathlib.Nat.{mul-zero}
use native.Mathlib.Decide.{ℕ_discrete}
use native.Mathlib.Omega.{arith}
use borrow.Author.Tests.{eq-eqb, ne_eqb}
use lib.ListN.{length, get_or, set, replicate, length-set, length-replicate, get_or-replicate}
use lib.Seq.{get_or-set_same, get_or-set_other}
use Rattle.lists.specs.Sort.{Each, EachTwo}
use Rattle.lists.proofs.Sorts.{each_map, each_both, each_at, each_head, each_tail, two_head, two_tail}
use Rattle.lists.proofs.Sums.{sum_all}
use Rattle.bin_section.specs.declared.section.BinSection.{BinSection}
use Rattle.bin_section.specs.declared.width_height_depth.WidthHeightDepth.{WidthHeightDepth}
use Rattle.bin_section.specs.Leaning.{Small}
use Rattle.cells.specs.Whole.{Inside}
use Rattle.cells.proofs.Grid.{has}
use Rattle.cells.proofs.Held.{held}
use Rattle.grouped_rects_to_place.specs.declared.rect_to_place.RectToPlace.{RectToPlace}
use Rattle.grouped_rects_to_place.proofs.Sizes.{Disjoint}
use Rattle.packing_rules.specs.Rules.{whole, place_group}
use Rattle.try_place.specs.declared.packed_location.PackedLocation.{PackedLocation}
use Rattle.packing_rules.specs.Seats.{unplaced, seated}
use Rattle.packing_rules.specs.Packing.{State, state, rects_at, trial_in, Ended, pack_groups}
use Rattle.packing_rules.proofs.Boxes.{rects_sided}
use Rattle.packing_rules.proofs.Left.{Sided}
use Rattle.packing_rules.proofs.Placings.{group_placings, group_long}
use Rattle.packing_rules.proofs.Seating.{Waiting, still_waiting}
use Rattle.packing_rules.proofs.Seats.{length-seated}
use Rattle.packing_rules.proofs.Turns.{by_turns}
use Rattle.custody.proofs.Placements.{boxes_at, CellsKept, group_kept}
use Rattle.lists.proofs.Totals.{total}
use Rattle.custody.proofs.Totals.{strays, none_strays}
use Rattle.custody.proofs.Seating.{seat_weight, seat_total, no_weight, seated_adds}

-- what stands in each chamber: m chambers with their ids and sides, n rectangles, the free sections at the start, and a state
pub record Conserved (m n : ℕ) (ids : ℕ → ℕ) (whds : ℕ → WidthHeightDepth) (r : ℕ → RectToPlace) (frees₀ : List (List BinSection)) (s : State) : Type 0 where
  pub frees_long : length s.frees ≡ m
  pub seats_long : length s.seats ≡ n
  pub cells : (k : ℕ) → k < m → (cx cy cz : ℕ) → seat_total (λ b. has b cx cy cz) r n (ids k) s.seats + held (get_or s.frees k []) cx cy cz ≡ held (get_or frees₀ k []) cx cy cz
  pub placed_inside : (k : ℕ) → k < m → seat_total (strays (whds k)) r n (ids k) s.seats ≡ 0
  pub free_in : (k : ℕ) → k < m → Each (Inside (whds k)) (get_or s.frees k [])

-- the packing has ended so: with each cell where it was or in a box placed, and with 0 or 7
pub record Finished (m n : ℕ) (ids : ℕ → ℕ) (whds : ℕ → WidthHeightDepth) (r : ℕ → RectToPlace) (frees₀ : List (List BinSection)) (e : Ended) : Type 0 where
  pub conserved : Conserved m n ids whds r frees₀ e.after
  pub number : (e.reply.number ≡ 0) ⊎ (e.reply.number ≡ 7)

-- ---- the start

module _ (m n : ℕ) (ids : ℕ → ℕ) (whds : ℕ → WidthHeightDepth) (r : ℕ → RectToPlace) (frees₀ : List (List BinSection)) where
  empty_total : (w : BinSection → ℕ) (id : ℕ) → seat_total w r n id (replicate n unplaced) ≡ 0
  unfolding seat_total
  empty_total w id =
      sum_all n 0 (λ i. seat_weight w id (r i).whd (get_or (replicate n unplaced) i unplaced))
      (λ i h. ap (seat_weight w id (r i).whd) (get_or-replicate n i unplaced unplaced h) ∙ no_weight w id (r i).whd)
      ∙ mul-zero n

  pub start_conserved : length frees₀ ≡ m → ((k : ℕ) → k < m → Each (Inside (whds k)) (get_or frees₀ k [])) → Conserved m n ids whds r frees₀ (state frees₀ (replicate n unplaced))
  start_conserved long ins =
      record {
        frees_long = long;
        seats_long = length-replicate n unplaced;
        cells = λ k h cx cy cz. omega (arith, empty_total (λ b. has b cx cy cz) (ids k));
        placed_inside = λ k h. empty_total (strays (whds k)) (ids k);
        free_in = ins;
      }

module _
    (m n : ℕ) (ids : ℕ → ℕ) (whds : ℕ → WidthHeightDepth) (r : ℕ → RectToPlace) (frees₀ : List (List BinSection))
    (one_index : (j k : ℕ) → j < m → k < m → ids j ≡ ids k → j ≡ k)
    (small : (k : ℕ) → k < m → Small (whds k))
    (sided : (i : ℕ) → i < n → Sided (r i).whd) where
  -- ---- one group is served in chamber k

  module _
      (s : State) (g : List ℕ) (k : ℕ) (ls : List PackedLocation) (free' : List BinSection)
      (p : Conserved m n ids whds r frees₀ s) (low : k < m) (waits : Waiting s.seats g)
      (placing : place_group (get_or s.frees k []) (rects_at r g) ≡ whole ls free') where
    kept : CellsKept (whds k) (get_or s.frees k []) (boxes_at (rects_at r g) ls) free'
    kept =
        group_kept (whds k) (small k low) (p.free_in k low)
        (rects_sided r (each_map (λ i h. sided i (omega (arith, p.seats_long))) waits.below))
        (group_placings (get_or s.frees k []) (rects_at r g) ls free' placing)

    same_length : length ls ≡ length g
    same_length = group_long r (get_or s.frees k []) g ls free' placing

    free_here : get_or (set s.frees k free') k [] ≡ free'
    free_here = get_or-set_same s.frees k free' [] (omega (arith, p.frees_long))

    free_there : (j : ℕ) → (j ≡ k → ⊥) → get_or (set s.frees k free') j [] ≡ get_or s.frees j []
    free_there j ne = get_or-set_other s.frees k j free' [] ne

    added : (w : BinSection → ℕ) → seat_total w r n (ids k) (seated (ids k) g ls s.seats) ≡ seat_total w r n (ids k) s.seats + total w (boxes_at (rects_at r g) ls)
    added w =
        seated_adds r n w (ids k) (ids k) g ls s.seats p.seats_long same_length waits ∙ rw (eq-eqb (ids k) (ids k) refl)

    unmoved : (w : BinSection → ℕ) (j : ℕ) → j < m → (j ≡ k → ⊥) → seat_total w r n (ids j) (seated (ids k) g ls s.seats) ≡ seat_total w r n (ids j) s.seats
    unmoved w j h ne =
        seated_adds r n w (ids j) (ids k) g ls s.seats p.seats_long same_length waits
        ∙ rw (ne_eqb (ids k) (ids j) (λ q. ne (one_index j k h low (sym q)))) (omega arith)

    cells_at : (j : ℕ) → j < m → Dec (j ≡ k) → (cx cy cz : ℕ) → seat_total (λ b. has b cx cy cz) r n (ids j) (seated (ids k) g ls s.seats) + held (get_or (set s.frees k free') j []) cx cy cz ≡ held (get_or frees₀ j []) cx cy cz
    cells_at j h (yes q) cx cy cz =
        rw q
        (omega (
          arith,
          added (λ b. has b cx cy cz),
          kept.cells cx cy cz,
          p.cells k low cx cy cz,
          ap (λ (f : List BinSection). held f cx cy cz) free_here,
        ))
    cells_at j h (no ne) cx cy cz =
        omega (arith, unmoved (λ b. has b cx cy cz) j h ne, p.cells j h cx cy cz, ap (λ (f : List BinSection). held f cx cy cz) (free_there j ne))

    placed_at : (j : ℕ) → j < m → Dec (j ≡ k) → seat_total (strays (whds j)) r n (ids j) (seated (ids k) g ls s.seats) ≡ 0
    placed_at j h (yes q) = rw q (omega (arith, added (strays (whds k)), none_strays (whds k) kept.placed_inside, p.placed_inside k low))
    placed_at j h (no ne) = omega (arith, unmoved (strays (whds j)) j h ne, p.placed_inside j h)

    free_at_lem : (j : ℕ) → j < m → Dec (j ≡ k) → Each (Inside (whds j)) (get_or (set s.frees k free') j [])
    free_at_lem j h (yes q) = rw (q, free_here) kept.free_in
    free_at_lem j h (no ne) = rw (free_there j ne) (p.free_in j h)

    group_conserved : Conserved m n ids whds r frees₀ (state (set s.frees k free') (seated (ids k) g ls s.seats))
    group_conserved =
        record {
          frees_long = length-set s.frees k free' ∙ p.frees_long;
          seats_long = length-seated (ids k) g ls s.seats ∙ p.seats_long;
          cells = λ j h. cells_at j h (ℕ_discrete j k);
          placed_inside = λ j h. placed_at j h (ℕ_discrete j k);
          free_in = λ j h. free_at_lem j h (ℕ_discrete j k);
        }

  -- ---- all groups

  pub groups_conserved :
      (order : List ℕ) → Each (λ k. k < m) order → (groups : List (List ℕ)) (s : State)
      → Conserved m n ids whds r frees₀ s
      → Each (Waiting s.seats) groups
      → EachTwo Disjoint groups
      → Finished m n ids whds r frees₀ (pack_groups order ids r groups s)
  unfolding trial_in
  groups_conserved order low =
      by_turns order ids r
      (λ groups s e. Conserved m n ids whds r frees₀ s → Each (Waiting s.seats) groups → EachTwo Disjoint groups → Finished m n ids whds r frees₀ e)
      (λ s p ws ds. record { conserved = p; number = inl refl })
      (λ g gs s q p ws ds. record { conserved = p; number = inr refl })
      (λ g gs s t ls free q e rest p ws ds.
      let k = get_or order t 0 in
      rest (group_conserved s g k ls free p (each_at low t 0 q.within) (each_head ws) e)
      (each_map (λ h u. still_waiting (ids k) ls s.seats g h u.0 u.1) (each_both (two_head ds) (each_tail ws))) (two_tail ds))
