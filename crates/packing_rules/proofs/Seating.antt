-- A group is whole in one chamber or nowhere.
use Prim.Native.Nat.{ℕ, ◌<◌}
use mathlib.Core.Path.{◌≡◌, refl, sym, ◌∙◌}
use mathlib.Core.List.{List, []}
use native.Mathlib.Omega.{arith}
use lib.ListN.{length, get_or, replicate, length-replicate}
use Rattle.lists.specs.Sort.{Each, none, also, EachTwo}
use Rattle.lists.proofs.Sorts.{each_map, each_both, each_head, each_tail, each_swap, two_head, two_tail}
use Rattle.try_place.specs.declared.packed_location.PackedLocation.{PackedLocation}
use Rattle.target_bin.specs.Chambers.{chamber_at}
use Rattle.grouped_rects_to_place.specs.declared.rect_to_place.RectToPlace.{RectToPlace}
use Rattle.grouped_rects_to_place.specs.Rect.{rect_at, rect_count}
use Rattle.grouped_rects_to_place.specs.Groups.{groups_of}
use Rattle.grouped_rects_to_place.proofs.Sizes.{groups_each, Disjoint, groups_disjoint}
use Rattle.packing_rules.specs.Order.{trial_order}
use Rattle.packing_rules.specs.Seats.{Seat, unplaced, seated}
use Rattle.packing_rules.specs.Packing.{State, trial_in, pack_groups, start, packing}
use Rattle.packing_rules.specs.Promises.{WholeOrNowhere, in_one, in_none}
use Rattle.packing_rules.proofs.Placings.{group_long}
use Rattle.packing_rules.proofs.Seats.{empty_seat, length-seated, ApartFrom, seated_other, seated_all}
use Rattle.packing_rules.proofs.Turns.{given, by_turns}

-- a group whose turn is yet to come
pub record Waiting (seats : List Seat) (g : List ℕ) : Type 0 where
  pub below : Each (λ i. i < length seats) g
  pub rising : EachTwo (λ i j. i < j) g
  pub empty_yet : Each (λ i. get_or seats i unplaced ≡ unplaced) g

-- it waits still when another group has taken its seats
pub still_waiting : (id : ℕ) (ls : List PackedLocation) (seats : List Seat) (g h : List ℕ) → Disjoint g h → Waiting seats h → Waiting (seated id g ls seats) h
still_waiting id ls seats g h d w =
    record {
      below = each_map (λ i b. omega (arith, length-seated id g ls seats)) w.below;
      rising = w.rising;
      empty_yet =
          each_map (λ j q. seated_other id j ls seats (each_map (λ i u e. u (sym e)) q.0) ∙ q.1) (each_both (each_swap h d) w.empty_yet);
    }

-- the groups of a table wait, before any is packed
pub groups_wait : (n : ℕ) (r : ℕ → RectToPlace) → Each (Waiting (replicate n unplaced)) (groups_of n r)
groups_wait n r =
    each_map
    (λ g p. record {
      below = each_map (λ i h. rw length-replicate h) p.1.below;
      rising = p.1.rising;
      empty_yet = each_map (λ i h. empty_seat n i) p.1.below;
    })
    (groups_each n r)

module _ (order : List ℕ) (ids : ℕ → ℕ) (r : ℕ → RectToPlace) where
  -- a seat of none of the groups stays as it is
  untouched :
      (i : ℕ) (groups : List (List ℕ)) (s : State)
      → Each (ApartFrom i) groups
      → get_or (pack_groups order ids r groups s).after.seats i unplaced ≡ get_or s.seats i unplaced
  untouched i =
      by_turns order ids r (λ groups s e. Each (ApartFrom i) groups → get_or e.after.seats i unplaced ≡ get_or s.seats i unplaced)
      (λ s ps. refl)
      (λ g gs s q ps. refl)
      (λ g gs s t ls free q e rest ps. rest (each_tail ps) ∙ seated_other (ids (get_or order t 0)) i ls s.seats (each_head ps))

  -- groups that wait and share no rectangle are each whole in one chamber or nowhere when the packing ends
  whole_or_nowhere :
      (groups : List (List ℕ)) (s : State)
      → Each (Waiting s.seats) groups
      → EachTwo Disjoint groups
      → Each (WholeOrNowhere order ids (pack_groups order ids r groups s).after.seats) groups
  unfolding trial_in
  whole_or_nowhere =
      by_turns order ids r
      (λ groups s e. Each (Waiting s.seats) groups → EachTwo Disjoint groups → Each (WholeOrNowhere order ids e.after.seats) groups)
      (λ s ws ds. none)
      (λ g gs s q ws ds. each_map (λ h w. in_none w.empty_yet) ws)
      (λ g gs s t ls free q e rest ws ds.
      let k = get_or order t 0 in
      let mine = seated_all (ids k) ls s.seats (group_long r (get_or s.frees k []) g ls free e) (each_head ws).below (each_head ws).rising in
      also
      (in_one t q.within
      (each_map (λ i u. (u.1.0, untouched i gs (given ids g s k ls free) u.0 ∙ u.1.1)) (each_both (each_swap g (two_head ds)) mine)))
      (rest (each_map (λ h u. still_waiting (ids k) ls s.seats g h u.0 u.1) (each_both (two_head ds) (each_tail ws))) (two_tail ds)))

-- of the groups of a table
pub packed_whole :
    (chambers store rects : List ℕ)
    → Each (WholeOrNowhere (trial_order chambers) (λ k. (chamber_at chambers k).id) (packing chambers store rects).after.seats)
    (groups_of (rect_count rects) (rect_at rects))
unfolding packing start
packed_whole chambers store rects =
    whole_or_nowhere (trial_order chambers) (λ k. (chamber_at chambers k).id) (rect_at rects) (groups_of (rect_count rects) (rect_at rects))
    (start chambers store rects) (groups_wait (rect_count rects) (rect_at rects)) (groups_disjoint (rect_count rects) (rect_at rects))
