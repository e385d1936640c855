-- A turn of the packing: a group is served by the first chamber where all fit, or by none. One induction over the groups.
use Prim.Native.Nat.{ℕ, ◌≤◌}
use mathlib.Core.Path.{◌≡◌, refl, sym}
use mathlib.Core.Logic.{◌⊎◌, inl, inr, ⊎_elim}
use mathlib.Core.List.{List, [], ◌∷◌, map}
use mathlib.Core.Bool.{Bool, true}
use native.Mathlib.Omega.{arith}
use native.Mathlib.Decide.{dec_lt}
use borrow.Author.Tests.{lt-ltb, le-ltb}
use lib.ListN.{length, get_or, set}
use Rattle.lists.specs.Lowest.{lowest}
use Rattle.lists.proofs.Flags.{true_false}
use Rattle.lists.proofs.Lowests.{lowest_none, lowest_here, lowest_fires, none_below_lowest, none_of_lowest}
use Rattle.bin_section.specs.declared.section.BinSection.{BinSection}
use Rattle.bin_section.specs.declared.rect_to_insert.RectToInsert.{RectToInsert}
use Rattle.replies.specs.Replies.{reply}
use Rattle.try_place.specs.declared.packed_location.PackedLocation.{PackedLocation}
use Rattle.grouped_rects_to_place.specs.declared.rect_to_place.RectToPlace.{RectToPlace}
use Rattle.packing_rules.specs.Rules.{Trial, stops, whole, is_whole}
use Rattle.packing_rules.specs.Seats.{home, seated, dealt}
use Rattle.packing_rules.specs.Packing.{trial_in, first_whole, housed, served_first, place_groups, rects_at, answer_of, State, state, Ended, ended, pack_groups}
use Rattle.packing_rules.specs.Promises.{Serves, NoneServes}

is_whole_lem : (t : Trial) → is_whole t ≡ true → (ls : List PackedLocation) × (free : List BinSection) × (t ≡ whole ls free)
is_whole_lem (stops i free) e = absurd (true_false (sym e))
is_whole_lem (whole ls free) e = (ls, free, refl)

-- ---- a group as a list of rectangles

module _ (order : List ℕ) (g : List RectToInsert) (frees : List (List BinSection)) where
  abbrev test : ℕ → Bool
  test t = is_whole (trial_in g frees (get_or order t 0))

  -- a group is served by the first chamber where all fit, or by none
  serves_or_not : ((t : ℕ) × Serves order g frees t) ⊎ NoneServes order g frees
  serves_or_not =
      elim (dec_lt (lowest (length order) test) (length order)) [
        | yes h ↦ inl (
          lowest (length order) test,
          record { within = h; earlier_stop = (none_below_lowest (length order) test).at; all_fit = lowest_fires (length order) test h },
        )
        | no h ↦ inr (record { at = (none_of_lowest (length order) test (omega arith)).at })
      ]

  serves_place : (t : ℕ) → Serves order g frees t → first_whole order g frees ≡ t
  unfolding first_whole
  serves_place t p = lowest_here (length order) t test (record { at = p.earlier_stop }) p.within p.all_fit

  none_place : NoneServes order g frees → first_whole order g frees ≡ length order
  unfolding first_whole
  none_place p = lowest_none (length order) test (record { at = p.at })

  -- "The first chamber where all fit is changed so; others aren't."
  group_served :
      (gs : List (List RectToInsert)) (t : ℕ) (ls : List PackedLocation) (free : List BinSection)
      → Serves order g frees t
      → trial_in g frees (get_or order t 0) ≡ whole ls free
      → place_groups order (g ∷ gs) frees ≡ served_first (home (get_or order t 0) ls) (place_groups order gs (set frees (get_or order t 0) free))
  unfolding place_groups
  group_served gs t ls free p e = rw (serves_place t p, lt-ltb t (length order) p.within, e)

  -- "If none serves, .. the later groups are not tried, and earlier groups stay."
  group_refused : (gs : List (List RectToInsert)) → NoneServes order g frees → place_groups order (g ∷ gs) frees ≡ housed [] frees
  unfolding place_groups
  group_refused gs p = let h : length order ≤ length order = omega arith in rw (none_place p, le-ltb (length order) (length order) h)

-- ---- a group as a list of indices

-- the state once the chamber at k has the group: it "is changed so; others aren't"
abbrev pub given : (ℕ → ℕ) → List ℕ → State → ℕ → List PackedLocation → List BinSection → State
given ids g s k ls free = state (set s.frees k free) (seated (ids k) g ls s.seats)

module _ (order : List ℕ) (ids : ℕ → ℕ) (r : ℕ → RectToPlace) where
  pub turn_served :
      (g : List ℕ) (gs : List (List ℕ)) (s : State) (t : ℕ) (ls : List PackedLocation) (free : List BinSection)
      → Serves order (rects_at r g) s.frees t
      → trial_in (rects_at r g) s.frees (get_or order t 0) ≡ whole ls free
      → pack_groups order ids r (g ∷ gs) s ≡ pack_groups order ids r gs (given ids g s (get_or order t 0) ls free)
  unfolding pack_groups answer_of dealt
  turn_served g gs s t ls free p e = rw (group_served order (rects_at r g) s.frees (map (rects_at r) gs) t ls free p e)

  -- "If none serves, the answer is 7, the later groups are not tried, and earlier groups stay."
  pub turn_refused :
      (g : List ℕ) (gs : List (List ℕ)) (s : State)
      → NoneServes order (rects_at r g) s.frees
      → pack_groups order ids r (g ∷ gs) s ≡ ended (reply 7 (get_or g 0 0)) s
  unfolding pack_groups answer_of dealt
  turn_refused g gs s p = rw (group_refused order (rects_at r g) s.frees (map (rects_at r) gs) p)

  pub no_turn : (s : State) → pack_groups order ids r [] s ≡ ended (reply 0 0) s
  unfolding pack_groups place_groups answer_of dealt
  no_turn s = refl

  -- a fact of the groups, the state and the end that holds of no groups and of a refused one, and of a served one if it does of the others
  module _ (M : List (List ℕ) → State → Ended → Type 0)
      (done : (s : State) → M [] s (ended (reply 0 0) s))
      (refused : (g : List ℕ) (gs : List (List ℕ)) (s : State) → NoneServes order (rects_at r g) s.frees → M (g ∷ gs) s (ended (reply 7 (get_or g 0 0)) s))
      (served :
      (g : List ℕ) (gs : List (List ℕ)) (s : State) (t : ℕ) (ls : List PackedLocation) (free : List BinSection)
      → Serves order (rects_at r g) s.frees t
      → trial_in (rects_at r g) s.frees (get_or order t 0) ≡ whole ls free
      → M gs (given ids g s (get_or order t 0) ls free) (pack_groups order ids r gs (given ids g s (get_or order t 0) ls free))
      → M (g ∷ gs) s (pack_groups order ids r gs (given ids g s (get_or order t 0) ls free)))
    where
      pub by_turns : (groups : List (List ℕ)) (s : State) → M groups s (pack_groups order ids r groups s)
      by_turns [] s = rw (no_turn s) (done s)
      by_turns (g ∷ gs) s =
          ⊎_elim
          (λ (u : (t : ℕ) × Serves order (rects_at r g) s.frees t).
          let w = is_whole_lem _ u.1.all_fit in
          rw (turn_served g gs s u.0 w.0 w.1 u.1 w.2)
          (served g gs s u.0 w.0 w.1 u.1 w.2 (by_turns gs (given ids g s (get_or order u.0 0) w.0 w.1))))
          (λ q. rw (turn_refused g gs s q) (refused g gs s q))
          (serves_or_not order (rects_at r g) s.frees)
