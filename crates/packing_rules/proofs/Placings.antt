-- One rectangle goes into the last section that fits it, or none fits; a whole group goes in one rectangle after the other.
use Prim.Native.Nat.{ℕ, zero, suc, ◌<◌}
use mathlib.Core.Path.{◌≡◌, refl, sym, ap, ◌∙◌}
use mathlib.Core.Logic.{⊎_elim}
use mathlib.Core.Bool.{false}
use mathlib.Core.List.{List, [], ◌∷◌, ◌++◌, append_assoc, append-nil}
use native.Mathlib.Nat.{eq-or-lt_of_le, le_of_suc-le-suc, lt-suc_self, le_step}
use native.Mathlib.Omega.{arith}
use lib.ListN.{length, get_or, length-map}
use Rattle.std.proofs.Common.{Result, Ok, Err, MatchResult}
use Rattle.lists.specs.Tab.{remove_at}
use Rattle.bin_section.specs.declared.section.BinSection.{BinSection}
use Rattle.bin_section.specs.declared.rect_to_insert.RectToInsert.{RectToInsert}
use Rattle.bin_section.specs.Section.{zero_section}
use Rattle.try_place.specs.declared.packed_location.PackedLocation.{PackedLocation}
use Rattle.try_place.specs.declared.fitting.BinSectionError.{BinSectionError}
use Rattle.try_place.specs.Location.{location_in}
use Rattle.try_place.specs.Try.{fit_of, Fits, on_placed, chosen_three}
use Rattle.try_place.proofs.Refusing.{fit_told}
use Rattle.grouped_rects_to_place.specs.declared.rect_to_place.RectToPlace.{RectToPlace}
use Rattle.packing_rules.specs.Appended.{appended_of}
use Rattle.packing_rules.specs.Rules.{One, nowhere, placed, place_from, place_one, Trial, stops, whole, after_one, next, place_all, place_group, is_whole}
use Rattle.packing_rules.specs.Packing.{rects_at}

-- ---- one rectangle

-- what stays free when the section at i takes the rectangle: it "is removed, later ones move down one, and the chosen three are appended"
abbrev pub free_without : List BinSection → RectToInsert → ℕ → List BinSection
free_without free r i = remove_at i free ++ appended_of (chosen_three (get_or free i zero_section) r)

-- of the first n sections the one at i is the last that fits: it takes the rectangle
pub record PlacedAt (free : List BinSection) (r : RectToInsert) (l : PackedLocation) (free' : List BinSection) (n i : ℕ) : Type 0 where
  pub within : i < n
  pub fits : Fits (get_or free i zero_section) r
  pub last : (j : ℕ) → i < j → j < n → Fits (get_or free j zero_section) r → ⊥
  pub here : l ≡ location_in (get_or free i zero_section) r
  pub left : free' ≡ free_without free r i

-- none of the first n sections fits
pub record NoneFits (free : List BinSection) (r : RectToInsert) (n : ℕ) : Type 0 where
  pub at : (j : ℕ) → j < n → Fits (get_or free j zero_section) r → ⊥

-- what a search of the first n sections found
data Found (free : List BinSection) (r : RectToInsert) (n : ℕ) : One → Type 0 where
  taken : {l : PackedLocation} {free' : List BinSection} (i : ℕ) → PlacedAt free r l free' n i → Found free r n (placed l free')
  refused : NoneFits free r n → Found free r n nowhere

module _ (free : List BinSection) (r : RectToInsert) where
  -- one section more, which does not fit
  later : (n : ℕ) {o : One} → (Fits (get_or free n zero_section) r → ⊥) → Found free r n o → Found free r (suc n) o
  later n q (taken i p) =
      taken i
      (record {
        within = le_step p.within;
        fits = p.fits;
        last = λ j a b. ⊎_elim (λ u. rw u q) (p.last j a) (eq-or-lt_of_le (le_of_suc-le-suc b));
        here = p.here;
        left = p.left;
      })
  later n q (refused p) = refused (record { at = λ j h. ⊎_elim (λ u. rw u q) (p.at j) (eq-or-lt_of_le (le_of_suc-le-suc h)) })

  found : (n : ℕ) → Found free r n (place_from free r n)
  unfolding place_from
  found zero = refused (record { at = λ j h. absurd (omega arith) })
  found (suc n) = go (found n) (fit_of s r) (fit_told s r)
    where
      s : BinSection
      s = get_or free n zero_section

      go :
          Found free r n (place_from free r n)
          → (o : Result PackedLocation BinSectionError)
          → MatchResult o (λ l. Fits s r × (l ≡ location_in s r)) (λ e. Fits s r → ⊥)
          → Found free r (suc n) (on_placed o (λ l. placed l (remove_at n free ++ appended_of (chosen_three s r))) (place_from free r n))
      go rest (Ok l) f = taken n (record { within = lt-suc_self n; fits = f.0; last = λ j a b. absurd (omega arith); here = f.1; left = refl })
      go rest (Err e) f = later n f rest

  -- "the free sections are tried from the last to the first, the first that fits": so it is the last that fits
  pub placed_at : (l : PackedLocation) (free' : List BinSection) → place_one free r ≡ placed l free' → (i : ℕ) × PlacedAt free r l free' (length free) i
  unfolding place_one
  placed_at l free' e = go (rw e at (found (length free)))
    where
      go : Found free r (length free) (placed l free') → (i : ℕ) × PlacedAt free r l free' (length free) i
      go (taken i p) = (i, p)

  pub nowhere_at : place_one free r ≡ nowhere → NoneFits free r (length free)
  unfolding place_one
  nowhere_at e = go (rw e at (found (length free)))
    where
      go : Found free r (length free) nowhere → NoneFits free r (length free)
      go (refused p) = p

-- ---- a group

-- the rectangles go in one after the other
pub data Placings : List BinSection → List RectToInsert → List PackedLocation → List BinSection → Type 0 where
  no_more : {free : List BinSection} → Placings free [] [] free
  then :
      {free mid free' : List BinSection} {r : RectToInsert} {rs : List RectToInsert} {l : PackedLocation} {ls : List PackedLocation}
      → place_one free r ≡ placed l mid
      → Placings mid rs ls free'
      → Placings free (r ∷ rs) (l ∷ ls) free'

all_stops : (i : ℕ) (free : List BinSection) (xs : List RectToInsert) → place_all (stops i free) xs ≡ stops i free
unfolding place_all
all_stops i free [] = refl
all_stops i free (x ∷ xs) = all_stops i free xs

-- a first rectangle that fits nowhere stops the trial
pub stops_first : (free : List BinSection) (r : RectToInsert) (rs : List RectToInsert) → place_one free r ≡ nowhere → is_whole (place_group free (r ∷ rs)) ≡ false
unfolding place_group place_all
stops_first free r rs e = rw (e, all_stops 0 free rs)

all_placings :
    (before ls : List PackedLocation) (free free' : List BinSection) (rs : List RectToInsert)
    → place_all (whole before free) rs ≡ whole ls free'
    → (new : List PackedLocation) × (ls ≡ before ++ new) × Placings free rs new free'
unfolding place_all
all_placings before ls free free' [] e =
    let p : ls ≡ before = cc in
    let q : free ≡ free' = cc in
    ([], p ∙ sym (append-nil before), rw q no_more)
all_placings before ls free free' (r ∷ rs) e =
    elim (place_one free r) as (λ o. place_one free r ≡ o → place_all (after_one before free o) rs ≡ whole ls free' → (new : List PackedLocation) × (ls ≡ before ++ new) × Placings free (r ∷ rs) new free') [
      | nowhere ↦ λ o f. let z : ◌≡◌ {A = ℕ} 0 1 = cc (all_stops (length before) free rs) in absurd (omega arith)
      | placed l mid ↦ λ o f.
          let q = all_placings (before ++ (l ∷ [])) ls mid free' rs f in
          (l ∷ q.0, q.1 ∙ append_assoc before (l ∷ []) q.0, then o q.2)
    ]
    refl e

pub group_placings :
    (free : List BinSection) (rs : List RectToInsert) (ls : List PackedLocation) (free' : List BinSection)
    → place_group free rs ≡ whole ls free'
    → Placings free rs ls free'
unfolding place_group
group_placings free rs ls free' e = let q = all_placings [] ls free free' rs e in rw q.1 q.2

placings_long : {free free' : List BinSection} {rs : List RectToInsert} {ls : List PackedLocation} → Placings free rs ls free' → length ls ≡ length rs
placings_long no_more = refl
placings_long (then e p) = ap suc (placings_long p)

-- the rectangles of a list of indices
module _ (r : ℕ → RectToPlace) where
  pub rects_long : (g : List ℕ) → length (rects_at r g) ≡ length g
  unfolding rects_at
  rects_long g = length-map g (λ i. record { whd = (r i).whd })

  -- each has a location
  pub group_long :
      (free : List BinSection) (g : List ℕ) (ls : List PackedLocation) (free' : List BinSection)
      → place_group free (rects_at r g) ≡ whole ls free'
      → length ls ≡ length g
  group_long free g ls free' e = placings_long (group_placings free (rects_at r g) ls free' e) ∙ rects_long g

  -- one rectangle more; and one that stops the trial stops it for all that follow
  pub trial_more : (t : Trial) (xs : List ℕ) (i : ℕ) → place_all t (rects_at r (xs ++ (i ∷ []))) ≡ next (place_all t (rects_at r xs)) (record { whd = (r i).whd })
  unfolding place_all rects_at
  trial_more t [] i = refl
  trial_more t (x ∷ xs) i = trial_more (next t (record { whd = (r x).whd })) xs i

  pub trial_stops :
      (t : Trial) (i : ℕ) (free : List BinSection) (xs ys : List ℕ)
      → place_all t (rects_at r xs) ≡ stops i free
      → place_all t (rects_at r (xs ++ ys)) ≡ stops i free
  unfolding place_all rects_at
  trial_stops t i free [] ys e = rw e (all_stops i free (rects_at r ys))
  trial_stops t i free (x ∷ xs) ys e = trial_stops (next t (record { whd = (r x).whd })) i free xs ys e
