-- What is placed and what is left free lies in the old sections: a fact of sections that passes on to the boxes within them passes on to both.
use Prim.Native.Nat.{◌<◌}
use mathlib.Core.Path.{◌≡◌, refl}
use mathlib.Core.Logic.{⊎_elim}
use mathlib.Core.List.{List, [], ◌∷◌}
use mathlib.Core.Bool.{true, false, cond}
use native.Mathlib.Nat.{eq-zero-or-pos, zero-mul, mul-zero}
use native.Mathlib.Omega.{arith}
use borrow.Author.Tests.{eqb-false}
use lib.Dec.{eqb}
use lib.ListN.{get_or}
use Rattle.lists.specs.Sort.{Each, none, also}
use Rattle.lists.proofs.Tabs.{three}
use Rattle.lists.proofs.Sorts.{each_map, each_append, each_at, sort_each, each_remove}
use Rattle.bin_section.specs.declared.section.BinSection.{BinSection}
use Rattle.bin_section.specs.declared.rect_to_insert.RectToInsert.{RectToInsert}
use Rattle.bin_section.specs.declared.width_height_depth.WidthHeightDepth.{WidthHeightDepth}
use Rattle.bin_section.specs.Section.{zero_section}
use Rattle.bin_section.specs.Sides.{volume_of}
use Rattle.bin_section.specs.Leaning.{Small}
use Rattle.bin_section.specs.Inside.{Inside}
use Rattle.try_place.specs.declared.packed_location.PackedLocation.{PackedLocation}
use Rattle.try_place.specs.Location.{location_in, location_box}
use Rattle.try_place.specs.Try.{chosen_three}
use Rattle.try_place.specs.Leaning.{Fitting, Reachable}
use Rattle.try_place.proofs.Remaining.{BoxWithin, chosen_within, chosen_long}
use Rattle.try_place.proofs.Trying.{fitting}
use Rattle.packing_rules.specs.Appended.{larger, kept_one, kept, appended_of}
use Rattle.packing_rules.specs.Rules.{placed, place_one}
use Rattle.packing_rules.proofs.Placings.{Placings, no_more, then, placed_at}

-- no zero side
pub record Sided (whd : WidthHeightDepth) : Type 0 where
  pub wide : 0 < whd.width
  pub tall : 0 < whd.height
  pub deep : 0 < whd.depth

volume_sided : (whd : WidthHeightDepth) → (volume_of whd ≡ 0 → ⊥) → Sided whd
volume_sided whd v =
    record {
      wide = ⊎_elim (λ (e : whd.width ≡ 0). absurd (v (simp (e, zero-mul)))) (λ p. p) (eq-zero-or-pos whd.width);
      tall = ⊎_elim (λ (e : whd.height ≡ 0). absurd (v (simp (e, mul-zero, zero-mul)))) (λ p. p) (eq-zero-or-pos whd.height);
      deep = ⊎_elim (λ (e : whd.depth ≡ 0). absurd (v (simp (e, mul-zero)))) (λ p. p) (eq-zero-or-pos whd.depth);
    }

-- "zero volumes left out"
module _ {P : BinSection → Type 0} where
  kept_sided : {xs : List BinSection} → Each P xs → Each (λ b. P b × Sided b.whd) (kept xs)
  unfolding kept kept_one
  kept_sided none = none
  kept_sided (also {x} p ps) =
      each_append
      (elim (eqb (volume_of x.whd) 0) as (λ t. eqb (volume_of x.whd) 0 ≡ t → Each (λ b. P b × Sided b.whd) (cond t [] (x ∷ []))) [
        | true ↦ λ e. none
        | false ↦ λ e. also (p, volume_sided x.whd (eqb-false _ _ e)) none
      ]
      refl)
      (kept_sided ps)

  appended_sided : (t : List BinSection) → Each P t → Each (λ b. P b × Sided b.whd) (appended_of t)
  unfolding appended_of
  appended_sided t p = kept_sided (sort_each larger p)

-- what remains beside a rectangle in the section that takes it
parts_within : (s : BinSection) (r : RectToInsert) → Fitting s r → Each (BoxWithin s) (chosen_three s r)
parts_within s r f =
    let w = chosen_within s r f in
    rw (three zero_section (chosen_three s r) (chosen_long s r)) (also w.first (also w.second (also w.third none)))

-- a fact of sections that passes on to each box within them that has no zero side
module _ (P : BinSection → Type 0) (reach : (s : BinSection) → P s → Reachable s) (passes : (s b : BinSection) → P s → BoxWithin s b → Sided b.whd → P b) where
  module _ (free : List BinSection) (r : RectToInsert) (l : PackedLocation) (free' : List BinSection) (e : place_one free r ≡ placed l free') (ps : Each P free) where
    -- it holds of all that is left free, and of the box placed
    pub one_left : Each P free'
    one_left =
        let q = placed_at free r l free' e in
        let s = get_or free q.0 zero_section in
        let p : P s = each_at ps q.0 zero_section q.1.within in
        rw q.1.left
        (each_append (each_remove q.0 ps)
        (each_map (λ b w. passes s b p w.0 w.1)
        (appended_sided (chosen_three s r) (parts_within s r (fitting s r (reach s p) q.1.fits)))))

    pub one_box : Sided r.whd → P (location_box l)
    one_box v =
        let q = placed_at free r l free' e in
        let s = get_or free q.0 zero_section in
        rw q.1.here (passes s (location_box (location_in s r)) (each_at ps q.0 zero_section q.1.within) (omega (arith, q.1.fits)) v)

  pub placings_free :
      {free free' : List BinSection} {rs : List RectToInsert} {ls : List PackedLocation}
      → Placings free rs ls free'
      → Each P free
      → Each P free'
  placings_free no_more ps = ps
  placings_free (then {free} {mid} {free'} {r} {rs} {l} e p) ps = placings_free p (one_left free r l mid e ps)

  pub placings_boxes :
      {free free' : List BinSection} {rs : List RectToInsert} {ls : List PackedLocation}
      → Placings free rs ls free'
      → Each (λ r. Sided r.whd) rs
      → Each P free
      → Each (λ l. P (location_box l)) ls
  placings_boxes no_more vs ps = none
  placings_boxes (then {free} {mid} {free'} {r} {rs} {l} e p) (also v vs) ps =
      also (one_box free r l mid e ps v) (placings_boxes p vs (one_left free r l mid e ps))

-- such a fact is that a section lies inside the chamber
module _ (whd : WidthHeightDepth) where
  pub inside_reachable : Small whd → (s : BinSection) → Inside whd s → Reachable s
  inside_reachable small s p = omega arith

  pub inside_passes : (s b : BinSection) → Inside whd s → BoxWithin s b → Sided b.whd → Inside whd b
  inside_passes s b p w v = omega arith
