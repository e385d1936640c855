-- Laws of the search from the last section to the first.
use Prim.Native.Nat.{ℕ, zero, suc, ◌-◌, ◌≤◌, ◌<◌}
use mathlib.Core.Path.{◌≡◌, refl, sym, ap, ◌∙◌}
use mathlib.Core.List.{List}
use native.Mathlib.Omega.{arith}
use lib.ListN.{get_or}
use Rattle.bin_section.specs.declared.rect_to_insert.RectToInsert.{RectToInsert}
use Rattle.bin_section.specs.Section.{section_at, zero_section}
use Rattle.sections.specs.Sections.{sections}
use Rattle.sections.proofs.Reading.{length-sections, getd_sections}
use Rattle.try_place.specs.Try.{Fits}
use Rattle.try_place.proofs.Refusing.{fit_placed, fit_refused}
use Rattle.try_place.proofs.Trying.{fitting}
use Rattle.packing_rules.specs.Rules.{nowhere, place_from, place_one}
use Rattle.placing.specs.Leaning.{Reaching, Taken}

-- i sections are left to be tried of the first count, as all that were passed refuse
pub record Tried (count : ℕ) (r : RectToInsert) (w : List ℕ) (i : ℕ) : Type 0 where
  pub most : i ≤ count
  pub same : place_from (sections w count) r i ≡ place_one (sections w count) r

module _ (count : ℕ) (r : RectToInsert) (w : List ℕ) where
  pub tried_none : Tried count r w count
  unfolding place_one
  tried_none = record { most = omega arith; same = ap (place_from (sections w count) r) (sym (length-sections w count)) }

  free_at_lem : (i : ℕ) → i < count → get_or (sections w count) i zero_section ≡ section_at w i
  free_at_lem i h = getd_sections w count i zero_section h

  pub tried_more : (i : ℕ) → Tried count r w i → 0 < i → (Fits (section_at w (i - 1)) r → ⊥) → Tried count r w (i - 1)
  unfolding place_from
  tried_more zero p h f = absurd (omega arith)
  tried_more (suc i) p h f =
      let e : suc i - 1 ≡ i = omega arith in
      rw e
      (record {
        most = omega (arith, p.most);
        same = sym (rw (free_at_lem i (omega (arith, p.most))) (fit_refused (section_at w i) r (rw e at f) _ _)) ∙ p.same;
      })

  -- the search ends at a section that fits
  pub taken_here : Reaching count w → (i : ℕ) → Tried count r w i → 0 < i → Fits (section_at w (i - 1)) r → Taken count r (i - 1) w
  unfolding place_from
  taken_here reach zero p h f = absurd (omega arith)
  taken_here reach (suc i) p h f =
      let e : suc i - 1 ≡ i = omega arith in
      let g : Fits (section_at w i) r = rw e at f in
      rw e
      (record {
        within = omega (arith, p.most);
        fits = fitting (section_at w i) r (reach.at i (omega (arith, p.most))) g;
        here = sym p.same ∙ rw (free_at_lem i (omega (arith, p.most)), fit_placed (section_at w i) r g) refl;
      })

  pub taken_nowhere : (i : ℕ) → Tried count r w i → i ≤ 0 → place_one (sections w count) r ≡ nowhere
  unfolding place_from
  taken_nowhere zero t h = sym t.same
  taken_nowhere (suc i) t h = absurd (omega arith)
