-- A list of boxes weighed: each box has a weight, and the list their sum. In how many boxes a cell lies is such a sum, and so is how
-- many boxes do not lie inside.
use Prim.Native.Nat.{ℕ, ◌+◌}
use mathlib.Core.Path.{◌≡◌, refl, ap₂, ◌∙◌}
use mathlib.Core.List.{List, [], ◌∷◌, map}
use mathlib.Core.Bool.{Bool, true, false, cond}
use native.Mathlib.Omega.{arith}
use Rattle.lists.specs.Sum.{sum_to}
use Rattle.lists.specs.Pick.{picked}
use Rattle.lists.specs.Sort.{Each, none, also}
use Rattle.lists.proofs.Flags.{cond_yes, cond_no}
use Rattle.lists.proofs.Totals.{total, total_map, total_picked}
use Rattle.bin_section.specs.declared.width_height_depth.WidthHeightDepth.{WidthHeightDepth}
use Rattle.bin_section.specs.declared.section.BinSection.{BinSection}
use Rattle.cells.specs.Whole.{Inside}
use Rattle.bin_section.specs.Inside.{outside}
use Rattle.bin_section.proofs.Bounding.{inside→not_outside, not_outside→inside}

-- 1 if the box does not lie inside, else 0
unfoldable pub strays : WidthHeightDepth → BinSection → ℕ
strays whd b = cond (outside whd b) 1 0

module _ (whd : WidthHeightDepth) where
  pub none_strays : {bs : List BinSection} → Each (Inside whd) bs → total (strays whd) bs ≡ 0
  unfolding total strays
  none_strays none = refl
  none_strays (also {x} {xs} p ps) =
      ap₂ (λ (a b : ℕ). a + b) (cond_no {A = ℕ} 1 0 (outside whd x) (inside→not_outside whd x p)) (none_strays ps)

  pub all_inside : (bs : List BinSection) → total (strays whd) bs ≡ 0 → Each (Inside whd) bs
  unfolding total strays
  all_inside [] e = none
  all_inside (b ∷ bs) e = go (outside whd b) refl (all_inside bs)
    where
      go : (t : Bool) → outside whd b ≡ t → (total (strays whd) bs ≡ 0 → Each (Inside whd) bs) → Each (Inside whd) (b ∷ bs)
      go true p rest = absurd (omega (arith, cond_yes {A = ℕ} 1 0 (outside whd b) p, e))
      go false p rest = also (not_outside→inside whd b p) (rest (omega (arith, e)))

-- the boxes of the indices that a test picks
pub total_boxes :
    (w : BinSection → ℕ) (box : ℕ → BinSection) (test : ℕ → Bool) (n : ℕ)
    → total w (map box (picked n test)) ≡ sum_to n (λ i. cond (test i) (w (box i)) 0)
total_boxes w box test n = total_map w box (picked n test) ∙ total_picked (λ i. w (box i)) test n
