-- Boxes that all lie inside, element by element: the laws of `Each` then serve as the list grows and shrinks.
use Prim.Native.Nat.{suc}
use mathlib.Core.List.{List, [], ◌∷◌, ◌++◌}
use native.Mathlib.Omega.{arith}
use Rattle.lists.specs.Sort.{Each, none, also}
use Rattle.lists.proofs.Sorts.{each_at, each_append, each_first, each_second}
use Rattle.bin_section.specs.declared.width_height_depth.WidthHeightDepth.{WidthHeightDepth}
use Rattle.bin_section.specs.declared.section.BinSection.{BinSection}
use Rattle.bin_section.specs.Section.{zero_section}
use Rattle.cells.specs.Whole.{Inside, AllInside}

module _ (whd : WidthHeightDepth) where
  pub each_inside : {bs : List BinSection} → Each (Inside whd) bs → AllInside whd bs
  each_inside p = record { at = λ i h. each_at p i zero_section h }

  pub inside_each : (bs : List BinSection) → AllInside whd bs → Each (Inside whd) bs
  inside_each [] p = none
  inside_each (b ∷ bs) p = also (p.at 0 (omega arith)) (inside_each bs (record { at = λ i h. p.at (suc i) (omega arith) }))

  pub inside_none : AllInside whd []
  inside_none = each_inside none

  pub inside_more : (b : BinSection) (bs : List BinSection) → Inside whd b → AllInside whd bs → AllInside whd (b ∷ bs)
  inside_more b bs p q = each_inside (also p (inside_each bs q))

  -- two lists one after the other
  pub inside_both : (s t : List BinSection) → AllInside whd s → AllInside whd t → AllInside whd (s ++ t)
  inside_both s t p q = each_inside (each_append (inside_each s p) (inside_each t q))

  pub inside_first : (s t : List BinSection) → AllInside whd (s ++ t) → AllInside whd s
  inside_first s t p = each_inside (each_first s t (inside_each (s ++ t) p))

  pub inside_second : (s t : List BinSection) → AllInside whd (s ++ t) → AllInside whd t
  inside_second s t p = each_inside (each_second s t (inside_each (s ++ t) p))
