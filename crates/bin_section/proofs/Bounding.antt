-- What the test `inside_of` means: it fires exactly when the box lies inside with no zero side.
use mathlib.Core.Path.{◌≡◌, refl, sym, ◌∙◌}
use mathlib.Core.Logic.{◌↔◌}
use mathlib.Core.Bool.{Bool, true, false}
use borrow.Author.Tests.{ltb-true, leb-true, lt-ltb, le-leb, not-false}
use Rattle.lists.proofs.Flags.{and_both, and_first, and_second, not_yes, not_no, true_false}
use Rattle.bin_section.specs.declared.section.BinSection.{BinSection}
use Rattle.bin_section.specs.declared.width_height_depth.WidthHeightDepth.{WidthHeightDepth}
use Rattle.bin_section.specs.Inside.{span_inside, inside_of, outside, Inside}

module _ (whd : WidthHeightDepth) (s : BinSection) where
  pub inside→ : inside_of whd s ≡ true → Inside whd s
  unfolding inside_of span_inside
  inside→ t = search (and_first, and_second, ltb-true, leb-true)

  pub →inside : Inside whd s → inside_of whd s ≡ true
  unfolding inside_of span_inside
  →inside h = search (and_both, lt-ltb, le-leb)

  -- the test fires in no other case than "a zero side or reaches past the chamber"
  pub inside_exact : (inside_of whd s ≡ true) ↔ Inside whd s
  inside_exact = (inside→, →inside)

  -- the same of the box that does not lie inside
  pub not_outside→inside : outside whd s ≡ false → Inside whd s
  not_outside→inside h = inside→ (not-false _ h)

  pub inside→not_outside : Inside whd s → outside whd s ≡ false
  inside→not_outside p = not_yes _ (→inside p)

  pub outside→not_inside : outside whd s ≡ true → ¬ (Inside whd s)
  outside→not_inside h p = true_false (sym h ∙ inside→not_outside p)

  pub not_inside→outside : ¬ (Inside whd s) → outside whd s ≡ true
  not_inside→outside p = go (inside_of whd s) refl
    where
      go : (t : Bool) → inside_of whd s ≡ t → outside whd s ≡ true
      go true e = absurd (p (inside→ e))
      go false e = not_no _ e
