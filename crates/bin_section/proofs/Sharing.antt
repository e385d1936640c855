-- The overlap test is exact: two boxes have a common box exactly when a unit cell lies in both, whatever their sides; it has the cells that lie
-- in both and no other; and it is the same either way round.
use Prim.Native.Nat.{ℕ, ◌+◌, min, max}
use mathlib.Core.Path.{◌≡◌, refl, sym, ap, ap₂, ◌∙◌}
use mathlib.Core.Logic.{◌↔◌}
use mathlib.Core.Bool.{Bool, true, false, not, ◌&&◌, cond}
use native.Mathlib.Omega.{arith}
use borrow.Author.Tests.{ltb-true, lt-ltb, not-true, not-false}
use lib.Dec.{ltb}
use Rattle.lists.proofs.Flags.{true_false, and_both, and_first, and_second}
use Rattle.bin_section.specs.declared.section.BinSection.{BinSection}
use Rattle.std.specs.Prelude.{Option, Some, None, is_some}
use Rattle.bin_section.specs.Cell.{Within, HasCell, SharesCell, SharedSpace, CommonMeans}
use Rattle.bin_section.specs.Overlap.{spans_meet, overlaps_of, common_side, common_box, common_of}

-- along one axis: two spans with a number in both meet
→meet : (o₁ s₁ o₂ s₂ c : ℕ) → Within o₁ s₁ c → Within o₂ s₂ c → spans_meet o₁ s₁ o₂ s₂ ≡ true
unfolding spans_meet
→meet o₁ s₁ o₂ s₂ c p q = lt-ltb (max o₁ o₂) (min (o₁ + s₁) (o₂ + s₂)) (omega arith)

meet_swap : (o₁ s₁ o₂ s₂ : ℕ) → spans_meet o₁ s₁ o₂ s₂ ≡ spans_meet o₂ s₂ o₁ s₁
unfolding spans_meet
meet_swap o₁ s₁ o₂ s₂ =
    let p : max o₁ o₂ ≡ max o₂ o₁ = omega arith in
    let q : min (o₁ + s₁) (o₂ + s₂) ≡ min (o₂ + s₂) (o₁ + s₁) = omega arith in
    ap₂ ltb p q

-- which numbers lie in the common span
side_within : (o₁ s₁ o₂ s₂ c : ℕ) → Within (max o₁ o₂) (common_side o₁ s₁ o₂ s₂) c ↔ (Within o₁ s₁ c × Within o₂ s₂ c)
unfolding common_side
side_within o₁ s₁ o₂ s₂ c = ((λ p. ((omega arith, omega arith), (omega arith, omega arith))), (λ p. (omega arith, omega arith)))

side_swap : (o₁ s₁ o₂ s₂ : ℕ) → common_side o₂ s₂ o₁ s₁ ≡ common_side o₁ s₁ o₂ s₂
unfolding common_side
side_swap o₁ s₁ o₂ s₂ = omega arith

later_swap : (o₁ o₂ : ℕ) → max o₂ o₁ ≡ max o₁ o₂
later_swap o₁ o₂ = omega arith

-- the axes on which two boxes that overlap meet
pub record Meets (a b : BinSection) : Type 0 where
  pub on_x : spans_meet a.x a.whd.width b.x b.whd.width ≡ true
  pub on_y : spans_meet a.y a.whd.height b.y b.whd.height ≡ true
  pub on_z : spans_meet a.z a.whd.depth b.z b.whd.depth ≡ true

module _ (a b : BinSection) where
  pub meets : overlaps_of a b ≡ true → Meets a b
  unfolding overlaps_of
  meets t = search (and_first, and_second)

  pub overlaps→shares : overlaps_of a b ≡ true → SharesCell a b
  unfolding spans_meet
  overlaps→shares t =
      let m = meets t in
      let x = ltb-true _ _ m.on_x in
      let y = ltb-true _ _ m.on_y in
      let z = ltb-true _ _ m.on_z in
      record { cx = max a.x b.x; cy = max a.y b.y; cz = max a.z b.z; first = omega (arith, x, y, z); second = omega (arith, x, y, z) }

  pub shares→overlaps : SharesCell a b → overlaps_of a b ≡ true
  unfolding overlaps_of
  shares→overlaps s = search (and_both, →meet)

  -- "whether two boxes share a cell"
  pub overlaps_exact : (overlaps_of a b ≡ true) ↔ SharesCell a b
  overlaps_exact = (overlaps→shares, shares→overlaps)

  -- "either way round, the same reply"
  pub overlaps_swap : overlaps_of a b ≡ overlaps_of b a
  unfolding overlaps_of
  overlaps_swap =
      ap₂ ◌&&◌ (meet_swap a.x a.whd.width b.x b.whd.width)
      (ap₂ ◌&&◌ (meet_swap a.y a.whd.height b.y b.whd.height)
      (meet_swap a.z a.whd.depth b.z b.whd.depth))

  -- ---- the common box

  -- the cells in it are those that lie in both
  box_cells : (cx cy cz : ℕ) → HasCell (common_box a b) cx cy cz ↔ (HasCell a cx cy cz × HasCell b cx cy cz)
  unfolding common_box common_side
  box_cells cx cy cz = ((λ p. (omega arith, omega arith)), (λ p. omega arith))

  box_space : overlaps_of a b ≡ true → SharedSpace a b (common_box a b)
  unfolding common_box common_side spans_meet
  box_space t =
      let m = meets t in
      record { wide = omega (arith, ltb-true _ _ m.on_x); tall = omega (arith, ltb-true _ _ m.on_y); deep = omega (arith, ltb-true _ _ m.on_z); cells = box_cells }

  box_swap : common_box b a ≡ common_box a b
  unfolding common_box
  box_swap =
      rw (
        later_swap a.x b.x,
        later_swap a.y b.y,
        later_swap a.z b.z,
        side_swap a.x a.whd.width b.x b.whd.width,
        side_swap a.y a.whd.height b.y b.whd.height,
        side_swap a.z a.whd.depth b.z b.whd.depth,
      )

  -- which case the test answers
  pub common_shared : overlaps_of a b ≡ true → Some (common_box a b) ≡ common_of a b
  unfolding common_of
  common_shared h = rw h

  pub common_apart : overlaps_of a b ≡ false → None ≡ common_of a b
  unfolding common_of
  common_apart h = rw h

  -- what it answers means, in unit cells
  pub common_means : CommonMeans a b (common_of a b)
  unfolding common_of
  common_means = go (overlaps_of a b) refl
    where
      go : (t : Bool) → overlaps_of a b ≡ t → CommonMeans a b (cond t (Some (common_box a b)) None)
      go true e = box_space e
      go false e = λ s. true_false (sym (shares→overlaps s) ∙ e)

  -- "either way round, the same reply": the common box of b and a is that of a and b
  pub common_swap : common_of b a ≡ common_of a b
  unfolding common_of
  common_swap = rw (box_swap, overlaps_swap)

  -- ---- tests of the three axes, the first of them made alone

  module _ (p : Bool) (x : p ≡ spans_meet a.x a.whd.width b.x b.whd.width) where
    pub first_apart : not p ≡ true → None ≡ common_of a b
    unfolding common_of overlaps_of
    first_apart h = rw (← x, not-true p h)

    module _ (h : not p ≡ false) (q r : Bool)
        (y : q ≡ spans_meet a.y a.whd.height b.y b.whd.height)
        (z : r ≡ spans_meet a.z a.whd.depth b.z b.whd.depth) where
      rest : overlaps_of a b ≡ (q && r)
      unfolding overlaps_of
      rest = rw (← x, not-false p h, ← y, ← z)

      pub rest_apart : not (q && r) ≡ true → None ≡ common_of a b
      rest_apart n = common_apart (rest ∙ not-true (q && r) n)

      pub rest_meet : not (q && r) ≡ false → overlaps_of a b ≡ true
      rest_meet n = rest ∙ not-false (q && r) n

-- a common box is told from none
module _ (a b : BinSection) (c : Option BinSection) (answered : c ≡ common_of a b) where
  pub told : is_some c ≡ overlaps_of a b
  unfolding common_of
  told = ap is_some answered ∙ go (overlaps_of a b)
    where
      go : (t : Bool) → is_some (cond t (Some (common_box a b)) None) ≡ t
      go true = refl
      go false = refl

  pub told_shared : (box : BinSection) → c ≡ Some box → overlaps_of a b ≡ true
  told_shared box e = sym told ∙ ap is_some e

  pub told_apart : c ≡ None → overlaps_of a b ≡ false
  told_apart e = sym told ∙ ap is_some e

-- there is a common box exactly when some cell lies in both
pub common_exact : (a b : BinSection) → ((box : BinSection) × (common_of a b ≡ Some box)) ↔ SharesCell a b
common_exact a b = (
  (λ p. overlaps→shares a b (told_shared a b (common_of a b) refl p.0 p.1)),
  (λ s. (common_box a b, sym (common_shared a b (shares→overlaps a b s)))),
)
