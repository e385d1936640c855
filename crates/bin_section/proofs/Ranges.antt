-- What the test `sides_ok` means: "Sides 1 to 65,535."
use Prim.Native.Nat.{ℕ, ◌≤◌, ◌<◌}
use mathlib.Core.Path.{◌≡◌}
use mathlib.Core.Bool.{true}
use native.Mathlib.Omega.{arith}
use borrow.Author.Tests.{ltb-true, leb-true, lt-ltb, le-leb}
use Rattle.lists.proofs.Flags.{and_both, and_first, and_second}
use Rattle.bin_section.specs.declared.width_height_depth.WidthHeightDepth.{WidthHeightDepth}
use Rattle.bin_section.specs.Sides.{side_ok, sides_ok}
use Rattle.bin_section.specs.Leaning.{Small}

pub record InRange (side : ℕ) : Type 0 where
  pub some : 0 < side
  pub most : side ≤ 65535

pub record SidesInRange (whd : WidthHeightDepth) : Type 0 where
  pub width_ok : InRange whd.width
  pub height_ok : InRange whd.height
  pub depth_ok : InRange whd.depth

module _ (whd : WidthHeightDepth) where
  pub sides→range : sides_ok whd ≡ true → SidesInRange whd
  unfolding side_ok
  sides→range t = search (and_first, and_second, ltb-true, leb-true)

  pub range→sides : SidesInRange whd → sides_ok whd ≡ true
  unfolding side_ok
  range→sides h = search (and_both, lt-ltb, le-leb)

  pub range→small : SidesInRange whd → Small whd
  range→small h = omega arith
