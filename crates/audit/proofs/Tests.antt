-- From the tests of the checks to cells: what it means that they fire, and that they do not.
use Prim.Native.Nat.{ℕ, ◌≤◌}
use mathlib.Core.Path.{◌≡◌}
use mathlib.Core.List.{List}
use mathlib.Core.Bool.{true, ◌&&◌}
use borrow.Author.Tests.{leb-true}
use lib.Dec.{ltb, leb}
use lib.ListN.{length}
use Rattle.lists.proofs.Flags.{and_first, and_second}
use Rattle.lists.proofs.Lowests.{None}
use Rattle.bin_section.specs.declared.width_height_depth.WidthHeightDepth.{WidthHeightDepth}
use Rattle.bin_section.specs.declared.section.BinSection.{BinSection}
use Rattle.bin_section.specs.Sides.{side_ok, sides_ok}
use Rattle.bin_section.specs.Leaning.{Small}
use Rattle.bin_section.specs.Inside.{outside}
use Rattle.bin_section.proofs.Bounding.{not_outside→inside, inside→not_outside}
use Rattle.cells.specs.Whole.{box_at, AllInside}

-- ---- check 2

side_small : (s : ℕ) → side_ok s ≡ true → s ≤ 65535
unfolding side_ok
side_small s h = leb-true _ _ (and_second (ltb 0 s) (leb s 65535) h)

pub chamber_small : (whd : WidthHeightDepth) → sides_ok whd ≡ true → Small whd
chamber_small whd h =
    let w = side_ok whd.width in
    let t = side_ok whd.height in
    let d = side_ok whd.depth in
    let td = and_second w (t && d) h in
    record {
      width_small = side_small _ (and_first w (t && d) h);
      height_small = side_small _ (and_first t d td);
      depth_small = side_small _ (and_second t d td);
    }

-- ---- 16

pub none_inside : (whd : WidthHeightDepth) (boxes : List BinSection) → None (length boxes) (λ i. outside whd (box_at boxes i)) → AllInside whd boxes
none_inside whd boxes p = record { at = λ i h. not_outside→inside whd (box_at boxes i) (p.at i h) }

pub inside_none : (whd : WidthHeightDepth) (boxes : List BinSection) → AllInside whd boxes → None (length boxes) (λ i. outside whd (box_at boxes i))
inside_none whd boxes p = record { at = λ i h. inside→not_outside whd (box_at boxes i) (p.at i h) }
