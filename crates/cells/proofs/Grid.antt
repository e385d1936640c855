-- Sums over the cells of a grid, and a box's cells counted: they are as many as its volume says.
use mathlib.Core.Path.{◌≡◌, refl, sym, ap, ap₂, ◌∙◌}
use Prim.Native.Nat.{ℕ, zero, suc, ◌+◌, ◌-◌, ◌*◌, ◌≤◌, ◌<◌, min}
use mathlib.Core.Logic.{◌⊎◌, inl, inr}
use native.Mathlib.Nat.{add_assoc, add-mul, mul-add, mul-pos, eq-zero-or-pos, mul_assoc, mul-one, mul_comm, zero-mul, mul-le-mul, mul-zero}
use native.Mathlib.Omega.{arith}
use Rattle.lists.specs.Sum.{sum_to}
use Rattle.lists.proofs.Sums.{sum_ext, sum_add, sum_left, sum_right, sum_all, sum_most, sum_full, sum_less}
use Rattle.bin_section.specs.declared.width_height_depth.WidthHeightDepth.{WidthHeightDepth}
use Rattle.bin_section.specs.declared.section.BinSection.{BinSection}
use Rattle.bin_section.specs.Sides.{sides, volume_of}
use Rattle.bin_section.specs.Section.{section}
use Rattle.bin_section.specs.Cell.{Within, HasCell}
use Rattle.cells.specs.Whole.{Inside, InChamber}

-- ---- along one axis

-- 1 if c has reached k, else 0
unfoldable reach : ℕ → ℕ → ℕ
reach k c = min 1 (suc c - k)

reach_sum : (n k : ℕ) → sum_to n (reach k) ≡ n - k
unfolding sum_to reach
reach_sum zero k = omega arith
reach_sum (suc n) k = omega (arith, reach_sum n k)

-- 1 if c is one of the s numbers from o on, else 0
bit : ℕ → ℕ → ℕ → ℕ
bit o s c = reach o c - reach (o + s) c

bit_le : (o s c : ℕ) → bit o s c ≤ 1
unfolding bit reach
bit_le o s c = omega arith

bit_in : (o s c : ℕ) → Within o s c → bit o s c ≡ 1
unfolding bit reach
bit_in o s c p = omega arith

bit_pos : (o s c : ℕ) → 0 < bit o s c → Within o s c
unfolding bit reach
bit_pos o s c p = omega arith

bit_reach : (o s c : ℕ) → reach o c ≡ bit o s c + reach (o + s) c
unfolding bit reach
bit_reach o s c = omega arith

-- the length of an interval, counted
bit_sum : (n o s : ℕ) → o + s ≤ n → sum_to n (bit o s) ≡ s
bit_sum n o s h =
    let e : sum_to n (reach o) ≡ sum_to n (bit o s) + sum_to n (reach (o + s)) =
    sum_ext n (reach o) (λ c. bit o s c + reach (o + s) c) (λ c l. bit_reach o s c) ∙ sum_add n (bit o s) (reach (o + s)) in
    omega (arith, reach_sum n o, reach_sum n (o + s))

-- an interval in two parts
bit_cut : (o s t c : ℕ) → bit o (s + t) c ≡ bit o s c + bit (o + s) t c
bit_cut o s t c =
    let e : reach (o + s + t) c ≡ reach (o + (s + t)) c = ap (λ (k : ℕ). reach k c) (add_assoc o s t) in
    omega (arith, bit_reach o (s + t) c, bit_reach o s c, bit_reach (o + s) t c)

-- ---- whether a box has a cell

-- 1 if the box has the cell, else 0
pub has : BinSection → ℕ → ℕ → ℕ → ℕ
has b cx cy cz = bit b.x b.whd.width cx * (bit b.y b.whd.height cy * bit b.z b.whd.depth cz)

pub has_le : (b : BinSection) (cx cy cz : ℕ) → has b cx cy cz ≤ 1
unfolding has
has_le b cx cy cz =
    mul-le-mul (bit_le b.x b.whd.width cx)
    (mul-le-mul (bit_le b.y b.whd.height cy) (bit_le b.z b.whd.depth cz))

pub has_in : (b : BinSection) (cx cy cz : ℕ) → HasCell b cx cy cz → 0 < has b cx cy cz
unfolding has
has_in b cx cy cz p =
    rw (
      bit_in b.x b.whd.width cx p.along_X,
      bit_in b.y b.whd.height cy p.along_Y,
      bit_in b.z b.whd.depth cz p.along_Z,
    )
    (omega arith)

pos_left : (m n : ℕ) → 0 < m * n → 0 < m
pos_left zero n p = absurd (omega (arith, zero-mul n))
pos_left (suc m) n p = omega arith

pos_right : (m n : ℕ) → 0 < m * n → 0 < n
pos_right m n p = pos_left n m (rw mul_comm p)

pub has_pos : (b : BinSection) (cx cy cz : ℕ) → 0 < has b cx cy cz → HasCell b cx cy cz
unfolding has
has_pos b cx cy cz p =
    let ix = bit b.x b.whd.width cx in
    let iy = bit b.y b.whd.height cy in
    let iz = bit b.z b.whd.depth cz in
    let q = pos_right ix (iy * iz) p in
    record {
      along_X = bit_pos b.x b.whd.width cx (pos_left ix (iy * iz) p);
      along_Y = bit_pos b.y b.whd.height cy (pos_left iy iz q);
      along_Z = bit_pos b.z b.whd.depth cz (pos_right iy iz q);
    }

-- a box cut in two along one axis
module _ (x y z w h d s cx cy cz : ℕ) where
  pub has_cut_x :
      has (section x y z (sides (w + s) h d)) cx cy cz
      ≡ has (section x y z (sides w h d)) cx cy cz + has (section (x + w) y z (sides s h d)) cx cy cz
  unfolding has
  has_cut_x = rw (bit_cut x w s cx) (add-mul (bit x w cx) (bit (x + w) s cx) (bit y h cy * bit z d cz))

  pub has_cut_y :
      has (section x y z (sides w (h + s) d)) cx cy cz
      ≡ has (section x y z (sides w h d)) cx cy cz + has (section x (y + h) z (sides w s d)) cx cy cz
  unfolding has
  has_cut_y =
      rw (bit_cut y h s cy, add-mul (bit y h cy) (bit (y + h) s cy) (bit z d cz))
      (mul-add (bit x w cx) (bit y h cy * bit z d cz) (bit (y + h) s cy * bit z d cz))

  pub has_cut_z :
      has (section x y z (sides w h (d + s))) cx cy cz
      ≡ has (section x y z (sides w h d)) cx cy cz + has (section x y (z + d) (sides w h s)) cx cy cz
  unfolding has
  has_cut_z =
      rw (bit_cut z d s cz, mul-add (bit y h cy) (bit z d cz) (bit (z + d) s cz))
      (mul-add (bit x w cx) (bit y h cy * bit z d cz) (bit y h cy * bit (z + d) s cz))

-- a box of no volume has no cell
pub has_none : (b : BinSection) (cx cy cz : ℕ) → volume_of b.whd ≡ 0 → has b cx cy cz ≡ 0
has_none b cx cy cz e = go (eq-zero-or-pos (has b cx cy cz))
  where
    go : (has b cx cy cz ≡ 0) ⊎ (0 < has b cx cy cz) → has b cx cy cz ≡ 0
    go (inl z) = z
    go (inr p) =
        let c = has_pos b cx cy cz p in
        let wide : 0 < b.whd.width = omega arith in
        let tall : 0 < b.whd.height = omega arith in
        let deep : 0 < b.whd.depth = omega arith in
        absurd (omega (arith, mul-pos (mul-pos wide tall) deep))

-- ---- the sum over a chamber's cells

pub cells : WidthHeightDepth → (ℕ → ℕ → ℕ → ℕ) → ℕ
cells s f = sum_to s.width (λ cx. sum_to s.height (λ cy. sum_to s.depth (f cx cy)))

-- a box that lies inside has as many cells as its volume says
pub has_cells : (s : WidthHeightDepth) (b : BinSection) → Inside s b → cells s (has b) ≡ volume_of b.whd
unfolding cells has
has_cells s b p =
    simp (sum_left, sum_right)
    (ap₂ (λ (u v : ℕ). u * v) (bit_sum s.width b.x b.whd.width p.right)
    (ap₂ (λ (u v : ℕ). u * v) (bit_sum s.height b.y b.whd.height p.above)
    (bit_sum s.depth b.z b.whd.depth p.behind))
    ∙ sym (mul_assoc b.whd.width b.whd.height b.whd.depth))

pub cells_zero : (s : WidthHeightDepth) → cells s (λ cx cy cz. 0) ≡ 0
unfolding cells
cells_zero s =
    sum_all s.width 0 _ (λ cx hx. sum_all s.height 0 _ (λ cy hy. sum_all s.depth 0 _ (λ cz hz. refl) ∙ mul-zero s.depth) ∙ mul-zero s.height)
    ∙ mul-zero s.width

pub cells_add : (s : WidthHeightDepth) (f g : ℕ → ℕ → ℕ → ℕ) → cells s (λ cx cy cz. f cx cy cz + g cx cy cz) ≡ cells s f + cells s g
unfolding cells
cells_add s f g = simp sum_add

room : (s : WidthHeightDepth) → s.width * (s.height * (s.depth * 1)) ≡ volume_of s
room s = simp mul-one (sym (mul_assoc s.width s.height s.depth))

-- numbers on the chamber's cells that are at most 1
module _ (s : WidthHeightDepth) (f : ℕ → ℕ → ℕ → ℕ) (one : (cx cy cz : ℕ) → f cx cy cz ≤ 1) where
  line : (cx cy : ℕ) → sum_to s.depth (f cx cy) ≤ s.depth * 1
  line cx cy = sum_most s.depth 1 (f cx cy) (λ cz h. one cx cy cz)

  layer : (cx : ℕ) → sum_to s.height (λ cy. sum_to s.depth (f cx cy)) ≤ s.height * (s.depth * 1)
  layer cx = sum_most s.height (s.depth * 1) (λ cy. sum_to s.depth (f cx cy)) (λ cy h. line cx cy)

  pub cells_most : cells s f ≤ volume_of s
  unfolding cells
  cells_most =
      rw (← room s)
      (sum_most s.width (s.height * (s.depth * 1)) (λ cx. sum_to s.height (λ cy. sum_to s.depth (f cx cy))) (λ cx h. layer cx))

  pub cells_full : cells s f ≡ volume_of s → (cx cy cz : ℕ) → InChamber s cx cy cz → f cx cy cz ≡ 1
  unfolding cells
  cells_full e cx cy cz h =
      let ex = sum_full s.width (s.height * (s.depth * 1)) (λ x. sum_to s.height (λ y. sum_to s.depth (f x y))) (λ x g. layer x) (e ∙ sym (room s)) cx h.in_X in
      let ey = sum_full s.height (s.depth * 1) (λ y. sum_to s.depth (f cx y)) (λ y g. line cx y) ex cy h.in_Y in
      sum_full s.depth 1 (f cx cy) (λ z g. one cx cy z) ey cz h.in_Z

-- each is 1
pub cells_all : (s : WidthHeightDepth) (f : ℕ → ℕ → ℕ → ℕ) → ((cx cy cz : ℕ) → InChamber s cx cy cz → f cx cy cz ≡ 1) → cells s f ≡ volume_of s
unfolding cells
cells_all s f e =
    sum_all s.width (s.height * (s.depth * 1)) _
    (λ cx hx.
    sum_all s.height (s.depth * 1) _
    (λ cy hy. sum_all s.depth 1 (f cx cy) (λ cz hz. e cx cy cz (record { in_X = hx; in_Y = hy; in_Z = hz }))))
    ∙ room s

-- a cell that is short of 1
pub record Short (s : WidthHeightDepth) (f : ℕ → ℕ → ℕ → ℕ) : Type 0 where
  pub cx : ℕ
  pub cy : ℕ
  pub cz : ℕ
  pub cell : InChamber s cx cy cz
  pub short : f cx cy cz ≡ 0

pub cells_less : (s : WidthHeightDepth) (f : ℕ → ℕ → ℕ → ℕ) → cells s f < volume_of s → Short s f
unfolding cells
cells_less s f l =
    let ex = sum_less s.width (s.height * (s.depth * 1)) (λ x. sum_to s.height (λ y. sum_to s.depth (f x y))) (rw (room s) l) in
    let ey = sum_less s.height (s.depth * 1) (λ y. sum_to s.depth (f ex.0 y)) ex.2 in
    let ez = sum_less s.depth 1 (f ex.0 ey.0) ey.2 in
    record {
      cx = ex.0;
      cy = ey.0;
      cz = ez.0;
      cell = record { in_X = ex.1; in_Y = ey.1; in_Z = ez.1 };
      short = omega (arith, ez.2);
    }
