-- Two boxes that join: the joined box has their cells and no other, and their volume; and it lies inside where both do.
use Prim.Native.Nat.{ℕ, ◌+◌, ◌*◌, ◌<◌, min}
use mathlib.Core.Path.{◌≡◌, refl, sym, ap, ◌∙◌}
use mathlib.Core.Logic.{◌⊎◌, inl, inr, ⊎_elim, ◌↔◌}
use mathlib.Core.Bool.{Bool, true, false, ◌&&◌, ◌||◌}
use native.Mathlib.Nat.{add-mul, mul-add, add_comm}
use native.Mathlib.Decide.{dec_lt}
use native.Mathlib.Omega.{arith}
use borrow.Author.Tests.{eqb-true, eq-eqb}
use lib.Dec.{eqb}
use Rattle.lists.proofs.Flags.{and_first, and_second, or_some}
use Rattle.bin_section.specs.declared.section.BinSection.{BinSection}
use Rattle.bin_section.specs.declared.width_height_depth.WidthHeightDepth.{WidthHeightDepth}
use Rattle.bin_section.specs.Sides.{sides, volume_of}
use Rattle.bin_section.specs.Section.{section}
use Rattle.bin_section.specs.Cell.{HasCell}
use Rattle.bin_section.specs.Inside.{Inside}
use Rattle.cells.proofs.Grid.{has, has_in, has_pos, has_cut_x, has_cut_y, has_cut_z}
use Rattle.neighbours.specs.Neighbour.{spans_equal, spans_touch, joins_of, joined_side, joined_box}
use Rattle.neighbours.specs.Leaning.{Ends}

-- ---- what the test means

equal→ : (o₁ s₁ o₂ s₂ : ℕ) → spans_equal o₁ s₁ o₂ s₂ ≡ true → (o₁ ≡ o₂) × (s₁ ≡ s₂)
unfolding spans_equal
equal→ o₁ s₁ o₂ s₂ t = (eqb-true _ _ (and_first (eqb o₁ o₂) (eqb s₁ s₂) t), eqb-true _ _ (and_second (eqb o₁ o₂) (eqb s₁ s₂) t))

touch→ : (o₁ s₁ o₂ s₂ : ℕ) → spans_touch o₁ s₁ o₂ s₂ ≡ true → (o₁ + s₁ ≡ o₂) ⊎ (o₂ + s₂ ≡ o₁)
unfolding spans_touch
touch→ o₁ s₁ o₂ s₂ t = ⊎_elim (λ e. inl (eqb-true _ _ e)) (λ e. inr (eqb-true _ _ e)) (or_some (eqb (o₁ + s₁) o₂) (eqb (o₂ + s₂) o₁) t)

-- the second begins where the first ends, on one axis, and is its like on the others
pub data Beside (a b : BinSection) : Type 0 where
  along_x : a.x + a.whd.width ≡ b.x → a.y ≡ b.y → a.whd.height ≡ b.whd.height → a.z ≡ b.z → a.whd.depth ≡ b.whd.depth → Beside a b
  along_y : a.y + a.whd.height ≡ b.y → a.x ≡ b.x → a.whd.width ≡ b.whd.width → a.z ≡ b.z → a.whd.depth ≡ b.whd.depth → Beside a b
  along_z : a.z + a.whd.depth ≡ b.z → a.x ≡ b.x → a.whd.width ≡ b.whd.width → a.y ≡ b.y → a.whd.height ≡ b.whd.height → Beside a b

module _ (a b : BinSection) where
  abbrev equal_X : Bool
  equal_X = spans_equal a.x a.whd.width b.x b.whd.width

  abbrev equal_Y : Bool
  equal_Y = spans_equal a.y a.whd.height b.y b.whd.height

  abbrev equal_Z : Bool
  equal_Z = spans_equal a.z a.whd.depth b.z b.whd.depth

  abbrev touch_X : Bool
  touch_X = spans_touch a.x a.whd.width b.x b.whd.width

  abbrev touch_Y : Bool
  touch_Y = spans_touch a.y a.whd.height b.y b.whd.height

  abbrev touch_Z : Bool
  touch_Z = spans_touch a.z a.whd.depth b.z b.whd.depth

  on_x : (touch_X && (equal_Y && equal_Z)) ≡ true → Beside a b ⊎ Beside b a
  on_x t =
      let r = and_second touch_X (equal_Y && equal_Z) t in
      let y = equal→ a.y a.whd.height b.y b.whd.height (and_first equal_Y equal_Z r) in
      let z = equal→ a.z a.whd.depth b.z b.whd.depth (and_second equal_Y equal_Z r) in
      ⊎_elim (λ e. inl (along_x e y.0 y.1 z.0 z.1)) (λ e. inr (along_x e (sym y.0) (sym y.1) (sym z.0) (sym z.1)))
      (touch→ a.x a.whd.width b.x b.whd.width (and_first touch_X (equal_Y && equal_Z) t))

  on_y : (equal_X && (touch_Y && equal_Z)) ≡ true → Beside a b ⊎ Beside b a
  on_y t =
      let r = and_second equal_X (touch_Y && equal_Z) t in
      let x = equal→ a.x a.whd.width b.x b.whd.width (and_first equal_X (touch_Y && equal_Z) t) in
      let z = equal→ a.z a.whd.depth b.z b.whd.depth (and_second touch_Y equal_Z r) in
      ⊎_elim (λ e. inl (along_y e x.0 x.1 z.0 z.1)) (λ e. inr (along_y e (sym x.0) (sym x.1) (sym z.0) (sym z.1)))
      (touch→ a.y a.whd.height b.y b.whd.height (and_first touch_Y equal_Z r))

  on_z : (equal_X && (equal_Y && touch_Z)) ≡ true → Beside a b ⊎ Beside b a
  on_z t =
      let r = and_second equal_X (equal_Y && touch_Z) t in
      let x = equal→ a.x a.whd.width b.x b.whd.width (and_first equal_X (equal_Y && touch_Z) t) in
      let y = equal→ a.y a.whd.height b.y b.whd.height (and_first equal_Y touch_Z r) in
      ⊎_elim (λ e. inl (along_z e x.0 x.1 y.0 y.1)) (λ e. inr (along_z e (sym x.0) (sym x.1) (sym y.0) (sym y.1)))
      (touch→ a.z a.whd.depth b.z b.whd.depth (and_second equal_Y touch_Z r))

  pub joins→ : joins_of a b ≡ true → Beside a b ⊎ Beside b a
  unfolding joins_of
  joins→ t =
      ⊎_elim on_x (λ u. ⊎_elim on_y on_z (or_some (equal_X && (touch_Y && equal_Z)) (equal_X && (equal_Y && touch_Z)) u))
      (or_some (touch_X && (equal_Y && equal_Z)) ((equal_X && (touch_Y && equal_Z)) || (equal_X && (equal_Y && touch_Z))) t)

-- ---- the quick test: two that join have one origin on two axes

two_of : (t : Bool) → ((t && true) || (true && (t || true))) ≡ true
two_of true = refl
two_of false = refl

two_first : (t : Bool) → ((true && t) || (true && (true || t))) ≡ true
two_first true = refl
two_first false = refl

abbrev pub two_origins : BinSection → BinSection → Bool
two_origins a b = (eqb a.x b.x && eqb a.y b.y) || (eqb a.z b.z && (eqb a.x b.x || eqb a.y b.y))

beside_aligned : (a b : BinSection) → Beside a b → (two_origins a b ≡ true) × (two_origins b a ≡ true)
beside_aligned a b (along_x e y h z d) = rw (y, z, eq-eqb b.y b.y refl, eq-eqb b.z b.z refl) (two_of (eqb a.x b.x), two_of (eqb b.x a.x))
beside_aligned a b (along_y e x w z d) = rw (x, z, eq-eqb b.x b.x refl, eq-eqb b.z b.z refl) (two_first (eqb a.y b.y), two_first (eqb b.y a.y))
beside_aligned a b (along_z e x w y h) = rw (x, y, eq-eqb b.x b.x refl, eq-eqb b.y b.y refl) (refl, refl)

pub joins_aligned : (a b : BinSection) → joins_of a b ≡ true → two_origins a b ≡ true
joins_aligned a b t = ⊎_elim (λ p. (beside_aligned a b p).0) (λ p. (beside_aligned b a p).1) (joins→ a b t)

-- ---- the joined box

side_swap : (o₁ s₁ o₂ s₂ : ℕ) → joined_side o₁ s₁ o₂ s₂ ≡ joined_side o₂ s₂ o₁ s₁
unfolding joined_side
side_swap o₁ s₁ o₂ s₂ = omega arith

side_equal : (o₁ s₁ o₂ s₂ : ℕ) → o₁ ≡ o₂ → s₁ ≡ s₂ → (min o₁ o₂ ≡ o₁) × (joined_side o₁ s₁ o₂ s₂ ≡ s₁)
unfolding joined_side
side_equal o₁ s₁ o₂ s₂ e f = (omega arith, omega arith)

side_touch : (o₁ s₁ o₂ s₂ : ℕ) → o₁ + s₁ ≡ o₂ → (min o₁ o₂ ≡ o₁) × (joined_side o₁ s₁ o₂ s₂ ≡ s₁ + s₂)
unfolding joined_side
side_touch o₁ s₁ o₂ s₂ e = (omega arith, omega arith)

start_swap : (m n : ℕ) → min m n ≡ min n m
start_swap m n = omega arith

pub joined_swap : (a b : BinSection) → joined_box a b ≡ joined_box b a
unfolding joined_box
joined_swap a b =
    rw (
      start_swap a.x b.x,
      start_swap a.y b.y,
      start_swap a.z b.z,
      side_swap a.x a.whd.width b.x b.whd.width,
      side_swap a.y a.whd.height b.y b.whd.height,
      side_swap a.z a.whd.depth b.z b.whd.depth,
    )

-- a weight of boxes that the joined box has from both
pub record Adds (w : BinSection → ℕ) : Type 0 where
  pub at : (a b : BinSection) → Beside a b → w (joined_box a b) ≡ w a + w b

pub adds_joined : (w : BinSection → ℕ) → Adds w → (a b : BinSection) → joins_of a b ≡ true → w (joined_box a b) ≡ w a + w b
adds_joined w adds a b t =
    ⊎_elim (adds.at a b) (λ p. ap w (joined_swap a b) ∙ adds.at b a p ∙ add_comm (w b) (w a)) (joins→ a b t)

-- two boxes beside each other, both by the first one's numbers
module _ (a b : BinSection) where
  abbrev X : ℕ
  X = a.x

  abbrev Y : ℕ
  Y = a.y

  abbrev Z : ℕ
  Z = a.z

  abbrev W : ℕ
  W = a.whd.width

  abbrev H : ℕ
  H = a.whd.height

  abbrev D : ℕ
  D = a.whd.depth

  -- what is said of a weight where a box is cut along each axis
  pub record Cuts (w : BinSection → ℕ) : Type 0 where
    pub cut_x : (s : ℕ) → w (section X Y Z (sides (W + s) H D)) ≡ w a + w (section (X + W) Y Z (sides s H D))
    pub cut_y : (s : ℕ) → w (section X Y Z (sides W (H + s) D)) ≡ w a + w (section X (Y + H) Z (sides W s D))
    pub cut_z : (s : ℕ) → w (section X Y Z (sides W H (D + s))) ≡ w a + w (section X Y (Z + D) (sides W H s))

  -- it adds up where they are joined again
  pub beside_cut : (w : BinSection → ℕ) → Cuts w → Beside a b → w (joined_box a b) ≡ w a + w b
  unfolding joined_box
  beside_cut w c (along_x e y h z d) =
      let p = side_touch X W b.x b.whd.width e in
      let q = side_equal Y H b.y b.whd.height y h in
      let r = side_equal Z D b.z b.whd.depth z d in
      rw (p.0, p.1, q.0, q.1, r.0, r.1) (c.cut_x b.whd.width ∙ rw (e, y, h, z, d))
  beside_cut w c (along_y e x v z d) =
      let p = side_touch Y H b.y b.whd.height e in
      let q = side_equal X W b.x b.whd.width x v in
      let r = side_equal Z D b.z b.whd.depth z d in
      rw (p.0, p.1, q.0, q.1, r.0, r.1) (c.cut_y b.whd.height ∙ rw (e, x, v, z, d))
  beside_cut w c (along_z e x v y h) =
      let p = side_touch Z D b.z b.whd.depth e in
      let q = side_equal X W b.x b.whd.width x v in
      let r = side_equal Y H b.y b.whd.height y h in
      rw (p.0, p.1, q.0, q.1, r.0, r.1) (c.cut_z b.whd.depth ∙ rw (e, x, v, y, h))

-- whether a box has a cell, and its volume
pub has_adds : (cx cy cz : ℕ) → Adds (λ b. has b cx cy cz)
has_adds cx cy cz =
    record {
      at = λ a b.
          beside_cut a b (λ b. has b cx cy cz)
          (record {
            cut_x = λ s. has_cut_x a.x a.y a.z a.whd.width a.whd.height a.whd.depth s cx cy cz;
            cut_y = λ s. has_cut_y a.x a.y a.z a.whd.width a.whd.height a.whd.depth s cx cy cz;
            cut_z = λ s. has_cut_z a.x a.y a.z a.whd.width a.whd.height a.whd.depth s cx cy cz;
          });
    }

pub volume_adds : Adds (λ b. volume_of b.whd)
volume_adds =
    record {
      at = λ a b.
          beside_cut a b (λ b. volume_of b.whd)
          (record {
            cut_x = λ s. rw (add-mul a.whd.width s a.whd.height) (add-mul (a.whd.width * a.whd.height) (s * a.whd.height) a.whd.depth);
            cut_y = λ s. rw (mul-add a.whd.width a.whd.height s) (add-mul (a.whd.width * a.whd.height) (a.whd.width * s) a.whd.depth);
            cut_z = λ s. mul-add (a.whd.width * a.whd.height) a.whd.depth s;
          });
    }

-- a cell lies in the joined box exactly when it lies in one of the two
pub joined_cells : (a b : BinSection) → joins_of a b ≡ true → (cx cy cz : ℕ) → HasCell (joined_box a b) cx cy cz ↔ (HasCell a cx cy cz ⊎ HasCell b cx cy cz)
joined_cells a b t cx cy cz =
    let sum = adds_joined (λ b. has b cx cy cz) (has_adds cx cy cz) a b t in
    let one : HasCell (joined_box a b) cx cy cz → Dec (0 < has a cx cy cz) → HasCell a cx cy cz ⊎ HasCell b cx cy cz =
    λ p d. elim d [
      | yes l ↦ inl (has_pos a cx cy cz l)
      | no l ↦ inr (has_pos b cx cy cz (omega (arith, sum, has_in (joined_box a b) cx cy cz p)))
    ] in (
      λ p. one p (dec_lt 0 (has a cx cy cz)),
      ⊎_elim
          (λ p. has_pos (joined_box a b) cx cy cz (omega (arith, sum, has_in a cx cy cz p)))
          (λ p. has_pos (joined_box a b) cx cy cz (omega (arith, sum, has_in b cx cy cz p))),
    )

-- ---- what holds of both holds of the box from the earlier starts to the later ends

pub joined_inside : (whd : WidthHeightDepth) (a b : BinSection) → Inside whd a → Inside whd b → Inside whd (joined_box a b)
unfolding joined_box joined_side
joined_inside whd a b p q = omega arith

pub joined_ends : (a b : BinSection) → Ends a → Ends b → Ends (joined_box a b)
unfolding joined_box joined_side
joined_ends a b p q = omega arith
