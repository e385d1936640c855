-- The geometric core: a section is the rectangle placed in it and the three that remain, cell by cell, in each of the six splits.
use Prim.Native.Nat.{ℕ, zero, suc, ◌+◌, ◌-◌, ◌<◌}
use mathlib.Core.Path.{◌≡◌, refl, sym, ap, ◌∙◌}
use mathlib.Core.List.{List, [], ◌∷◌}
use mathlib.Core.Bool.{Bool, true, false, cond}
use native.Mathlib.Omega.{arith}
use borrow.Author.Tests.{eqb-true}
use lib.Dec.{eqb}
use lib.ListN.{get_or}
use Rattle.lists.specs.Sort.{sort_by}
use Rattle.lists.proofs.Sorts.{sort_permuted}
use Rattle.bin_section.specs.declared.rect_to_insert.RectToInsert.{RectToInsert}
use Rattle.bin_section.specs.declared.section.BinSection.{BinSection}
use Rattle.bin_section.specs.Sides.{sides, volume_of}
use Rattle.bin_section.specs.Section.{section}
use Rattle.cells.proofs.Grid.{has, has_cut_x, has_cut_y, has_cut_z, has_none}
use Rattle.lists.proofs.Totals.{total, total_append, total_permuted}
use Rattle.cells.proofs.Held.{held}
use Rattle.try_place.specs.Splits.{six_splits}
use Rattle.try_place.specs.Try.{Fits}
use Rattle.packing_rules.specs.Appended.{larger, kept_one, kept, appended_of}

-- a box cut in two along one axis, with the whole side named
module _ (x y z w h d s S cx cy cz : ℕ) where
  cut_x : w + s ≡ S → has (section x y z (sides S h d)) cx cy cz ≡ has (section x y z (sides w h d)) cx cy cz + has (section (x + w) y z (sides s h d)) cx cy cz
  cut_x e = sym (ap (λ (t : ℕ). has (section x y z (sides t h d)) cx cy cz) e) ∙ has_cut_x x y z w h d s cx cy cz

  cut_y : h + s ≡ S → has (section x y z (sides w S d)) cx cy cz ≡ has (section x y z (sides w h d)) cx cy cz + has (section x (y + h) z (sides w s d)) cx cy cz
  cut_y e = sym (ap (λ (t : ℕ). has (section x y z (sides w t d)) cx cy cz) e) ∙ has_cut_y x y z w h d s cx cy cz

  cut_z : d + s ≡ S → has (section x y z (sides w h S)) cx cy cz ≡ has (section x y z (sides w h d)) cx cy cz + has (section x y (z + d) (sides w h s)) cx cy cz
  cut_z e = sym (ap (λ (t : ℕ). has (section x y z (sides w h t)) cx cy cz) e) ∙ has_cut_z x y z w h d s cx cy cz

-- the rectangle where it is placed: at the section's origin
abbrev pub corner_box : BinSection → RectToInsert → BinSection
corner_box s r = section s.x s.y s.z r.whd

module _ (s : BinSection) (r : RectToInsert) (f : Fits s r) (cx cy cz : ℕ) where
  abbrev X : ℕ
  X = s.x

  abbrev Y : ℕ
  Y = s.y

  abbrev Z : ℕ
  Z = s.z

  abbrev W : ℕ
  W = s.whd.width

  abbrev H : ℕ
  H = s.whd.height

  abbrev D : ℕ
  D = s.whd.depth

  abbrev w : ℕ
  w = r.whd.width

  abbrev h : ℕ
  h = r.whd.height

  abbrev d : ℕ
  d = r.whd.depth

  ew : w + (W - w) ≡ W
  ew = omega arith

  eh : h + (H - h) ≡ H
  eh = omega arith

  ed : d + (D - d) ≡ D
  ed = omega arith

  on_X : (b c : ℕ) → has (section X Y Z (sides W b c)) cx cy cz ≡ has (section X Y Z (sides w b c)) cx cy cz + has (section (X + w) Y Z (sides (W - w) b c)) cx cy cz
  on_X b c = cut_x X Y Z w b c (W - w) W cx cy cz ew

  on_Y : (a c : ℕ) → has (section X Y Z (sides a H c)) cx cy cz ≡ has (section X Y Z (sides a h c)) cx cy cz + has (section X (Y + h) Z (sides a (H - h) c)) cx cy cz
  on_Y a c = cut_y X Y Z a h c (H - h) H cx cy cz eh

  on_Z : (a b : ℕ) → has (section X Y Z (sides a b D)) cx cy cz ≡ has (section X Y Z (sides a b d)) cx cy cz + has (section X Y (Z + d) (sides a b (D - d))) cx cy cz
  on_Z a b = cut_z X Y Z a b d (D - d) D cx cy cz ed

  -- each of the six: three cuts, one along each axis
  pub row_cut : (k : ℕ) → k < 6 → has s cx cy cz ≡ has (corner_box s r) cx cy cz + held (get_or (six_splits s r) k []) cx cy cz
  unfolding six_splits total
  row_cut zero l = omega (arith, on_X H D, on_Y w D, on_Z w h)
  row_cut (suc zero) l = omega (arith, on_Y W D, on_X h D, on_Z w h)
  row_cut (suc (suc zero)) l = omega (arith, on_X H D, on_Z w H, on_Y w d)
  row_cut (suc (suc (suc zero))) l = omega (arith, on_Z W H, on_X H d, on_Y w d)
  row_cut (suc (suc (suc (suc zero)))) l = omega (arith, on_Y W D, on_Z W h, on_X h d)
  row_cut (suc (suc (suc (suc (suc zero))))) l = omega (arith, on_Z W H, on_Y W d, on_X h d)
  row_cut (suc (suc (suc (suc (suc (suc k)))))) l = absurd (omega arith)

-- ---- boxes of no volume have no cell

held_kept_one : (b : BinSection) (cx cy cz : ℕ) → held (kept_one b) cx cy cz ≡ has b cx cy cz
unfolding kept_one total
held_kept_one b cx cy cz = go (eqb (volume_of b.whd) 0) refl
  where
    go : (t : Bool) → eqb (volume_of b.whd) 0 ≡ t → held (cond t [] (b ∷ [])) cx cy cz ≡ has b cx cy cz
    go true e = sym (has_none b cx cy cz (eqb-true _ _ e))
    go false e = omega arith

held_kept : (bs : List BinSection) (cx cy cz : ℕ) → held (kept bs) cx cy cz ≡ held bs cx cy cz
unfolding kept total
held_kept [] cx cy cz = refl
held_kept (b ∷ bs) cx cy cz =
    omega (arith, total_append (λ b. has b cx cy cz) (kept_one b) (kept bs), held_kept_one b cx cy cz, held_kept bs cx cy cz)

pub held_appended : (t : List BinSection) (cx cy cz : ℕ) → held (appended_of t) cx cy cz ≡ held t cx cy cz
unfolding appended_of
held_appended t cx cy cz =
    held_kept (sort_by larger t) cx cy cz ∙ sym (total_permuted (λ b. has b cx cy cz) (sort_permuted larger t))
