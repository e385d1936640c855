-- What holds of a list when all that join are joined: nothing is lost.
use Prim.Native.Nat.{ℕ, ◌+◌, ◌<◌}
use mathlib.Core.Path.{◌≡◌, refl, sym, ap, ◌∙◌}
use mathlib.Core.Logic.{◌↔◌}
use mathlib.Core.List.{List, [], ◌∷◌}
use native.Mathlib.Omega.{arith}
use Rattle.lists.specs.Sort.{Each}
use Rattle.lists.proofs.Totals.{total}
use Rattle.bin_section.specs.declared.section.BinSection.{BinSection}
use Rattle.bin_section.specs.declared.rect_to_insert.RectToInsert.{RectToInsert}
use Rattle.bin_section.specs.Sides.{volume_of}
use Rattle.bin_section.specs.Boxes.{volumes}
use Rattle.bin_section.specs.Cell.{HasCell}
use Rattle.cells.proofs.Grid.{has}
use Rattle.cells.specs.Whole.{Apart}
use Rattle.cells.proofs.Held.{held, held_some, held_found, apart_once, once_apart}
use Rattle.try_place.specs.Try.{Fits}
use Rattle.neighbours.specs.Neighbour.{joined_side, joined_box}
use Rattle.neighbours.specs.Joining.{join_all}
use Rattle.neighbours.specs.Means.{Some, JoinMeans}
use Rattle.neighbours.proofs.Neighbouring.{Adds, has_adds, volume_adds}
use Rattle.neighbours.proofs.Steps.{none_join, total_joined, each-joined, some_joined, all_keeps, all_none}

-- a weight that adds up is the same afterwards
pub total_all : (w : BinSection → ℕ) → Adds w → (free : List BinSection) → total w (join_all free).free ≡ total w free
total_all w adds free = all_keeps (λ xs. total w xs ≡ total w free) (λ xs p two e. total_joined xs p two w adds ∙ e) free refl

-- what the joined box has from both, each section has afterwards
pub each_all : (P : BinSection → Type 0) → ((a b : BinSection) → P a → P b → P (joined_box a b)) → (free : List BinSection) → Each P free → Each P (join_all free).free
each_all P both free = all_keeps (λ xs. Each P xs) (λ xs p two. each-joined xs p two both) free

-- what it has from one of the two, some section has afterwards
some_all :
    (P : BinSection → Type 0) → ((a b : BinSection) → P a → P (joined_box a b)) → ((a b : BinSection) → P b → P (joined_box a b))
    → (free : List BinSection) → Some P free → Some P (join_all free).free
some_all P first second free = all_keeps (λ xs. Some P xs) (λ xs p two. some_joined first second xs p two) free

-- the volumes are such a sum
volumes_total : (free : List BinSection) → volumes free ≡ total (λ b. volume_of b.whd) free
unfolding volumes total
volumes_total [] = refl
volumes_total (b ∷ bs) = ap (λ (v : ℕ). volume_of b.whd + v) (volumes_total bs)

-- a cell lies in some section exactly where it is counted
counted : (free : List BinSection) (cx cy cz : ℕ) → Some (λ s. HasCell s cx cy cz) free ↔ (0 < held free cx cy cz)
counted free cx cy cz = (
  λ s. held_some free cx cy cz s.index s.below s.holds,
  λ l. let r = held_found free cx cy cz l in record { index = r.0; below = r.1; holds = r.2 },
)

-- no side of the joined box is less than that of either
fits_first : (r : RectToInsert) (a b : BinSection) → Fits a r → Fits (joined_box a b) r
unfolding joined_box joined_side
fits_first r a b p = omega arith

fits_second : (r : RectToInsert) (a b : BinSection) → Fits b r → Fits (joined_box a b) r
unfolding joined_box joined_side
fits_second r a b p = omega arith

-- where no two shared a cell, no two do
pub all_apart : (free : List BinSection) → Apart free → Apart (join_all free).free
all_apart free apart =
    once_apart (join_all free).free
    (λ cx cy cz. omega (arith, total_all (λ b. has b cx cy cz) (has_adds cx cy cz) free, apart_once free apart cx cy cz))

pub all_means : (free : List BinSection) → JoinMeans free (join_all free).free
all_means free =
    record {
      none_join = none_join (join_all free).free (all_none free);
      cells = λ cx cy cz.
          let same = total_all (λ b. has b cx cy cz) (has_adds cx cy cz) free in
          let before = counted free cx cy cz in
          let after = counted (join_all free).free cx cy cz in
          (λ s. before.1 (omega (arith, same, after.0 s)), λ s. after.1 (omega (arith, same, before.0 s)));
      volume = volumes_total (join_all free).free ∙ total_all (λ b. volume_of b.whd) volume_adds free ∙ sym (volumes_total free);
      fits = λ r. some_all (λ s. Fits s r) (fits_first r) (fits_second r) free;
    }
