-- Laws of the chamber table: one record in the words, and that reading and writing are each other's inverse.
use Prim.Native.Nat.{ℕ, ◌+◌, ◌*◌, ◌≤◌, ◌<◌}
use mathlib.Core.Path.{◌≡◌, refl, ◌∙◌}
use mathlib.Core.List.{List}
use native.Mathlib.Omega.{arith}
use lib.ListN.{length, get_or, set}
use lib.Seq.{get_or-set_same, get_or-set_other, take_all}
use Rattle.lists.proofs.Tabs.{length-tab, getd_tab}
use Rattle.words.proofs.Records.{length-joined, encoded, at_joined}
use Rattle.bin_section.specs.Sides.{sides}
use Rattle.target_bin.specs.declared.chamber.TargetBin.{TargetBin}
use Rattle.target_bin.specs.Layouts.{chamber_layout}
use Rattle.target_bin.specs.Chambers.{bin, chamber_at, bin_words, chamber_count, chambers_of, table_of}

-- ---- the table read and written

pub length-chambers_of : (w : List ℕ) → length (chambers_of w) ≡ chamber_count w
unfolding chambers_of
length-chambers_of w = length-tab (chamber_count w) (chamber_at w)

pub getd_chambers_of : (w : List ℕ) (i : ℕ) (d : TargetBin) → i < chamber_count w → get_or (chambers_of w) i d ≡ chamber_at w i
unfolding chambers_of
getd_chambers_of w i d h = getd_tab (chamber_count w) (chamber_at w) i d h

-- what is read, written again
pub table_encoded : (w : List ℕ) → length w ≡ chamber_count w * 5 → table_of (chambers_of w) ≡ w
unfolding chambers_of
table_encoded w long = encoded 5 chamber_at (λ b. bin_words b) chamber_layout w (chamber_count w) (omega arith) ∙ take_all (chamber_count w * 5) w (omega arith)

pub length-table_of : (bins : List TargetBin) → length (table_of bins) ≡ length bins * 5
length-table_of bins = length-joined (λ b. bin_words b) 5 bins (bin 0 (sides 0 0 0) 0) (λ i h. refl)

pub count_table_of : (bins : List TargetBin) → chamber_count (table_of bins) ≡ length bins
count_table_of bins = omega (arith, length-table_of bins)

-- the chamber at an index of a table that was written
pub chamber_at-table_of : (bins : List TargetBin) (i : ℕ) (d : TargetBin) → i < length bins → chamber_at (table_of bins) i ≡ get_or bins i d
chamber_at-table_of = at_joined 5 chamber_at (λ b. bin_words b) chamber_layout

-- ---- one count written

module _ (w : List ℕ) (k v : ℕ) (fits : k * 5 + 5 ≤ length w) where
  pub chamber_at-set_same : chamber_at (set w (k * 5 + 4) v) k ≡ bin (chamber_at w k).id (chamber_at w k).whd v
  unfolding chamber_at
  chamber_at-set_same =
      let other : (j : ℕ) → j < k * 5 + 4 → get_or (set w (k * 5 + 4) v) j 0 ≡ get_or w j 0 = λ j h. get_or-set_other w (k * 5 + 4) j v 0 (λ e. omega arith) in
      rw (other (k * 5) (omega arith), other (k * 5 + 1) (omega arith), other (k * 5 + 2) (omega arith), other (k * 5 + 3) (omega arith), get_or-set_same w (k * 5 + 4) v 0 (omega arith))

  pub chamber_at-set_other : (i : ℕ) → (i ≡ k → ⊥) → chamber_at (set w (k * 5 + 4) v) i ≡ chamber_at w i
  chamber_at-set_other i ne =
      chamber_layout.ext (set w (k * 5 + 4) v) w i i (λ m h. get_or-set_other w (k * 5 + 4) (i * 5 + m) v 0 (λ e. ne (omega arith)))
