-- The C face: what lengths that pass check 1 have, and what stands in the words of the common box afterwards.
use Prim.Native.Nat.{ℕ}
use mathlib.Core.Path.{◌≡◌}
use mathlib.Core.List.{List}
use mathlib.Core.Bool.{true, false, not, ◌&&◌, ◌||◌}
use lib.Dec.{eqb}
use lib.ListN.{length}
use borrow.Author.Tests.{eqb-true, eq-eqb, ne_eqb, not-false}
use Rattle.std.proofs.Common.{Option}
use Rattle.lists.proofs.Flags.{and_first, and_second, or_first, or_second}
use Rattle.bin_section.specs.declared.section.BinSection.{BinSection}
use Rattle.bin_section.specs.Overlap.{common_words}
use Rattle.replies.specs.declared.reply.Reply.{Reply}
use Rattle.cafunderi.specs.Common.{common_after}
use Rattle.cafunderi.specs.Try.{try_lengths_ok}

-- two lengths that pass
pub right_lengths : (m n k l : ℕ) → (not (eqb m n) || not (eqb k l)) ≡ false → (m ≡ n) × (k ≡ l)
right_lengths m n k l h =
    let p = not (eqb m n) in
    let q = not (eqb k l) in
    (eqb-true m n (not-false _ (or_first p q h)), eqb-true k l (not-false _ (or_second p q h)))

-- those of a try
module _ (section rectangle placed : List ℕ) where
  pub try_lengths :
      try_lengths_ok section rectangle placed ≡ true
      → (length section ≡ 6) × (length rectangle ≡ 3) × (length placed ≡ 21)
  unfolding try_lengths_ok
  try_lengths h =
      let s = eqb (length section) 6 in
      let r = eqb (length rectangle) 3 in
      let p = eqb (length placed) 21 in
      let rp = and_second s (r && p) h in
      (eqb-true _ _ (and_first s (r && p) h), eqb-true _ _ (and_first r p rp), eqb-true _ _ (and_second r p rp))

-- ---- the common box in words

pub nothing_written : (before : List ℕ) (r : Reply) (c : Option BinSection) → r.number ≡ 1 → before ≡ common_after before r c
unfolding common_after
nothing_written before r c h = rw (eq-eqb r.number 1 h)

pub common_written : (before w : List ℕ) (r : Reply) (c : Option BinSection) → (r.number ≡ 1 → ⊥) → w ≡ common_words c → w ≡ common_after before r c
unfolding common_after
common_written before w r c ne e = rw (ne_eqb r.number 1 ne, e)
