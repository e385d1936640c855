-- Laws of the quick test: a bit that is in both differences where two spans meet, and the sections of a list four at a time.
use Rattle.std.proofs.Common.{◌≡◌, ℕ, ◌+◌, ◌-◌, ◌*◌, ◌%◌, ◌^◌, ◌<◌, ◌≤◌, min, max, Bool, true, false, leb, refl, ◌∙◌, ap₂, add-zero, arith, ltb-true, le-leb}
use lib.Bits.{bit_and, bit_or, and_block, and_le_r, or_add_and, or_comm}
use Rattle.lists.specs.Lowest.{any_below}
use Rattle.bin_section.specs.declared.section.BinSection.{BinSection}
use Rattle.bin_section.specs.Overlap.{spans_meet, overlaps_of}
use Rattle.bin_section.proofs.Sharing.{meets}

-- ---- the bit

-- two numbers that have the bit, and what `&` keeps of them
have_both : (u v r s : ℕ) → u ≡ 1 * 2 ^ 63 + r → v ≡ 1 * 2 ^ 63 + s → r < 2 ^ 63 → s < 2 ^ 63 → 9223372036854775808 ≤ bit_and u v
have_both u v r s eu ev hr hs =
    let e : bit_and u v ≡ bit_and 1 1 * 2 ^ 63 + bit_and r s = ap₂ bit_and eu ev ∙ and_block 63 1 1 r s hr hs in
    omega (arith, e)

-- the numbers that the code has, where two spans meet: p is start less end, wrapped
wrapped_has : (p start end : ℕ) → start < end → end < 2 ^ 34 → p < 2 ^ 64 → (p + end) % 2 ^ 64 ≡ start → 9223372036854775808 ≤ p
wrapped_has p start end h k l e = omega (arith, e)

pub meet_near :
    (a s b t p q : ℕ)
    → a < 2 ^ 32
    → s < 2 ^ 32
    → b < 2 ^ 32
    → t < 2 ^ 32
    → p < 2 ^ 64
    → q < 2 ^ 64
    → (p + (a + s)) % 2 ^ 64 ≡ b
    → (q + (b + t)) % 2 ^ 64 ≡ a
    → spans_meet a s b t ≡ true
    → 9223372036854775808 ≤ bit_and p q
unfolding spans_meet
meet_near a s b t p q ha hs hb ht hp hq ep eq e =
    let h = ltb-true (max a b) (min (a + s) (b + t)) e in
    let kp = wrapped_has p b (a + s) (omega (arith, h)) (omega arith) hp ep in
    let kq = wrapped_has q a (b + t) (omega (arith, h)) (omega arith) hq eq in
    have_both p q (p - 9223372036854775808) (q - 9223372036854775808) (omega arith) (omega arith) (omega arith) (omega arith)

-- two boxes that overlap have it on each axis
pub all_near :
    (a b : BinSection) (p q r : ℕ)
    → p < 2 ^ 64
    → q < 2 ^ 64
    → r < 2 ^ 64
    → (spans_meet a.x a.whd.width b.x b.whd.width ≡ true → 9223372036854775808 ≤ p)
    → (spans_meet a.y a.whd.height b.y b.whd.height ≡ true → 9223372036854775808 ≤ q)
    → (spans_meet a.z a.whd.depth b.z b.whd.depth ≡ true → 9223372036854775808 ≤ r)
    → overlaps_of a b ≡ true
    → leb 9223372036854775808 (bit_and p (bit_and q r)) ≡ true
all_near a b p q r hp hq hr fp fq fr e =
    let m = meets a b e in
    let kp = fp m.on_x in
    let kq = fq m.on_y in
    let kr = fr m.on_z in
    let qr = have_both q r (q - 9223372036854775808) (r - 9223372036854775808) (omega arith) (omega arith) (omega arith) (omega arith) in
    let small = and_le_r q r in
    le-leb 9223372036854775808 (bit_and p (bit_and q r))
    (have_both p (bit_and q r) (p - 9223372036854775808) (bit_and q r - 9223372036854775808) (omega arith) (omega arith) (omega arith) (omega arith))

-- a test that is false where it would have the bit
pub far_false : (t : Bool) (r : ℕ) → (t ≡ true → 9223372036854775808 ≤ r) → r < 9223372036854775808 → false ≡ t
far_false true r f h = absurd (let g = f refl in omega arith)
far_false false r f h = refl

-- `|` loses no bit
pub or_keeps : (a b : ℕ) → a ≤ bit_or a b
or_keeps a b = omega (arith, or_add_and a b, and_le_r a b)

pub or_keeps_second : (a b : ℕ) → b ≤ bit_or a b
or_keeps_second a b = rw (or_comm a b) (or_keeps b a)

-- ---- four sections

module _ (f : ℕ → Bool) (i p q r s : ℕ)
    (hp : f i ≡ true → 9223372036854775808 ≤ p)
    (hq : f (i + 1) ≡ true → 9223372036854775808 ≤ q)
    (hr : f (i + 2) ≡ true → 9223372036854775808 ≤ r)
    (hs : f (i + 3) ≡ true → 9223372036854775808 ≤ s)
    (below : bit_or (bit_or p q) (bit_or r s) < 9223372036854775808) where
  pub four_far : any_below 4 (λ k. f (i + k)) ≡ false
  unfolding any_below
  four_far =
      let pq = or_keeps (bit_or p q) (bit_or r s) in
      let rs = or_keeps_second (bit_or p q) (bit_or r s) in
      rw (
        ← far_false (f (i + 0)) p (λ t. hp (rw add-zero at t)) (omega (arith, below, pq, or_keeps p q)),
        ← far_false (f (i + 1)) q hq (omega (arith, below, pq, or_keeps_second p q)),
        ← far_false (f (i + 2)) r hr (omega (arith, below, rs, or_keeps r s)),
        ← far_false (f (i + 3)) s hs (omega (arith, below, rs, or_keeps_second r s)),
      )
