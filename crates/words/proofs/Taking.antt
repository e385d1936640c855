-- What stands at each place when k words were taken out of a table.
use Prim.Native.Nat.{ℕ, ◌+◌, ◌-◌, ◌≤◌, ◌<◌}
use mathlib.Core.Path.{◌≡◌, refl, ◌∙◌}
use mathlib.Core.List.{List}
use native.Mathlib.Omega.{arith}
use lib.ListN.{length, get_or, take, drop, replicate, length-replicate, get_or-replicate, length-take, length-drop}
use lib.Seq.{get_or-take, get_or-drop, paste}
use Rattle.lists.specs.Tab.{put}
use Rattle.lists.proofs.Tabs.{length-put, getd_put_in, getd_put_before, getd_put_after}
use Rattle.words.specs.Leaning.{moved_down, without}

module _ (at k n : ℕ) (w : List ℕ) (room : at + k + n ≤ length w) where
  abbrev down : List ℕ
  down = take n (drop (at + k) w)

  long_down : length down ≡ n
  long_down = simp (length-take, length-drop) (omega arith)

  abbrev zeros : List ℕ
  zeros = replicate k 0

  long_zeros : length zeros ≡ k
  long_zeros = length-replicate k _

  abbrev mid : List ℕ
  mid = put w at down

  long_mid : length mid ≡ length w
  long_mid = length-put w at down (omega (arith, long_down))

  fits : at + n + length zeros ≤ length mid
  fits = omega (arith, long_mid, long_zeros)

  pub without_before : (p : ℕ) → p < at → get_or (without at k n w) p 0 ≡ get_or w p 0
  unfolding without moved_down
  without_before p h = getd_put_before mid (at + n) zeros fits p (omega arith) ∙ getd_put_before w at down (omega (arith, long_down)) p h

  pub without_moved : (p : ℕ) → at ≤ p → p < at + n → get_or (without at k n w) p 0 ≡ get_or w (p + k) 0
  unfolding without moved_down
  without_moved p h b = getd_put_before mid (at + n) zeros fits p b ∙ go (p - at) p (omega arith) (omega arith) (omega arith)
    where
      go : (j q : ℕ) → j < n → at + j ≡ q → at + k + j ≡ q + k → get_or mid q 0 ≡ get_or w (q + k) 0
      go j q l e f =
          rw (← f, ← e) (getd_put_in w at down (omega (arith, long_down)) j (omega (arith, long_down)) ∙ get_or-take n (drop (at + k) w) j 0 l ∙ get_or-drop (at + k) w j 0)

  pub without_zero : (p : ℕ) → at + n ≤ p → p < at + n + k → get_or (without at k n w) p 0 ≡ 0
  unfolding without moved_down
  without_zero p h b =
      let j : ℕ = p - (at + n) in
      let e : at + n + j ≡ p = omega arith in
      rw (← e) (getd_put_in mid (at + n) zeros fits j (omega (arith, long_zeros)) ∙ get_or-replicate k j 0 0 (omega arith))

  pub without_past : (p : ℕ) → at + k + n ≤ p → get_or (without at k n w) p 0 ≡ get_or w p 0
  unfolding without moved_down
  without_past p h =
      getd_put_after mid (at + n) zeros fits p (omega (arith, long_zeros)) ∙ getd_put_after w at down (omega (arith, long_down)) p (omega (arith, long_down))

  -- as the code has it: words copied down within the table, then zeros
  pub moved : paste w at (drop (at + k) w) (at + k + n - (at + k)) ≡ moved_down at k n w
  unfolding moved_down put
  moved =
      let e : at + k + n - (at + k) ≡ n = omega arith in
      rw (e, long_down) refl
