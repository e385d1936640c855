-- Laws of a list packed.
use Rattle.std.proofs.Common.{◌≡◌, ℕ, List, ◌*◌, ◌≤◌, length, take, replicate}
use native.Mathlib.Nat.{mul-le-mul_right}
use Rattle.std.proofs.lemmas.List.{take-replicate}
use Rattle.plan_list.specs.declared.list.PlanList.{PlanList}
use Rattle.planner.specs.Packed.{pack_fresh, chamber_table, coil_table, packed_list}

-- tables of the lengths that a list asks for
pub packed_is :
    (l : PlanList) (chambers store coils placements : List ℕ)
    → chambers ≡ chamber_table l.chambers.items
    → store ≡ replicate (length l.chambers.items * 768) 0
    → coils ≡ coil_table l.coils.items
    → placements ≡ replicate (length l.coils.items * 5) 0
    → pack_fresh chambers store coils placements ≡ packed_list l
unfolding packed_list
packed_is l chambers store coils placements a b c d = rw (a, b, c, d)

-- as many zeros as are lent of a longer table of zeros
pub zeros_lent : (k most n m : ℕ) → n ≤ most → n ≡ m → take (n * k) (replicate {A = ℕ} (most * k) 0) ≡ replicate (m * k) 0
zeros_lent k most n m h e = rw (← e) (take-replicate (n * k) (most * k) 0 (mul-le-mul_right k h))
