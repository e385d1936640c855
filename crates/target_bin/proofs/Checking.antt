-- The cases of checks 1 to 3, as the code comes to them.
use Prim.Native.Nat.{ℕ, ◌-◌}
use mathlib.Core.Path.{◌≡◌, ap, ◌∙◌}
use mathlib.Core.List.{List}
use lib.ListN.{take, drop}
use Rattle.std.specs.Prelude.{Option, is_some}
use Rattle.std.specs.declared.ops.Range.{Range}
use Rattle.lists.specs.Lowest.{lowest_index}
use Rattle.lists.proofs.LowestIndex.{index_any}
use Rattle.sections.specs.Inside.{outside_at}
use Rattle.target_bin.specs.declared.chamber.TargetBin.{TargetBin}
use Rattle.target_bin.specs.Chambers.{chamber_at}
use Rattle.replies.specs.declared.reply.Reply.{Reply}
use Rattle.target_bin.specs.Outcome.{outcome}
use Rattle.target_bin.specs.Store.{part_range}
use Rattle.target_bin.specs.Checks.{bad_sections}
use Rattle.target_bin.proofs.Parts.{part_lent}

-- one chamber's sections, as the search through its part finds them
pub bad_is : (chambers store : List ℕ) (i : ℕ) (b : TargetBin) (r : Range ℕ) (o : Option ℕ) → b ≡ chamber_at chambers i → r ≡ part_range i → o ≡ lowest_index b.count (outside_at b.whd (take (r.end - r.start) (drop r.start store))) → is_some o ≡ bad_sections chambers store i
unfolding bad_sections
bad_is chambers store i b r o read lent found = ap is_some found ∙ rw (part_lent r i lent store, read) (index_any _ _)

-- an outcome by its parts
pub outcome_is : (r r' : Reply) (c c' s s' : List ℕ) → r ≡ r' → c ≡ c' → s ≡ s' → outcome r c s ≡ outcome r' c' s'
outcome_is r r' c c' s s' p q e = rw (p, q, e)
