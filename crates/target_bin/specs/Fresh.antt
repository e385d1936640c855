-- Fresh chambers.
use Rattle.std.specs.Prelude.{ℕ, List, [], ◌∷◌, map}
use Rattle.bin_section.specs.Section.{whole_section}
use Rattle.replies.specs.Replies.{reply, in_order}
use Rattle.target_bin.specs.declared.chamber.TargetBin.{TargetBin}
use Rattle.target_bin.specs.Chambers.{fresh_bin, chambers_of, table_of}
use Rattle.target_bin.specs.Store.{store_of}
use Rattle.target_bin.specs.Checks.{check1, check2_fresh}
use Rattle.target_bin.specs.Outcome.{Outcome, outcome, refused}

abbrev pub freshened : TargetBin → TargetBin
freshened b = fresh_bin b.id b.whd

-- "sets each count to 1"
unfoldable pub fresh_table : List ℕ → List ℕ
fresh_table chambers = table_of (map (λ b. freshened b) (chambers_of chambers))

-- "the first section to the whole chamber at 0,0,0, other words to 0"
unfoldable pub fresh_store : List ℕ → List ℕ
fresh_store chambers = store_of (map (λ b. whole_section b.whd ∷ []) (chambers_of chambers))

-- "Fresh: 1, 2 (old counts ignored)."
unfoldable pub fresh_of : List ℕ → List ℕ → Outcome
fresh_of chambers store =
    in_order (check1 chambers store ∷ check2_fresh chambers ∷ []) (refused chambers store)
    (outcome (reply 0 0) (fresh_table chambers) (fresh_store chambers))
