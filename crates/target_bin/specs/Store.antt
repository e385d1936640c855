-- The store: the free sections of each chamber.
use Rattle.std.specs.Prelude.{ℕ, ◌+◌, ◌*◌, ◌-◌, List, ◌++◌, length, take, drop, replicate}
use Rattle.std.specs.declared.ops.Range.{Range}
use Rattle.lists.specs.Tab.{tab}
use Rattle.bin_section.specs.declared.section.BinSection.{BinSection}
use Rattle.words.specs.Words.{joined}
use Rattle.sections.specs.Sections.{sections, all_words}
use Rattle.target_bin.specs.Chambers.{chamber_at, chamber_count}

-- "Each chamber's 768 words are handled as one part of the store."
unfoldable pub part_at : List ℕ → ℕ → List ℕ
part_at store k = take 768 (drop (k * 768) store)

-- where that part stands
abbrev pub part_range : ℕ → Range ℕ
part_range k = record { start = k * 768; end = k * 768 + 768 }

-- the free sections of the chamber at an index
unfoldable pub free_at : List ℕ → List ℕ → ℕ → List BinSection
free_at chambers store k = sections (part_at store k) (chamber_at chambers k).count

-- the store read: the free sections of each chamber
unfoldable pub free_of : List ℕ → List ℕ → List (List BinSection)
free_of chambers store = tab (chamber_count chambers) (free_at chambers store)

-- a part written: "128 sections of 6 words .., first one first", and "words past each count are 0"
unfoldable pub part_of : List BinSection → List ℕ
part_of free = all_words free ++ replicate (768 - length free * 6) 0

-- the store written
abbrev pub store_of : List (List BinSection) → List ℕ
store_of = joined part_of
