-- A list of words read as a list of sections, and a list of sections written as words.
use Rattle.std.specs.Prelude.{ℕ, List}
use Rattle.lists.specs.Tab.{tab}
use Rattle.bin_section.specs.declared.section.BinSection.{BinSection}
use Rattle.words.specs.Words.{joined}
use Rattle.bin_section.specs.Section.{section_at, section_words}

-- the first n sections, "first one first"
unfoldable pub sections : List ℕ → ℕ → List BinSection
sections w n = tab n (section_at w)

-- the words of a list of sections
abbrev pub all_words : List BinSection → List ℕ
all_words = joined (λ s. section_words s)
