-- What functions below the jobs lean on and leave. No job's contract cites it, and a reader of the rules needs none of it.
use Rattle.std.specs.Prelude.{◌≡◌, ℕ, ◌+◌, ◌-◌, ◌*◌, ◌<◌, ◌≤◌, List, [], ◌∷◌, ◌++◌, length, replicate}
use Rattle.lists.specs.Tab.{remove_at, put}
use Rattle.bin_section.specs.declared.section.BinSection.{BinSection}
use Rattle.bin_section.specs.Leaning.{Small}
use Rattle.bin_section.specs.Section.{section_at, section_words, zero_section}
use Rattle.sections.specs.Sections.{sections, all_words}

-- "is removed, later ones move down one": the freed last one is six zeros, and what stands past the count is as it was
pub record Removed (count i : ℕ) (w w' : List ℕ) : Type 0 where
  pub free : sections w' (count - 1) ≡ remove_at i (sections w count)
  pub freed : section_at w' (count - 1) ≡ zero_section
  pub past : (k : ℕ) → count ≤ k → section_at w' k ≡ section_at w k

-- "appended": the section stands after the first count, and no other word changes
pub record Appended (count : ℕ) (s : BinSection) (w w' : List ℕ) : Type 0 where
  pub free : sections w' (count + 1) ≡ sections w count ++ (s ∷ [])
  pub words : w' ≡ put w (count * 6) (section_words s)
  pub past : (k : ℕ) → count < k → section_at w' k ≡ section_at w k

-- "words past each count are 0"
pub record ZeroPast (count : ℕ) (w : List ℕ) : Type 0 where
  pub zeros : (k : ℕ) → count ≤ k → section_at w k ≡ zero_section

-- "words past each count are 0", and the first count sections are as they were
pub record Cleared (count : ℕ) (w w' : List ℕ) : Type 0 where
  pub free : sections w' count ≡ sections w count
  pub words : w' ≡ all_words (sections w count) ++ replicate (length w - count * 6) 0
  pub zeros : ZeroPast count w'

-- no side of the first n sections is above 65,535
pub record AllSmall (n : ℕ) (w : List ℕ) : Type 0 where
  pub at : (i : ℕ) → i < n → Small (section_at w i).whd
