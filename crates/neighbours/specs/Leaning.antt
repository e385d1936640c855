-- What functions below the jobs lean on and leave. No job's contract cites it, and a reader of the rules needs none of it.
use Rattle.std.specs.Prelude.{ℕ, ◌+◌, ◌-◌, ◌≤◌, ◌≡◌, List, true, false, Option, MatchOption}
use Rattle.lists.specs.Sort.{Each}
use Rattle.bin_section.specs.declared.section.BinSection.{BinSection}
use Rattle.neighbours.specs.declared.neighbour.Span.{Span}
use Rattle.sections.specs.Sections.{sections}
use Rattle.neighbours.specs.Joining.{some_join, pair_of, joined_at}

-- no end is above the largest word, so that the side of a joined box is a word
pub record Ends (b : BinSection) : Type 0 where
  pub right : b.x + b.whd.width ≤ 4294967295
  pub above : b.y + b.whd.height ≤ 4294967295
  pub behind : b.z + b.whd.depth ≤ 4294967295

-- so of the first n sections
abbrev pub AllEnd : List ℕ → ℕ → Type 0
AllEnd w n = Each Ends (sections w n)

-- the first pair of the first n sections is joined, and its first index is given; or none, and no word changes
abbrev pub FirstJoined : ℕ → List ℕ → List ℕ → Option ℕ → Type 0
FirstJoined n w u given =
    MatchOption given ((some_join (sections w n) ≡ false) × (u ≡ w))
    (λ first. (some_join (sections w n) ≡ true) × (first ≡ (pair_of (sections w n)).first)
    × (sections u (n - 1) ≡ joined_at (sections w n) (pair_of (sections w n))))

-- along one axis: where a box starts, and its side
abbrev pub span : ℕ → ℕ → Span
span start side = record { start = start; side = side }
