-- What functions below the jobs lean on and leave. No job's contract cites it, and a reader of the rules needs none of it.
use Rattle.std.specs.Prelude.{ℕ, ◌+◌, ◌*◌, ◌≤◌, ◌<◌, ◌≡◌, List, take, drop, length}
use Rattle.target_bin.specs.Store.{part_at}
use Rattle.target_bin.specs.Chambers.{chamber_at, chamber_count, chamber_of}

-- at most the words of one chamber changed
pub record OnlyIn (chamber : ℕ) (w w' : List ℕ) : Type 0 where
  pub before : take (chamber * 768) w' ≡ take (chamber * 768) w
  pub after : drop (chamber * 768 + 768) w' ≡ drop (chamber * 768 + 768) w
  pub others : (k : ℕ) → (k ≡ chamber → ⊥) → part_at w' k ≡ part_at w k

-- only the words of one chamber changed, and there as P says
pub record ChangedIn (P : List ℕ → List ℕ → Type 0) (chamber : ℕ) (w w' : List ℕ) : Type 0 where
  pub here : P (part_at w chamber) (part_at w' chamber)
  pub only : OnlyIn chamber w w'

-- no count is above 128
pub record Counted (chambers : List ℕ) : Type 0 where
  pub counts : (i : ℕ) → i < chamber_count chambers → (chamber_at chambers i).count ≤ 128

-- what the code leans on once checks 1 and 2 have passed
pub record Shaped (chambers store : List ℕ) : Type 0 where
  pub few : chamber_count chambers ≤ 16
  pub whole : length chambers ≡ chamber_count chambers * 5
  pub long : length store ≡ chamber_count chambers * 768
  pub counted : Counted chambers

-- and once check 8 has passed, of the chamber that has the id
pub record Known (chambers store : List ℕ) (id k : ℕ) : Type 0 where
  pub here : k ≡ chamber_of chambers id
  pub low : k < chamber_count chambers
  pub record_in : k * 5 + 5 ≤ length chambers
  pub part_in : (k + 1) * 768 ≤ length store
  pub few : (chamber_at chambers k).count ≤ 128
