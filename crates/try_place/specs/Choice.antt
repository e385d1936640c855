-- "Chosen: the least smallest volume; on a tie the least second smallest; on a tie of both the LAST listed."
use Rattle.std.specs.Prelude.{ℕ, ◌≤◌, ◌<◌, min, max, ◌≡◌, ◌⊎◌, List, [], ◌∷◌, map, Bool, ◌&&◌, ◌||◌, cond, ltb, eqb, get_or}
use Rattle.bin_section.specs.declared.section.BinSection.{BinSection}
use Rattle.try_place.specs.declared.choice.Ranked.{Ranked}
use Rattle.bin_section.specs.Sides.{volume_of}
use Rattle.bin_section.specs.Section.{zero_section}

-- the smallest of three volumes, the second smallest, and the place among the six. "Zero volumes take part."
abbrev pub rank_of : ℕ → ℕ → ℕ → ℕ → Ranked
rank_of a b c i = record { least = min (min a b) c; second = max (min a b) (min (max a b) c); index = i }

-- the volume of the box at a place of a split
abbrev pub volume_at : List BinSection → ℕ → ℕ
volume_at t k = volume_of (get_or t k zero_section).whd

abbrev pub rank_split : List BinSection → ℕ → Ranked
rank_split t i = rank_of (volume_at t 0) (volume_at t 1) (volume_at t 2) i

-- a is strictly better than b: "the least smallest volume; on a tie the least second smallest"
unfoldable pub better_of : Ranked → Ranked → Bool
better_of a b = ltb a.least b.least || (eqb a.least b.least && ltb a.second b.second)

-- of two, the earlier where it is strictly better, else the later: "on a tie of both the LAST listed"
unfoldable pub later_of : Ranked → Ranked → Ranked
later_of a b = cond (better_of a b) a b

abbrev pub zero_ranked : Ranked
zero_ranked = record { least = 0; second = 0; index = 0 }

unfoldable pub best_from : Ranked → List Ranked → Ranked
best_from a [] = a
best_from a (b ∷ bs) = best_from (later_of a b) bs

unfoldable pub best_of : List Ranked → Ranked
best_of [] = zero_ranked
best_of (a ∷ bs) = best_from a bs

-- the six ranks
unfoldable pub ranks_of : List (List BinSection) → List Ranked
ranks_of t = map (λ k. rank_split (get_or t k []) k) (0 ∷ 1 ∷ 2 ∷ 3 ∷ 4 ∷ 5 ∷ [])

-- the place of the chosen split
unfoldable pub chosen : List (List BinSection) → ℕ
chosen t = (best_of (ranks_of t)).index

-- ---- What the choice means, said without the fold. `chosen_is` and `one_choice` (proofs/Meaning.antt) prove it.

-- strictly better, and at least as good
unfoldable pub Under : Ranked → Ranked → Type 0
Under a b = (a.least < b.least) ⊎ ((a.least ≡ b.least) × (a.second < b.second))

unfoldable pub NotOver : Ranked → Ranked → Type 0
NotOver a b = (a.least < b.least) ⊎ ((a.least ≡ b.least) × (a.second ≤ b.second))

-- no listed one is better than the one at p, and every later one is worse
pub record IsChoice (xs : List Ranked) (n p : ℕ) : Type 0 where
  pub within : p < n
  pub least : (i : ℕ) → i < n → NotOver (get_or xs p zero_ranked) (get_or xs i zero_ranked)
  pub last : (i : ℕ) → p < i → i < n → Under (get_or xs p zero_ranked) (get_or xs i zero_ranked)
