-- "Placement record, 5 words, at the rectangle's index: 1 if placed else 0, chamber id, x, y, z."
use Rattle.std.specs.Prelude.{ℕ, ◌+◌, ◌*◌, List, [], ◌∷◌, get_or}
use Rattle.words.specs.Words.{joined}
use Rattle.placement.specs.declared.Placement.{Placement}

abbrev pub placement : ℕ → ℕ → ℕ → ℕ → ℕ → Placement
placement placed chamber x y z = record { placed = placed; chamber = chamber; x = x; y = y; z = z }

-- "An unplaced record is five zeros."
abbrev pub no_placement : Placement
no_placement = placement 0 0 0 0 0

abbrev pub placement_width : ℕ
placement_width = 5

-- the record that stands at an index of the table
unfoldable pub placement_at : List ℕ → ℕ → Placement
placement_at w i =
    placement (get_or w (i * placement_width) 0) (get_or w (i * placement_width + 1) 0) (get_or w (i * placement_width + 2) 0)
    (get_or w (i * placement_width + 3) 0) (get_or w (i * placement_width + 4) 0)

abbrev pub placement_words : Placement → List ℕ
placement_words p = p.placed ∷ p.chamber ∷ p.x ∷ p.y ∷ p.z ∷ []

-- the table written
abbrev pub placement_table : List Placement → List ℕ
placement_table = joined (λ p. placement_words p)
