-- The joining test is exact: solid boxes that share no cell join exactly where some box has the cells of both and no other.
use Prim.Native.Nat.{ℕ, ◌+◌, ◌-◌, ◌≤◌, ◌<◌, min, max}
use mathlib.Core.Path.{◌≡◌, sym}
use mathlib.Core.Logic.{◌⊎◌, inl, inr, ⊎_elim, ⊎_swap, ⊎_map, ◌↔◌}
use mathlib.Core.Bool.{true}
use native.Mathlib.Decide.{dec_lt}
use native.Mathlib.Omega.{arith}
use borrow.Author.Tests.{eq-eqb}
use Rattle.lists.proofs.Flags.{and_both, or_left, or_right, same_flags}
use Rattle.bin_section.specs.declared.section.BinSection.{BinSection}
use Rattle.bin_section.specs.Sides.{sides}
use Rattle.bin_section.specs.Section.{section}
use Rattle.bin_section.specs.Cell.{Within, HasCell, SharesCell}
use Rattle.neighbours.specs.Neighbour.{spans_equal, spans_touch, joins_of, joined_box}
use Rattle.neighbours.proofs.Neighbouring.{Beside, along_x, along_y, along_z, joins→, joined_cells}

-- no side is zero
pub record Solid (b : BinSection) : Type 0 where
  pub wide : 0 < b.whd.width
  pub tall : 0 < b.whd.height
  pub deep : 0 < b.whd.depth

-- two solid boxes, and a third that has the cells of both and no other
record Made (a b c : BinSection) : Type 0 where
  first : Solid a
  second : Solid b
  cells : (cx cy cz : ℕ) → HasCell c cx cy cz ↔ (HasCell a cx cy cz ⊎ HasCell b cx cy cz)

swapped : {a b c : BinSection} → Made a b c → Made b a c
swapped m =
    record { first = m.second; second = m.first; cells = λ x y z. (λ p. ⊎_swap ((m.cells x y z).0 p), λ p. (m.cells x y z).1 (⊎_swap p)) }

corner : {a b c : BinSection} → Made a b c → HasCell c a.x a.y a.z
corner m = (m.cells _ _ _).1 (inl (omega (arith, m.first)))

-- ---- one box before the other along x

module _ {a b c : BinSection} (m : Made a b c) where
  -- the third box is a product of spans: so it has a cell of the first that is moved along x to the second's start, and that is the second's
  moved : ¬ (Within a.x a.whd.width b.x) → (cy cz : ℕ) → HasCell a a.x cy cz → HasCell b b.x cy cz
  moved far cy cz p =
      ⊎_elim (λ q. absurd (far q.along_X)) (λ q. q)
      ((m.cells b.x cy cz).0 (omega (arith, corner (swapped m), (m.cells a.x cy cz).1 (inl p))))

  -- so the second's spans along y and z have the first's, whose lowest and highest cells are moved
  covers :
      ¬ (Within a.x a.whd.width b.x)
      → ((b.y ≤ a.y) × (a.y + a.whd.height ≤ b.y + b.whd.height)) × ((b.z ≤ a.z) × (a.z + a.whd.depth ≤ b.z + b.whd.depth))
  covers far =
      let low = moved far a.y a.z (omega (arith, m.first)) in
      let high = moved far (a.y + a.whd.height - 1) (a.z + a.whd.depth - 1) (omega (arith, m.first)) in
      omega (arith, low, high, m.first)

  -- in a gap the third box would have a cell that neither has
  no_gap : ¬ (a.x + a.whd.width < b.x)
  no_gap l =
      ⊎_elim (λ p. omega arith) (λ p. omega arith)
      ((m.cells (a.x + a.whd.width) a.y a.z).0 (omega (arith, corner m, corner (swapped m))))

before : {a b c : BinSection} → Made a b c → a.x + a.whd.width ≤ b.x → Beside a b
before m l =
    let p = covers m (λ w. omega arith) in
    let q = covers (swapped m) (λ w. omega (arith, m.first)) in
    along_x (omega (arith, no_gap m)) (omega (arith, p, q)) (omega (arith, p, q)) (omega (arith, p, q)) (omega (arith, p, q))

-- along x the two have a number in common
abbrev Meet : BinSection → BinSection → Type 0
Meet a b = max a.x b.x < min (a.x + a.whd.width) (b.x + b.whd.width)

apart : {a b c : BinSection} → Made a b c → ¬ (Meet a b) → Beside a b ⊎ Beside b a
apart {a} {b} m far = go (dec_lt b.x (a.x + a.whd.width))
  where
    go : Dec (b.x < a.x + a.whd.width) → Beside a b ⊎ Beside b a
    go (yes l) = inr (before (swapped m) (omega (arith, m.first, m.second)))
    go (no l) = inl (before m (omega arith))

-- ---- the same along y and z: the boxes are turned, so that y stands for x, z for y and x for z

abbrev turn : BinSection → BinSection
turn b = section b.y b.z b.x (sides b.whd.height b.whd.depth b.whd.width)

turned : {a b c : BinSection} → Made a b c → Made (turn a) (turn b) (turn c)
turned m =
    record {
      first = omega (arith, m.first);
      second = omega (arith, m.second);
      cells = λ cx cy cz. (
        λ p. ⊎_map (λ q. omega arith) (λ q. omega arith) ((m.cells cz cx cy).0 (omega arith)),
        λ p. let q = (m.cells cz cx cy).1 (⊎_map (λ r. omega arith) (λ r. omega arith) p) in omega arith,
      );
    }

back : {a b : BinSection} → Beside (turn a) (turn b) → Beside a b
back (along_x e y h z d) = along_y e z d y h
back (along_y e x w z d) = along_z e z d x w
back (along_z e x w y h) = along_x e x w y h

-- ---- the test

ruleset fires = (and_both, or_left, or_right, eq-eqb, sym)

-- it fires either way round, where one begins where the other ends
beside_joins : (a b : BinSection) → Beside a b → (joins_of a b ≡ true) × (joins_of b a ≡ true)
unfolding joins_of spans_equal spans_touch
beside_joins a b (along_x e y h z d) = search fires
beside_joins a b (along_y e x w z d) = search fires
beside_joins a b (along_z e x w y h) = search fires

swap_joins : (a b : BinSection) → joins_of a b ≡ true → joins_of b a ≡ true
swap_joins a b t = ⊎_elim (λ p. (beside_joins a b p).1) (λ p. (beside_joins b a p).0) (joins→ a b t)

-- the test is the same either way round
pub joins_swap : (a b : BinSection) → joins_of a b ≡ joins_of b a
joins_swap a b = same_flags (joins_of a b) (joins_of b a) (swap_joins a b) (swap_joins b a)

-- two boxes with no zero side that share no cell join wherever some box has the cells of both and no other
pub joins_only :
    (a b c : BinSection) → Solid a → Solid b → ¬ (SharesCell a b)
    → ((cx cy cz : ℕ) → HasCell c cx cy cz ↔ (HasCell a cx cy cz ⊎ HasCell b cx cy cz))
    → joins_of a b ≡ true
joins_only a b c sa sb none whole =
    ⊎_elim (λ p. (beside_joins a b p).0) (λ p. (beside_joins b a p).1) (go (dec_lt _ _) (dec_lt _ _) (dec_lt _ _))
  where
    m : Made a b c
    m = record { first = sa; second = sb; cells = whole }

    -- on some axis they do not meet: else the cell at the later starts is in both
    go : Dec (Meet a b) → Dec (Meet (turn a) (turn b)) → Dec (Meet (turn (turn a)) (turn (turn b))) → Beside a b ⊎ Beside b a
    go (no f) e g = apart m f
    go (yes d) (no f) g = ⊎_map back back (apart (turned m) f)
    go (yes d) (yes e) (no f) = ⊎_map (λ p. back (back p)) (λ p. back (back p)) (apart (turned (turned m)) f)
    go (yes d) (yes e) (yes g) =
        absurd (none (record { cx = max a.x b.x; cy = max a.y b.y; cz = max a.z b.z; first = omega arith; second = omega arith }))

-- "two free sections join into one box" exactly where there is such a box
pub joins_exact :
    (a b : BinSection) → Solid a → Solid b → ¬ (SharesCell a b)
    → (joins_of a b ≡ true) ↔ ((c : BinSection) × ((cx cy cz : ℕ) → HasCell c cx cy cz ↔ (HasCell a cx cy cz ⊎ HasCell b cx cy cz)))
joins_exact a b sa sb none = (λ t. (joined_box a b, joined_cells a b t), λ p. joins_only a b p.0 sa sb none p.1)
