-- What holds between two jobs of a run, and that a job which changes one chamber keeps it.
use Prim.Native.Nat.{ℕ, ◌<◌}
use mathlib.Core.Path.{◌≡◌, refl, ◌∙◌}
use mathlib.Core.List.{List, ◌++◌}
use native.Mathlib.Decide.{dec_lt, ℕ_discrete}
use native.Mathlib.Omega.{arith}
use Rattle.bin_section.specs.declared.section.BinSection.{BinSection}
use Rattle.cells.specs.Whole.{Whole}
use Rattle.target_bin.specs.Chambers.{chamber_at, chamber_count}
use Rattle.target_bin.specs.Store.{free_at}
use Rattle.target_bin.proofs.Passing.{Sound}
use Rattle.target_bin.proofs.Changing.{OneChanged}
use Rattle.packing_rules.proofs.TrialOrders.{ids_rise}
use Rattle.custody.specs.Ledger.{Ledger}
use Rattle.custody.specs.Run.{Hall, hall_of, SameChambers, placed_at}

-- what holds between two jobs: the tables pass checks 1 to 3, and each chamber is whole
pub record Good (f : Hall) : Type 0 where
  pub sound_tables : Sound f.chambers f.store
  pub whole : (k : ℕ) → k < chamber_count f.chambers → Whole (chamber_at f.chambers k).whd (placed_at f k ++ free_at f.chambers f.store k)

-- another ledger that says the same
pub good_ledger : (chambers store : List ℕ) (a b : Ledger) → ((id : ℕ) → b id ≡ a id) → Good (hall_of chambers store a) → Good (hall_of chambers store b)
good_ledger chambers store a b e g = record { sound_tables = g.sound_tables; whole = λ k h. rw (e (chamber_at chambers k).id) (g.whole k h) }

-- the same chambers, one table after the other
pub same_chambers : (a : List ℕ) → SameChambers a a
same_chambers a = record { many = refl; ids = λ k h. refl; sides = λ k h. refl }

pub same_then : {a b d : List ℕ} → SameChambers a b → SameChambers b d → SameChambers a d
same_then p q =
    record {
      many = q.many ∙ p.many;
      ids = λ k h. q.ids k (omega (arith, p.many)) ∙ p.ids k h;
      sides = λ k h. q.sides k (omega (arith, p.many)) ∙ p.sides k h;
    }

-- ids rise, so an id names one index
module _ (chambers store : List ℕ) (s : Sound chambers store) where
  pub one_index : (j k : ℕ) → j < chamber_count chambers → k < chamber_count chambers → (chamber_at chambers j).id ≡ (chamber_at chambers k).id → j ≡ k
  one_index j k hj hk e = go (dec_lt j k) (dec_lt k j)
    where
      go : Dec (j < k) → Dec (k < j) → j ≡ k
      go (yes l) d = absurd (omega (arith, ids_rise chambers s.shapes_ok j k l hk))
      go (no l) (yes m) = absurd (omega (arith, ids_rise chambers s.shapes_ok k j m hj))
      go (no l) (no m) = omega arith

-- ---- a job that changes the free sections of one chamber, and the ledger under its id at most

pub changed_same : {chambers store after left : List ℕ} {k : ℕ} {free : List BinSection} → OneChanged chambers store after left k free → SameChambers chambers after
changed_same change = record { many = change.many; ids = λ j h. change.ids j; sides = λ j h. change.sides j }

module _ (f : Hall) (good : Good f) (after left : List ℕ) (k : ℕ) (free : List BinSection) (known : k < chamber_count f.chambers) (change : OneChanged f.chambers f.store after left k free) where
  abbrev c : List ℕ
  c = f.chambers

  module _ (sound : Sound after left) (ledger : Ledger)
      (here : Whole (chamber_at c k).whd (ledger (chamber_at c k).id ++ free))
      (there : (id : ℕ) → (id ≡ (chamber_at c k).id → ⊥) → ledger id ≡ f.ledger id) where
    whole_at_lem : (j : ℕ) → j < chamber_count c → Dec (j ≡ k) → Whole (chamber_at c j).whd (ledger (chamber_at c j).id ++ free_at after left j)
    whole_at_lem j h (yes e) = rw (e, change.here) here
    whole_at_lem j h (no ne) =
        rw (change.others j ne, there (chamber_at c j).id (λ e. ne (one_index c f.store good.sound_tables j k h known e))) (good.whole j h)

    pub changed_good : Good (hall_of after left ledger)
    changed_good =
        record {
          sound_tables = sound;
          whole = λ j h. rw (change.ids j, change.sides j) (whole_at_lem j (omega (arith, change.many)) (ℕ_discrete j k));
        }
