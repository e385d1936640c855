-- Laws of a group that takes its seats, one rectangle after the other.
use Prim.Native.Nat.{ℕ, ◌+◌, ◌*◌, ◌≤◌, ◌<◌}
use mathlib.Core.Path.{◌≡◌, refl, ap, ◌∙◌}
use mathlib.Core.List.{List}
use native.Mathlib.Numerals.{add-one}
use native.Mathlib.Omega.{arith}
use lib.ListN.{length, get_or, take, length-take}
use lib.Seq.{take-suc, take-length}
use Rattle.lists.specs.Tab.{put}
use Rattle.bin_section.specs.declared.section.BinSection.{BinSection}
use Rattle.bin_section.specs.Section.{section_at}
use Rattle.placement.specs.Placements.{placement_width, placement_words}
use Rattle.packing_rules.specs.Seats.{Seat, seat, seated}
use Rattle.packing_rules.proofs.Seats.{length-seated, seated_more}
use Rattle.placing.specs.Step.{as_location, locations_in}
use Rattle.placing.proofs.Stepping.{length_locations, locations_next}
use Rattle.rectangle_pack.specs.Records.{placement_of, placements_of}
use Rattle.rectangle_pack.specs.Leaning.{SeatsFor, Seated}
use Rattle.rectangle_pack.proofs.Tables.{length_placements, placements_put}

-- the first i of the group have taken their seats
pub record Seating (id : ℕ) (group table p₀ : List ℕ) (i : ℕ) (p : List ℕ) : Type 0 where
  pub most : i ≤ length group
  pub long : length p ≡ length p₀
  pub seats : (ss : List Seat) → p₀ ≡ placements_of ss → p ≡ placements_of (seated id (take i group) (locations_in table i) ss)

module _ (id : ℕ) (group table p₀ : List ℕ) where
  pub seating_none : Seating id group table p₀ 0 p₀
  unfolding seated
  seating_none = record { most = omega arith; long = refl; seats = λ ss e. e }

  module _ (i : ℕ) (p : List ℕ) (s : Seating id group table p₀ i p) where
    pub seating_more :
        (p' : List ℕ) (b : BinSection)
        → i < length group
        → SeatsFor group p₀
        → b ≡ section_at table i
        → length p' ≡ length p
        → p' ≡ put p (get_or group i 0 * placement_width) (placement_words (placement_of (seat id (as_location b))))
        → Seating id group table p₀ (i + 1) p'
    seating_more p' b h room e lp f =
        record {
          most = omega arith;
          long = lp ∙ s.long;
          seats = λ ss g.
              let S = seated id (take i group) (locations_in table i) ss in
              let small : get_or group i 0 < length S =
              omega (arith, room.at i h, ap length g, length_placements ss, length-seated id (take i group) (locations_in table i) ss) in
              let taken : length (take i group) ≡ length (locations_in table i) = length-take i group ∙ omega (arith, length_locations table i) in
              rw (
                f,
                s.seats ss g,
                placements_put S (get_or group i 0) (seat id (as_location b)) small,
                add-one,
                take-suc group i 0 h,
                ← add-one,
                locations_next table i,
                ← e,
                seated_more id (get_or group i 0) (take i group) (as_location b) (locations_in table i) ss taken,
              );
        }

    pub seating_all : length group ≤ i → Seated id group table p₀ p
    seating_all h = let e : i ≡ length group = omega (arith, s.most) in record { seats = rw (e, take-length) at s.seats }
