-- Laws of seats that a group takes.
use Prim.Native.Nat.{ℕ, zero, suc, ◌<◌}
use mathlib.Core.Path.{◌≡◌, refl, ◌∙◌}
use mathlib.Core.Logic.{◌⊎◌, inl, inr, ⊎_elim}
use mathlib.Core.List.{List, [], ◌∷◌, ◌++◌}
use native.Mathlib.Omega.{arith}
use lib.ListN.{length, get_or, set, replicate, length-set}
use lib.Seq.{get_or-set_same, get_or-set_other}
use Rattle.lists.specs.Sort.{Each, none, also, EachTwo, no_two, also_two}
use Rattle.lists.proofs.Sorts.{each_map}
use Rattle.lists.proofs.Tabs.{set_cases}
use Rattle.try_place.specs.declared.packed_location.PackedLocation.{PackedLocation}
use Rattle.packing_rules.specs.Seats.{Seat, unplaced, seat, seated}

pub empty_seat : (n i : ℕ) → get_or (replicate n unplaced) i unplaced ≡ unplaced
empty_seat zero i = refl
empty_seat (suc n) zero = refl
empty_seat (suc n) (suc i) = empty_seat n i

pub length-seated : (id : ℕ) (is : List ℕ) (ls : List PackedLocation) (seats : List Seat) → length (seated id is ls seats) ≡ length seats
unfolding seated
length-seated id [] ls seats = refl
length-seated id (i ∷ is) [] seats = refl
length-seated id (i ∷ is) (l ∷ ls) seats = length-seated id is ls (set seats i (seat id l)) ∙ length-set seats i (seat id l)

-- one rectangle more takes its seat
pub seated_more :
    (id i : ℕ) (is : List ℕ) (l : PackedLocation) (ls : List PackedLocation) (seats : List Seat)
    → length is ≡ length ls
    → seated id (is ++ (i ∷ [])) (ls ++ (l ∷ [])) seats ≡ set (seated id is ls seats) i (seat id l)
unfolding seated
seated_more id i [] l [] seats e = refl
seated_more id i [] l (m ∷ ls) seats e = absurd (omega arith)
seated_more id i (j ∷ is) l [] seats e = absurd (omega arith)
seated_more id i (j ∷ is) l (m ∷ ls) seats e = seated_more id i is l ls (set seats j (seat id m)) (omega arith)

-- every other seat stays as it is
abbrev pub ApartFrom : ℕ → List ℕ → Type 0
ApartFrom i g = Each (λ j. i ≡ j → ⊥) g

pub seated_other : (id i : ℕ) {is : List ℕ} (ls : List PackedLocation) (seats : List Seat) → ApartFrom i is → get_or (seated id is ls seats) i unplaced ≡ get_or seats i unplaced
unfolding seated
seated_other id i ls seats none = refl
seated_other id i [] seats (also p ps) = refl
seated_other id i (l ∷ ls) seats (also {x} p ps) = seated_other id i ls (set seats x (seat id l)) ps ∙ get_or-set_other seats x i (seat id l) unplaced p

-- each of the group has its own
pub seated_all :
    (id : ℕ) {is : List ℕ} (ls : List PackedLocation) (seats : List Seat)
    → length ls ≡ length is
    → Each (λ i. i < length seats) is
    → EachTwo (λ i j. i < j) is
    → Each (λ i. (l : PackedLocation) × (get_or (seated id is ls seats) i unplaced ≡ seat id l)) is
unfolding seated
seated_all id ls seats e none no_two = none
seated_all id [] seats e (also b bs) (also_two r rs) = absurd (omega arith)
seated_all id (l ∷ ls) seats e (also {x} b bs) (also_two r rs) =
    also
    (l, seated_other id x ls (set seats x (seat id l)) (each_map (λ j h q. omega arith) r) ∙ get_or-set_same seats x (seat id l) unplaced b)
    (seated_all id ls (set seats x (seat id l)) (omega arith) (each_map (λ j h. omega (arith, length-set seats x (seat id l))) bs) rs)

-- a seat after a group has taken its own: as it was, or at one of the group's locations
pub seated_cases :
    (Q : PackedLocation → Type 0) (id : ℕ) (is : List ℕ) {ls : List PackedLocation} (seats : List Seat) (i : ℕ)
    → Each Q ls
    → (get_or (seated id is ls seats) i unplaced ≡ get_or seats i unplaced) ⊎ ((l : PackedLocation) × Q l × (get_or (seated id is ls seats) i unplaced ≡ seat id l))
unfolding seated
seated_cases Q id [] seats i qs = inl refl
seated_cases Q id (x ∷ xs) seats i none = inl refl
seated_cases Q id (x ∷ xs) seats i (also {x = l} {xs = ls} q qs) =
    ⊎_elim (λ e. ⊎_elim (λ f. inl (e ∙ f)) (λ f. inr (l, q, e ∙ f.1)) (set_cases seats x (seat id l) i unplaced)) inr
    (seated_cases Q id xs (set seats x (seat id l)) i qs)
