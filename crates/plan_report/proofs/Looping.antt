-- A text put for each element of a list, one behind the other; of a coil, where it goes.
use Rattle.std.proofs.Common.{◌≡◌, ℕ, ◌<◌, List, [], ◌∷◌, ◌++◌, length, take, get_or, flat_map, ap, ◌∙◌, sym, length-append, arith}
use lib.Seq.{take_all}
use Rattle.std.specs.Prelude.{true, codes}
use Rattle.std.proofs.lemmas.List.{take_more, flat_map_more}
use Rattle.placement.specs.declared.Placement.{Placement}
use Rattle.text.specs.Decimal.{item}
use Rattle.text.proofs.Writing.{behind_then}
use Rattle.plan_report.specs.Texts.{is_placed, place_text, goes_to}

module _ {X Y : Type 0} (h : X → List ℕ) (all : List X) (ys : List Y) (l₀ : List ℕ) where
  pub each_more :
      (y : Y) (x : X) (l m : List ℕ)
      → (length ys < length all) × (x ≡ get_or all (length ys) x)
      → l ≡ l₀ ++ flat_map h (take (length ys) all)
      → m ≡ l ++ h x
      → m ≡ l₀ ++ flat_map h (take (length (ys ++ (y ∷ []))) all)
  each_more y x l m (k, e) v w =
      behind_then l₀ (flat_map h (take (length ys) all)) (h x) v w
      ∙ ap (λ t. l₀ ++ t)
      (flat_map_more h [] (take (length ys) all) x
      ∙ ap (λ t. flat_map h (take (length ys) all ++ (t ∷ []))) e
      ∙ ap (flat_map h) (sym (take_more all (length ys) x k))
      ∙ ap (λ n. flat_map h (take n all)) (sym (length-append ys (y ∷ []))))

  pub each_all : (l : List ℕ) → length ys ≡ length all → l ≡ l₀ ++ flat_map h (take (length ys) all) → l ≡ l₀ ++ flat_map h all
  each_all l e v = v ∙ ap (λ t. l₀ ++ flat_map h t) (take_all (length ys) all (omega arith))

-- ---- a coil

pub goes_placed :
    (p : Placement) (l m n : List ℕ)
    → is_placed p ≡ true
    → m ≡ l ++ item (codes " goes to chamber ") p.chamber
    → n ≡ m ++ place_text p.x p.y p.z
    → n ≡ l ++ goes_to p
unfolding goes_to
goes_placed p l m n e f g = rw e (behind_then l (item (codes " goes to chamber ") p.chamber) (place_text p.x p.y p.z) f g)
