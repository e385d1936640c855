-- Laws of the words of a line.
use Rattle.std.proofs.Common.{true, false, not, cond, ◌≡◌, ℕ, zero, suc, ◌<◌, ◌≤◌, List, [], ◌∷◌, ◌++◌, length, get_or, take, drop, eqb, refl, ap, sym, ◌∙◌, arith}
use Rattle.std.specs.List.{filter, slice_split, All}
use Rattle.std.proofs.lemmas.Grind.{get_or_default_zero}
use Rattle.std.proofs.lemmas.List.{take-append-drop, get_or-take}
use Rattle.std.proofs.lemmas.List.Splits.{slice_split-cons_yes, slice_split_none, slice_split_at}
use native.Mathlib.Nat.{not-suc-le-zero, le_of_suc-le-suc, eq-or-lt_of_le}
use mathlib.Core.Logic.{◌⊎◌, inl, inr}
use borrow.Author.Tests.{not-false, ne_eqb}
use lib.ListN.{drop_of_length-le}
use lib.Seq.{take_all, drop-cons, length-take-le}
use Rattle.lists.proofs.Lowests.{None}
use Rattle.plan_list.specs.Words.{is_blank, words_of}

pub words_none : words_of [] ≡ []
words_none = refl

-- a blank in front says nothing
pub words_blank : (b : ℕ) (bs : List ℕ) → is_blank b ≡ true → words_of (b ∷ bs) ≡ words_of bs
words_blank b bs e = ap (filter (λ word. not (eqb (length word) 0))) (slice_split-cons_yes is_blank b bs e)

pub words_skip : (k : ℕ) (xs : List ℕ) → None k (λ i. not (is_blank (get_or xs i 0))) → k ≤ length xs → words_of xs ≡ words_of (drop k xs)
words_skip zero xs p h = refl
words_skip (suc k) [] p h = absurd (not-suc-le-zero h)
words_skip (suc k) (b ∷ bs) p h =
    words_blank b bs (not-false (is_blank b) (p.at 0 (omega arith)))
    ∙ words_skip k bs (record { at = λ i l. p.at (suc i) (omega arith) }) (le_of_suc-le-suc h)

-- what is left of pieces without the empty ones
abbrev filled : List (List ℕ) → List (List ℕ)
filled words = filter (λ word. not (eqb (length word) 0)) words

filled_first : (p : List ℕ) (ps : List (List ℕ)) → 0 < length p → filled (p ∷ ps) ≡ p ∷ filled ps
filled_first p ps h = ap (λ t. cond (not t) (p ∷ filled ps) (filled ps)) (ne_eqb (length p) 0 (λ q. omega arith))

-- the first word ends at the first blank
module _ (k : ℕ) (xs : List ℕ) (z : 0 < k) (p : None k (λ i. is_blank (get_or xs i 0))) (h : k ≤ length xs) where
  front : All (λ b. is_blank b ≡ false) (take k xs)
  front i d l =
      let m : i < k = omega (arith, length-take-le k xs h) in
      ap is_blank (get_or-take k xs i d m ∙ get_or_default_zero xs i d (omega arith)) ∙ p.at i m

  first : 0 < length (take k xs)
  first = omega (arith, length-take-le k xs h)

  words_last : k ≡ length xs → words_of xs ≡ take k xs ∷ words_of (drop k xs)
  words_last q =
      ap words_of (sym (take_all k xs (omega arith)))
      ∙ ap filled (slice_split_none is_blank (take k xs) front)
      ∙ filled_first (take k xs) [] first
      ∙ ap (λ w. take k xs ∷ words_of w) (sym (drop_of_length-le xs {i = k} (omega arith)))

  words_more : k < length xs → is_blank (get_or xs k 0) ≡ true → words_of xs ≡ take k xs ∷ words_of (drop k xs)
  words_more l e =
      let rest = drop-cons xs k 0 l in
      ap words_of (sym (take-append-drop k xs) ∙ ap (λ r. take k xs ++ r) rest)
      ∙ ap filled (slice_split_at is_blank (take k xs) (get_or xs k 0) (drop (suc k) xs) front e)
      ∙ filled_first (take k xs) (slice_split is_blank (drop (suc k) xs)) first
      ∙ ap (λ w. take k xs ∷ w) (sym (words_blank (get_or xs k 0) (drop (suc k) xs) e) ∙ ap words_of (sym rest))

  pub words_first : (k < length xs → is_blank (get_or xs k 0) ≡ true) → words_of xs ≡ take k xs ∷ words_of (drop k xs)
  words_first e = go (eq-or-lt_of_le h)
    where
      go : (k ≡ length xs) ⊎ (k < length xs) → words_of xs ≡ take k xs ∷ words_of (drop k xs)
      go (inl q) = words_last q
      go (inr l) = words_more l (e l)
