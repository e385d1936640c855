-- Laws of the words of a line, taken off one by one.
use Rattle.std.proofs.Common.{true, false, not, cond, ltb, Option, Some, Bor, MatchOption, option_copied, slice_get, unwrap_or, is_some, ltb-true, ltb-false, ◌-◌, ◌≡◌, ℕ, zero, suc, ◌+◌, ◌<◌, ◌≤◌, List, [], ◌∷◌, length, get_or, take, drop, refl, ap, sym, ◌∙◌, arith}
use Rattle.std.proofs.Common.{None as Nothing}
use Rattle.std.proofs.lemmas.Bool.Decides.{nat_tests}
use Rattle.std.specs.List.{position_or_len}
use Rattle.std.proofs.lemmas.List.Sums.{fails_before_first, passes_at_first, prefix_len-le-length}
use Rattle.std.proofs.lemmas.List.{drop-drop}
use Rattle.std.proofs.lemmas.Option.{slice_get_past, slice_get-get_or}
use lib.ListN.{drop_of_length-le, length-drop}
use lib.Seq.{get_or-drop, take_all}
use borrow.Author.Tests.{not-true}
use Rattle.lists.proofs.Flags.{true_false}
use Rattle.lists.proofs.Lowests.{None}
use Rattle.plan_list.specs.Words.{is_blank, words_of}
use Rattle.plan_list.proofs.Pieces.{words_none, words_skip, words_first}

-- where the first word begins; the length where there is none
abbrev pub start_of : List ℕ → ℕ
start_of xs = position_or_len (λ b. not (is_blank b)) xs

blanks_first : (xs : List ℕ) → None (start_of xs) (λ i. not (is_blank (get_or xs i 0)))
blanks_first xs = record { at = λ i h. fails_before_first (λ b. not (is_blank b)) xs i 0 h }

start_most : (xs : List ℕ) → start_of xs ≤ length xs
start_most xs = prefix_len-le-length (λ b. not (not (is_blank b))) xs

pub no_word : (xs : List ℕ) → start_of xs ≡ length xs → words_of xs ≡ []
no_word xs e =
    words_skip (start_of xs) xs (blanks_first xs) (start_most xs) ∙ ap words_of (drop_of_length-le xs {i = start_of xs} (omega (arith, e))) ∙ words_none

module _ (xs : List ℕ) (start : ℕ) (s : start ≡ start_of xs) (l : start < length xs) (end : ℕ) (e : end ≡ position_or_len is_blank (drop start xs)) where
  abbrev ys : List ℕ
  ys = drop start xs

  long : 0 < length ys
  long = omega (arith, length-drop start xs)

  begins : is_blank (get_or ys 0 0) ≡ false
  begins =
      ap is_blank (get_or-drop start xs 0 0 ∙ ap (λ n. get_or xs n 0) (omega (arith, s)))
      ∙ not-true _ (passes_at_first (λ b. not (is_blank b)) xs 0 (omega (arith, s)))

  -- the first word ends in front of the first blank behind its start, so it has a byte
  pub word_long : 0 < end
  word_long = go end e
    where
      go : (n : ℕ) → n ≡ position_or_len is_blank ys → 0 < n
      go zero q =
          absurd (true_false (sym (ap (λ i. is_blank (get_or ys i 0)) q ∙ passes_at_first is_blank ys 0 (omega (arith, q, long))) ∙ begins))
      go (suc n) q = omega arith

  pub word_then : words_of xs ≡ take end (drop start xs) ∷ words_of (drop end (drop start xs))
  word_then =
      (rw (← s) at (words_skip (start_of xs) xs (blanks_first xs) (start_most xs)))
      ∙ words_first end ys word_long (record { at = λ i h. fails_before_first is_blank ys i 0 (omega (arith, e)) })
      (omega (arith, e, prefix_len-le-length (λ b. not (is_blank b)) ys))
      (λ h. ap (λ i. is_blank (get_or ys i 0)) e ∙ passes_at_first is_blank ys 0 (omega (arith, e)))

  pub left_shorter : length (drop end (drop start xs)) < length xs
  left_shorter = omega (arith, word_long, length-drop start xs, length-drop end ys)

-- ---- what a search for a byte answers

pub found_at : (k n i : ℕ) → cond (ltb k n) (Some k) Nothing ≡ Some i → (i ≡ k) × (k < n)
found_at k n i e =
    elim (ltb k n) as (λ b. ltb k n ≡ b → cond b (Some k) Nothing ≡ Some i → (i ≡ k) × (k < n)) [
      | true ↦ λ t h. (sym (ap (λ o. unwrap_or o 0) h), ltb-true k n t)
      | false ↦ λ t h. absurd (true_false (sym (ap is_some h)))
    ]
    refl e

pub found_none : (k n : ℕ) → cond (ltb k n) (Some k) Nothing ≡ Nothing → n ≤ k
found_none k n e =
    elim (ltb k n) as (λ b. ltb k n ≡ b → cond b (Some k) Nothing ≡ Nothing → n ≤ k) [
      | true ↦ λ t h. absurd (true_false (ap is_some h))
      | false ↦ λ t h. ltb-false k n t
    ]
    refl e

pub found_or : (k n : ℕ) → k ≤ n → unwrap_or (cond (ltb k n) (Some k) Nothing) n ≡ k
found_or k n h = grind (arith, nat_tests)

-- a part to the end
pub to_end : (n : ℕ) (l : List ℕ) → take (length l - n) (drop n l) ≡ drop n l
to_end n l = take_all (length l - n) (drop n l) (omega (arith, length-drop n l))

-- a line that has no more than blanks
pub says_nothing : (xs : List ℕ) → length xs ≤ start_of xs → words_of xs ≡ []
says_nothing xs h = no_word xs (omega (arith, start_most xs))

-- ---- i words are taken off, and the next is looked for

module _ (ws left : List (List ℕ)) (i : ℕ) (come : left ≡ drop i ws) where
  pub no_more : (k : ℕ) → left ≡ [] → i ≤ k → slice_get ws k ≡ Nothing
  no_more k e h =
      let z : length (drop i ws) ≡ 0 = ap length (sym come ∙ e) in
      slice_get_past ws k (omega (arith, length-drop i ws, z))

  module _ (w : List ℕ) (rest : List (List ℕ)) (e : left ≡ w ∷ rest) where
    pub one_less : rest ≡ drop (i + 1) ws
    one_less = sym (ap (drop 1) (sym come ∙ e)) ∙ drop-drop 1 i ws

    pub at_place : Some w ≡ slice_get ws i
    at_place =
        let l : length (drop i ws) ≡ length (w ∷ rest) = ap length (sym come ∙ e) in
        sym (slice_get-get_or ws i w (omega (arith, length-drop i ws, l))
        ∙ ap Some (ap (λ n. get_or ws n w) (omega arith) ∙ sym (get_or-drop i ws 0 w) ∙ ap (λ r. get_or r 0 w) (sym come ∙ e)))

  -- what the search answers
  pub looked_for : (r : Option (Bor (List ℕ))) (rest : List (List ℕ)) → MatchOption r (left ≡ []) (λ word. left ≡ word.now ∷ rest) → option_copied r ≡ slice_get ws i
  looked_for Nothing rest e = sym (no_more i e (omega arith))
  looked_for (Some w) rest e = at_place w.now rest e
