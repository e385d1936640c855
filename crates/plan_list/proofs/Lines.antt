-- Laws of a text read line after line.
use Rattle.std.proofs.Common.{Bool, false, Bor, Option, Some, None, ◌≡◌, ℕ, ◌+◌, ◌<◌, ◌≤◌, List, length, get_or, drop, Result, Ok, Err, refl, sym, ap, ◌∙◌, arith}
use Rattle.std.proofs.lemmas.Bool.Decides.{nat_tests}
use Rattle.std.proofs.lemmas.List.{at_drop_more, at_drop_all}
use Rattle.std.proofs.lemmas.List.Splits.{length-slice_split}
use Rattle.std.proofs.lemmas.List.Sums.{count_by-le-length}
use Rattle.std.proofs.lemmas.Iterator.Splits.{YieldsList-from_slice_split}
use Rattle.std.proofs.lemmas.Iterator.Consumers.{YieldsList-turn, YieldsList-end}
use Rattle.std.specs.Fn.{CalledAt}
use Rattle.std.specs.Result.{MatchResult, result_map_both}
use Rattle.std.specs.Iterator.{Yields}
use Rattle.std.specs.Slice.Iter.{split_rest, split_done, split_callee, split_steps}
use denote.Param.Members.{Mut}
use Rattle.std.specs.declared.slice.Split.{Split}
use Rattle.plan_list.specs.declared.slip.Slip.{Slip}
use Rattle.plan_list.specs.declared.slip.SlipAt.{SlipAt}
use Rattle.plan_list.specs.declared.line_said.Said.{Said}
use Rattle.plan_list.specs.declared.line_said.Said.TheVariants.{Nothing, Chamber, Coil}
use Rattle.plan_list.specs.declared.list.PlanList.{PlanList}
use Rattle.plan_list.specs.declared.list.Slipped.{Slipped}
use Rattle.plan_list.specs.Said.{line_said, ◌>>=◌}
use Rattle.plan_list.specs.Words.{is_newline, lines_of, uncommented, words_of}
use Rattle.plan_list.specs.List.{slipped, next_line, added, slipped_in, add_line, add_lines, no_lines, read_of}

-- as many lines as newlines, and one more
pub lines_few : (text : List ℕ) → length (lines_of text) ≤ length text + 1
lines_few text = omega (arith, length-slice_split is_newline text, count_by-le-length is_newline text)

pub read_starts : (text : List ℕ) → length text ≤ 65536 → read_of text ≡ add_lines (lines_of text) no_lines
unfolding read_of
read_starts text h = grind (arith, nat_tests)

-- a turn of a `for` over the lines, of which xs were yielded, and its end
module _ {F : Type 0} (g : Mut F (Bor ℕ × Unit {0}) Bool) {f : F} (s t u : Split ℕ F) (text : List ℕ) (rest : split_rest s ≡ text) (done : split_done s ≡ false) (callee : split_callee s ≡ f) (tests : (x : ℕ) (b : Bool) (q : F) → CalledAt g f x b q → (q ≡ f) × (b ≡ is_newline x)) (xs : List (Bor (List ℕ))) (y : Yields (split_steps g) s xs t) (r : Option (Bor (List ℕ))) (step : split_steps g t r u) where
  pub line_turn : (x : Bor (List ℕ)) → r ≡ Some x → (length xs < length (lines_of text)) × (x.now ≡ get_or (lines_of text) (length xs) x.now)
  line_turn x e = YieldsList-turn (YieldsList-from_slice_split g is_newline text rest done callee tests) xs t y r u x e step

  pub line_end : r ≡ None → length xs ≡ length (lines_of text)
  line_end e = (YieldsList-end (YieldsList-from_slice_split g is_newline text rest done callee tests) xs t y r u e step).1

-- how many lines were looked at, where a slip ended the reading too
abbrev pub looked_at : Result PlanList Slipped → ℕ
looked_at (Ok l) = l.lines
looked_at (Err s) = s.list.lines

-- a line is one more, with a slip in it or not
pub line_counts :
    (x : List ℕ) (l l' : PlanList) (r : Result (Unit {0}) SlipAt)
    → MatchResult r (λ _. add_line x l ≡ Ok l') (λ at. add_line x l ≡ Err (slipped l' at))
    → l'.lines ≡ l.lines + 1
line_counts x l l' = go
  where
    one : (r : Result Said Slip) → looked_at (result_map_both (added (next_line l)) (slipped_in (next_line l)) r) ≡ l.lines + 1
    one (Ok Nothing) = refl
    one (Ok (Chamber b)) = refl
    one (Ok (Coil c)) = refl
    one (Err slip) = refl

    counted : looked_at (add_line x l) ≡ l.lines + 1
    counted = one (line_said (words_of (uncommented x)) (length l.chambers.items) (length l.coils.items))

    go : (r : Result (Unit {0}) SlipAt) → MatchResult r (λ _. add_line x l ≡ Ok l') (λ at. add_line x l ≡ Err (slipped l' at)) → l'.lines ≡ l.lines + 1
    go (Ok u) e = sym (ap looked_at e) ∙ counted
    go (Err at) e = sym (ap looked_at e) ∙ counted

-- n lines are read, and the next is x
module _ (lines : List (List ℕ)) (n : ℕ) (l : PlanList) where
  module _ (x : List ℕ) (t : (n < length lines) × (x ≡ get_or lines n x)) where
    next : add_lines (drop n lines) l ≡ add_line x l >>= add_lines (drop (n + 1) lines)
    unfolding add_lines
    next = at_drop_more (λ texts. add_lines texts l) lines n x t.0 ∙ ap (λ y. add_line y l >>= add_lines (drop (n + 1) lines)) (sym t.1)

    pub line_slips : (e : Slipped) → add_line x l ≡ Err e → add_lines (drop n lines) l ≡ Err e
    line_slips e q = rw q at next

    pub line_adds : (l' : PlanList) → add_line x l ≡ Ok l' → add_lines (drop n lines) l ≡ add_lines (drop (n + 1) lines) l'
    line_adds l' q = rw q at next

  pub lines_end : n ≡ length lines → add_lines (drop n lines) l ≡ Ok l
  unfolding add_lines
  lines_end e = at_drop_all (λ texts. add_lines texts l) lines n (omega arith)
