use Rattle.std.proofs.Common.{not, ◌≡◌, ◌<◌, ◌-◌, ℕ, List, ap, sym, ◌∙◌, length, take, drop, Some, None, unwrap_or, arith, rules, tests}
use Rattle.std.specs.List.{position_or_len}
use Rattle.std.proofs.lemmas.Iterator.{YieldsList-from_slice}
use Rattle.std.proofs.lemmas.Iterator.Search.{position_from_yields_List}
use Rattle.std.proofs.lemmas.List.Sums.{prefix_len-le-length}
use Rattle.plan_list.specs.Words.{is_blank}
use Rattle.plan_list.proofs.Words.{start_of, found_at, found_none, found_or, to_end, says_nothing, word_then, left_shorter}
use Rattle.plan_list.proofs.line_words.next_word.Goals as goal

pub returns-in_err-start-clause-word : goal.returns-in_err-start-clause-word
returns-in_err-start-clause-word c =
    let p = position_from_yields_List (λ b. not (is_blank b)) _ _ c.position.result c.position.ensures.ran (YieldsList-from_slice c.args.rest.now.now cc) (λ x b q k. search (rules, tests)) in
    let e : c.position.result ≡ None = search rules in
    let n : c.from_residual.result ≡ None = search rules in
    rw n (says_nothing c.args.rest.now.now (found_none _ _ (sym p ∙ e)))

module _ (c : goal.After-rest-1) where
  abbrev xs : List ℕ
  xs = c.args.rest.now.now

  abbrev s : ℕ
  s = c.in_ok-start.start

  abbrev part : List ℕ
  part = take (length xs - s) (drop s xs)

  began : (s ≡ start_of xs) × (s < length xs)
  began =
      let p = position_from_yields_List (λ b. not (is_blank b)) _ _ c.position.result c.position.ensures.ran (YieldsList-from_slice xs cc) (λ x b q k. search (rules, tests)) in
      let e : c.position.result ≡ Some s = search rules in
      let f : (s ≡ start_of xs) × (start_of xs < length xs) = found_at _ _ _ (sym p ∙ e) in
      (f.0, omega (arith, f.0, f.1))

  ended : c.unwrap_or-end.result ≡ position_or_len is_blank (drop s xs)
  ended =
      let q = position_from_yields_List is_blank _ _ c.position-2.result c.position-2.ensures.ran (YieldsList-from_slice part cc) (λ x b q k. search (rules, tests)) in
      c.unwrap_or-end.ensures
      ∙ ap (λ r. unwrap_or r (length part)) q
      ∙ found_or _ _ (prefix_len-le-length (λ b. not (is_blank b)) part)
      ∙ ap (position_or_len is_blank) (to_end s xs)

pub returns-clause-word : goal.returns-clause-word
returns-clause-word c =
    rw (to_end c.unwrap_or-end.result (part c), to_end (s c) (xs c)) (word_then (xs c) (s c) (began c).0 (began c).1 c.unwrap_or-end.result (ended c))

pub returns-clause-shorter : goal.returns-clause-shorter
returns-clause-shorter c =
    rw (to_end c.unwrap_or-end.result (part c), to_end (s c) (xs c)) (left_shorter (xs c) (s c) (began c).0 (began c).1 c.unwrap_or-end.result (ended c))
