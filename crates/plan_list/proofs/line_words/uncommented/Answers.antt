use Rattle.std.proofs.Common.{not, ◌≡◌, ◌≤◌, ℕ, ap, ◌∙◌, cond, ltb, eqb, length, take, Some, None, unwrap_or, arith, rules, tests}
use Rattle.std.proofs.lemmas.Bool.Decides.{nat_tests}
use Rattle.std.proofs.lemmas.Iterator.{YieldsList-from_slice}
use Rattle.std.proofs.lemmas.Iterator.Search.{position_from_yields_List}
use Rattle.std.proofs.lemmas.List.Sums.{prefix_len-le-length}
use Rattle.plan_list.proofs.line_words.uncommented.Goals as goal

found_or : (k n : ℕ) → k ≤ n → unwrap_or (cond (ltb k n) (Some k) None) n ≡ k
found_or k n h = grind (arith, nat_tests)

pub returns : goal.returns
returns c =
    let p = position_from_yields_List (λ b. eqb b 35) _ _ c.position.result c.position.ensures.ran (YieldsList-from_slice c.args.line.now cc) (λ x b q k. search (rules, tests)) in
    ap (λ k. take k c.args.line.now) (c.unwrap_or-end.ensures ∙ ap (λ r. unwrap_or r (length c.args.line.now)) p ∙ found_or _ _ (prefix_len-le-length (λ b. not (eqb b 35)) c.args.line.now))
