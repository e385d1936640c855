use Rattle.std.proofs.Common.{◌≡◌, ◌∙◌, ◌∷◌, [], None, ap, sym, slice_get, rules, arith}
use Rattle.plan_list.specs.Words.{words_of}
use Rattle.plan_list.proofs.Words.{no_more, one_less, looked_for}
use Rattle.plan_list.proofs.line_words.word_at.Goals as goal

pub returns-in_err-next_word : goal.returns-in_err-next_word
returns-in_err-next_word c =
    let n : c.from_residual.result ≡ None = search rules in
    let e : words_of c.loop.rest.now ≡ [] = search rules in
    rw n (sym (no_more _ _ c.loop.counter c.loop.invariant c.args.k e (search (rules, arith))))

pub loop-preserved : goal.loop-preserved
loop-preserved c =
    let e : words_of c.loop.rest.now ≡ c.in_ok-next_word.field-0.now ∷ words_of c.next_word.new.rest.now = search rules in
    one_less _ _ c.loop.counter c.loop.invariant _ _ e

pub returns : goal.returns
returns c =
    let e : c.loop.counter ≡ c.args.k = omega (arith, c.loop-test.false, c.loop.auto.counter-end) in
    looked_for _ _ c.loop.counter c.loop.invariant c.next_word-2.result _ c.next_word-2.ensures.word ∙ ap (slice_get (words_of c.args.line.now)) e
