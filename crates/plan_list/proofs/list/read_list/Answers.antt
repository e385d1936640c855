-- The turn's line is the next of the text's, and at the end each was read.
use Rattle.std.proofs.Common.{rules, tests, of_calls, ◌+◌, ap, sym, ◌∙◌}
use Rattle.std.proofs.lemmas.List.{length_push}
use Rattle.plan_list.proofs.Lines.{lines_few, read_starts, line_turn, line_end, line_slips, line_adds, line_counts, lines_end}
use Rattle.plan_list.proofs.list.read_list.Goals as goal

pub loop-text-init : goal.loop-text-init
loop-text-init c = record { can_next = search of_calls; is_finite = search of_calls; count = search rules; rest = search (rules, read_starts) }

pub add_line-requires : goal.add_line-requires
add_line-requires c =
    let t = line_turn _ _ _ _ c.args.text.now (cc) (cc) (cc) (λ x b q k. search (rules, tests)) _ c.loop-text.yielded_by _ c.next.ensures.steps _ c.in-Some.is in
    search (rules, lines_few)

pub loop-text-preserved : goal.loop-text-preserved
loop-text-preserved c =
    let t = line_turn _ _ _ _ c.args.text.now (cc) (cc) (cc) (λ x b q k. search (rules, tests)) _ c.loop-text.yielded_by _ c.next.ensures.steps _ c.in-Some.is in
    record { can_next = search of_calls; is_finite = search of_calls; count = line_counts c.in-Some.text.now c.loop-text.list c.add_line.new.self c.add_line.result c.add_line.ensures ∙ ap (λ n. n + 1) c.loop-text.invariant.count ∙ sym (length_push _ _); rest = search (rules, length_push, line_adds) }

pub returns-in-Err : goal.returns-in-Err
returns-in-Err c =
    let t = line_turn _ _ _ _ c.args.text.now (cc) (cc) (cc) (λ x b q k. search (rules, tests)) _ c.loop-text.yielded_by _ c.next.ensures.steps _ c.in-Some.is in
    search (rules, line_slips)

pub returns : goal.returns
returns c =
    let t = line_end _ _ _ _ c.args.text.now (cc) (cc) (cc) (λ x b q k. search (rules, tests)) _ c.loop-text.yielded_by _ c.next.ensures.steps c.in-None.is in
    search (rules, lines_end)
