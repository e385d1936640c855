use Rattle.std.proofs.Common.{◌≡◌, length, drop}
use Rattle.plan_list.specs.Words.{lines_of}
use Rattle.plan_list.specs.List.{add_lines, read_of}
use Rattle.plan_list.proofs.list.read_list.Given as goal

abbrev pub invariant-loop-text : goal.invariant-loop-text
invariant-loop-text l = record {
  can_next : (goal.iterator-loop-text).can_next l.text-iterator;
  is_finite : (goal.iterator-loop-text).is_finite l.text-iterator;
  count : l.list.lines ≡ length l.yielded;
  rest : read_of l.fn.text ≡ add_lines (drop (length l.yielded) (lines_of l.fn.text)) l.list;
}
