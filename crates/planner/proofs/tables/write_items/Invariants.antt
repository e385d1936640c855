use Rattle.std.proofs.Common.{◌≡◌}
use Rattle.planner.proofs.Filling.{filled}
use Rattle.planner.proofs.tables.write_items.Given as goal

abbrev pub invariant-loop-i : goal.invariant-loop-i
invariant-loop-i g l = l.table ≡ filled (λ e. g.T.Record.record_words e.item) g.row.N l.list l.initial.table l.i
