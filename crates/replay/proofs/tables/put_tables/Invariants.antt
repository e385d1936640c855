-- At most 768 words are stray a chamber, and no word of the answer goes.
use Rattle.std.proofs.Common.{length}
use Rattle.lists.proofs.Kit.{◌*◌, ◌≤◌}
use Rattle.replay.proofs.tables.put_tables.Given as goal

abbrev pub invariant-loop-k : goal.invariant-loop-k
invariant-loop-k l =
    record {
      stray : l.stray ≤ l.k-counter * 768;
      kept : length l.fn.answer.items ≤ length l.answer.items;
    }
