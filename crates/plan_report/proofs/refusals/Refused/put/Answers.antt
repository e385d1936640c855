use Rattle.std.specs.Prelude.{codes, ◌++◌}
use Rattle.text.specs.Decimal.{item}
use Rattle.text.proofs.Writing.{behind_then}
use Rattle.plan_report.specs.Texts.{line_tag, refusal}
use Rattle.plan_report.proofs.refusals.Refused.put.Goals as goal

pub returns-clause-bytes : goal.returns-clause-bytes
unfolding refusal
returns-clause-bytes c =
    let number = item (codes "refused with ") c.from-number.result.number in
    let rest = codes ": " ++ c.meaning.result.now in
    rw (← c.meaning.ensures, ← c.from-number.ensures)
    (behind_then c.args.out.now.bytes (line_tag c.args.self.now.line) (number ++ rest) c.put.ensures.bytes
    (behind_then c.put.new.out.bytes number rest c.put_item.ensures.bytes
    (behind_then c.put_item.new.out.bytes (codes ": ") c.meaning.result.now c.push_str.ensures.bytes c.push_str-2.ensures.bytes)))
