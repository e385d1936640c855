use Rattle.lists.proofs.Kit.{rules, arith, ◌∙◌}
use Rattle.text.proofs.Writing.{written_as}
use Rattle.audit_input.proofs.Writing.{wrote}
use Rattle.audit_input.proofs.audit_line.Goals as goal

pub returns : goal.returns
returns c =
    wrote (search (rules, arith)) (written_as (c.as_bytes.ensures.value ∙ c.as_str.ensures.value ∙ c.text-text.ensures ∙ c.audited_line.ensures.line) c.write_text.ensures)
