use Rattle.audit.proofs.Replying.{audit_at, audit_lies, audit_named, audit_silent}
use Rattle.audit.proofs.audit.Goals as goal

pub words_of_box-requires : goal.words_of_box-requires
words_of_box-requires c = audit_lies _ _ _ _ c.audit_answer-answer.ensures _ c.faulty_box.ensures _ c.in-Some.is

pub returns-in_default-clause-answer_value : goal.returns-in_default-clause-answer_value
returns-in_default-clause-answer_value c = audit_silent _ _ _ _ c.audit_answer-answer.ensures _ c.faulty_box.ensures c.in_default.is

pub returns : goal.returns
returns c =
    let e = c.audit_answer-answer.ensures in
    let f = c.faulty_box.ensures in record {
      answer_value = audit_named _ _ _ _ e _ f _ _ c.in-Some.is c.words_of_box.ensures.0;
      shown_at = λ _. rw (audit_at _ _ _ _ e _ f _ c.in-Some.is) c.words_of_box.ensures.1;
    }
