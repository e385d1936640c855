use Rattle.lists.proofs.Kit.{rules}
use Rattle.audit_input.proofs.Replying.{reply_unread, reply_boxes}
use Rattle.audit_input.proofs.reply.reply_of.Goals as goal

pub returns-in_default : goal.returns-in_default
returns-in_default c = search (rules, reply_unread)

pub returns : goal.returns
returns c = search (rules, reply_boxes)
