use Rattle.lists.proofs.Kit.{rules}
use Rattle.box_input.proofs.Reading.{told_size, told_few, boxes_read}
use Rattle.box_input.proofs.read_input.Goals as goal

pub read_boxes-requires : goal.read_boxes-requires
read_boxes-requires c = search (rules, told_size, told_few)

pub returns : goal.returns
returns c = search (rules, told_few, boxes_read)
