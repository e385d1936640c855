use Rattle.lists.proofs.Kit.{rules}
use Rattle.box_input.proofs.Reading.{words_read}
use Rattle.box_input.proofs.read_boxes.Goals as goal

pub returns : goal.returns
returns c = search (rules, words_read)
