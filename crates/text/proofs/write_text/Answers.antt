use Rattle.text.proofs.Writing.{written_part}
use Rattle.text.proofs.write_text.Goals as goal

pub returns : goal.returns
returns c = written_part _ _ _ _ c.copy_from_slice.ensures.after
