-- What is longer than the buffer gets the same line.
use Rattle.reading.proofs.Fronts.{written_whole}
use Rattle.audit_input.specs.Line.{line_of}
use Rattle.audit_input.proofs.Replying.{cut_line}
use Rattle.audit_main.proofs.run.Goals as goal

pub returns : goal.returns
returns g c =
    record { line = written_whole _ _ _ _ line_of 24602 c.read_full.new.buf _ cut_line c.read_full.auto.buf c.in_ok-n.ensures.front c.write_line.ensures }
