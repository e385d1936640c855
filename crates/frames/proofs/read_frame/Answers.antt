use Rattle.lists.proofs.Kit.{arith, rules}
use Rattle.std.proofs.lemmas.Grind.{common_steps}
use Rattle.frames.proofs.Parts.{two_parts}
use Rattle.frames.proofs.read_frame.Goals as goal

pub returns-clause-front : goal.returns-clause-front
returns-clause-front g c = grind (arith, common_steps)

pub returns-clause-rest : goal.returns-clause-rest
returns-clause-rest g c = two_parts _ _ _ _ _ 4 _ (search rules) (search rules) c.in_ok-read_full.ensures.rest c.in_ok-read_full-2.ensures.rest
