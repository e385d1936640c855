use Rattle.lists.proofs.Kit.{rules}
use Rattle.sections.specs.Sections.{sections}
use Rattle.neighbours.proofs.Finding.{pair_at, pair_found}
use Rattle.neighbours.proofs.Ranges.{found_map}
use Rattle.neighbours.proofs.pairs.first_pair.Goals as goal

pub returns : goal.returns
returns c =
    pair_found _ _ _ c.requires.1 _
    (found_map (pair_at (sections c.args.words.now c.args.n) c.args.n) _ (λ i a q k. (search rules, search rules)) _ _ c.find_map.ensures.runs)
