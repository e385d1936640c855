use Rattle.lists.proofs.Kit.{true, false, ◌≡◌, refl, arith, rules}
use borrow.Author.Tests.{tests}
use Rattle.std.proofs.lemmas.Iterator.{first_from_Range}
use Rattle.bin_section.specs.Section.{section_at}
use Rattle.neighbours.specs.Neighbour.{joins_of}
use Rattle.neighbours.proofs.Finding.{joins_after, joins_at}
use Rattle.neighbours.proofs.Ranges.{index_from}
use Rattle.neighbours.proofs.pairs.first_joining.Goals as goal

pub returns : goal.returns
returns c =
    let w = c.args.words.now in
    let t = λ (j : _). joins_of (section_at w c.args.i) (section_at w j) in
    index_from _ _ _ (joins_after w _ _ c.requires.1) t _ (λ k l h. joins_at w _ _ _ _ k _ (omega arith) h refl refl refl)
    (first_from_Range _ _ _ _ (λ j. t j ≡ true) (λ j. t j ≡ false) c.find.ensures.ran (λ j q k. search (rules, tests)) (λ j q k. (search (rules, tests), search (rules, tests))))
