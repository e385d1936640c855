use Rattle.lists.proofs.Kit.{arith, rules, sym, ◌∙◌}
use borrow.Author.Tests.{tests}
use Rattle.std.proofs.lemmas.Iterator.{YieldsList-from_range, YieldsList-from_map}
use Rattle.std.proofs.lemmas.Iterator.Consumers.{sum_from_yields_List, fits_from_yields_list}
use Rattle.bin_section.specs.Sides.{volume_of}
use Rattle.bin_section.specs.Section.{section_at}
use Rattle.sections.proofs.Searching.{volumes_each, volumes_most}
use Rattle.sections.proofs.volumes.sum_of_volumes.Goals as goal

pub sum-requires-clause-fits : goal.sum-requires-clause-fits
sum-requires-clause-fits c =
    fits_from_yields_list c.map.result _
    (YieldsList-from_map _ (λ i. volume_of (section_at c.args.words.now i).whd) (YieldsList-from_range 0 c.args.n c.args.n c.map.ensures.source (omega arith)) c.map.ensures.closure (λ x r q k. search (rules, tests)))
    (omega (arith, volumes_each c.args.words.now c.args.n, volumes_most c.args.words.now c.args.n c.requires.2))

pub returns : goal.returns
returns c =
    let most = volumes_most c.args.words.now c.args.n c.requires.2 in
    let e = sum_from_yields_List c.map.result c.sum.result c.sum.ensures.ran
    (YieldsList-from_map _ (λ i. volume_of (section_at c.args.words.now i).whd) (YieldsList-from_range 0 c.args.n c.args.n c.map.ensures.source (omega arith)) c.map.ensures.closure (λ x r q k. search (rules, tests)))
    ∙ sym (volumes_each c.args.words.now c.args.n) in
    (e, omega (arith, e, most))
