use Rattle.lists.proofs.Kit.{true, false, ◌≡◌, rules}
use borrow.Author.Tests.{tests}
use Rattle.std.proofs.lemmas.Iterator.{first_from_Range}
use Rattle.sections.specs.Inside.{shares_at}
use Rattle.sections.proofs.Searching.{found_from}
use Rattle.sections.proofs.near.first_from.Goals as goal

pub returns : goal.returns
returns c =
    let f = shares_at c.args.other c.args.words.now in
    found_from c.args.end c.args.i f c.requires.2 _
    (first_from_Range _ _ _ _ (λ k. f k ≡ true) (λ k. f k ≡ false) c.find.ensures.ran (λ k q p. search (rules, tests)) (λ k q p. (search (rules, tests), search (rules, tests))))
