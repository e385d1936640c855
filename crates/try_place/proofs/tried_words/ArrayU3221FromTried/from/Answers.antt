use Rattle.lists.proofs.Kit.{rules}
use Rattle.try_place.proofs.Words.{tried_written}
use Rattle.try_place.proofs.tried_words.ArrayU3221FromTried.from.Goals as goal

pub returns : goal.returns
returns c =
    tried_written _ _ _ _ _ _ (search rules) (search rules) c.location-location.ensures c.put_words.ensures (search rules) c.write_sections.ensures
