use Rattle.std.proofs.Common.{get_or-take}
use Rattle.lists.proofs.Kit.{◌*◌, ap, ◌∙◌, rules}
use Rattle.lists.specs.Tab.{put}
use Rattle.wire.specs.Word.{bytes_of}
use Rattle.wire.proofs.Filling.{written_none, written_more, written_all}
use Rattle.wire.proofs.write_words.Goals as goal

pub loop-i-init : goal.loop-i-init
loop-i-init c = written_none _ _ _ c.requires.0

pub loop-i-preserved : goal.loop-i-preserved
loop-i-preserved c =
    written_more _ _ _ _ _ _ c.loop-i.invariant (search rules)
    (c.write_word.ensures ∙ ap (λ x. put c.loop-i.bytes (c.loop-i.i * 4) (bytes_of x)) (get_or-take c.args.n c.args.words.now c.loop-i.i 0 (search rules)))

pub returns : goal.returns
returns c = written_all _ _ _ _ _ c.loop-i.invariant (search rules)
