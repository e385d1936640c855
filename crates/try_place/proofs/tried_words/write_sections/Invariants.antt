-- The first i sections are written.
use Rattle.std.proofs.Common.{◌≡◌, ◌++◌, ◌*◌, take, drop}
use Rattle.words.specs.Words.{joined}
use Rattle.bin_section.specs.Section.{section_words}
use Rattle.try_place.proofs.tried_words.write_sections.Given as goal

abbrev pub invariant-loop-i : goal.invariant-loop-i
invariant-loop-i l = l.words ≡ joined section_words (take l.i l.sections) ++ drop (l.i * 6) l.initial.words
