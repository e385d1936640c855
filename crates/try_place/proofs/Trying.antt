-- What a section and a rectangle that pass the checks of a try have.
use mathlib.Core.Path.{◌≡◌}
use mathlib.Core.Bool.{true}
use native.Mathlib.Omega.{arith}
use borrow.Author.Tests.{leb-true}
use Rattle.lists.proofs.Flags.{and_first, and_second}
use Rattle.bin_section.specs.declared.rect_to_insert.RectToInsert.{RectToInsert}
use Rattle.bin_section.specs.declared.section.BinSection.{BinSection}
use Rattle.try_place.specs.Splits.{six_splits}
use Rattle.try_place.specs.Leaning.{Fitting, SmallSplits, Reachable}
use Rattle.try_place.specs.Try.{span_ok, section_ok, Fits}

pub small_splits : (s : BinSection) (r : RectToInsert) → Fitting s r → SmallSplits (six_splits s r)
unfolding six_splits
small_splits s r h =
    record { at0 = omega arith; at1 = omega arith; at2 = omega arith; at3 = omega arith; at4 = omega arith; at5 = omega arith }

pub reachable : (s : BinSection) → section_ok s ≡ true → Reachable s
unfolding span_ok
reachable s a = search (and_first, and_second, leb-true)

pub fitting : (s : BinSection) (r : RectToInsert) → Reachable s → Fits s r → Fitting s r
fitting s r p f = omega arith
