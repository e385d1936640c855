use Rattle.lists.proofs.Kit.{ap, ◌∙◌, arith, length, rules}
use mathlib.Core.Path.{ap₂}
use lib.Dec.{eqb}
use Rattle.bin_section.specs.Boxes.{volumes}
use Rattle.audit.proofs.TwoLists.{boxes_length, small_placed, small_free, volumes_both}
use Rattle.audit.proofs.checks.Boxes.fill.Goals as goal

pub sum_of_volumes-of_placed-requires : goal.sum_of_volumes-of_placed-requires
sum_of_volumes-of_placed-requires c =
    let long = ap length c.self.view_is in
    (omega arith, omega (arith, boxes_length c.self.inside.placed.now c.self.inside.free.now), small_placed _ _ _ c.self.view_is _ c.requires.0 c.requires.2 _ c.boxes_in.ensures)

pub sum_of_volumes-of_free-requires : goal.sum_of_volumes-of_free-requires
sum_of_volumes-of_free-requires c =
    let long = ap length c.self.view_is in
    (omega arith, omega (arith, boxes_length c.self.inside.placed.now c.self.inside.free.now), small_free _ _ _ c.self.view_is _ c.requires.0 c.requires.2 _ c.boxes_in-2.ensures)

pub overflow_add-result : goal.overflow_add-result
overflow_add-result c =
    let long = ap length c.self.view_is in
    search (rules, arith, boxes_length)

pub returns : goal.returns
returns c =
    ap₂ eqb
    (volumes_both _ _ _ _ _ _ c.boxes_in.ensures c.sum_of_volumes-of_placed.ensures.0 c.boxes_in-2.ensures c.sum_of_volumes-of_free.ensures.0 ∙ ap volumes c.self.view_is)
    c.volume.ensures.0
