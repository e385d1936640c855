-- The law that a record owes: how a placement lies in a table, five words each, one after the other.
use Prim.Native.Nat.{◌*◌}
use mathlib.Core.Path.{◌≡◌, refl}
use native.Mathlib.Nat.{add-zero}
use native.Mathlib.Omega.{arith}
use lib.ListN.{get_or}
use Rattle.lists.specs.Tab.{tab}
use Rattle.lists.proofs.Tabs.{middle}
use Rattle.words.specs.Records.{Layout}
use Rattle.placement.specs.Placements.{placement_width, placement_at, placement_words}

pub placement_layout : Layout placement_width placement_at (λ p. placement_words p)
unfolding placement_at tab
placement_layout =
    record {
      size = λ p. refl;
      ext = λ w v i j h.
          let x : get_or w (i * placement_width) 0 ≡ get_or v (j * placement_width) 0 = simp add-zero at (h 0 (omega arith)) in
          rw (x, h 1 (omega arith), h 2 (omega arith), h 3 (omega arith), h 4 (omega arith));
      read_back = λ p. refl;
      written_back = λ w i h. rw (middle placement_width (i * placement_width) w h) (simp add-zero);
    }
