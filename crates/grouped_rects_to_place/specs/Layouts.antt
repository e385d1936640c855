-- The law that a record owes: how a rectangle lies in a table, five words each, one rectangle after the other.
use Prim.Native.Nat.{◌*◌}
use mathlib.Core.Path.{◌≡◌, refl}
use native.Mathlib.Nat.{add-zero}
use native.Mathlib.Omega.{arith}
use lib.ListN.{get_or}
use Rattle.lists.specs.Tab.{tab}
use Rattle.lists.proofs.Tabs.{middle}
use Rattle.words.specs.Records.{Layout}
use Rattle.grouped_rects_to_place.specs.Rect.{rect_width, rect_at, rect_words}

pub rect_layout : Layout rect_width rect_at (λ r. rect_words r)
unfolding rect_at tab
rect_layout =
    record {
      size = λ r. refl;
      ext = λ w v i j h.
          let x : get_or w (i * rect_width) 0 ≡ get_or v (j * rect_width) 0 = simp add-zero at (h 0 (omega arith)) in
          rw (x, h 1 (omega arith), h 2 (omega arith), h 3 (omega arith), h 4 (omega arith));
      read_back = λ r. refl;
      written_back = λ w i h. rw (middle rect_width (i * rect_width) w h) (simp add-zero);
    }
