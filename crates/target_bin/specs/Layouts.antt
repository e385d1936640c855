-- The law that a record owes: how a chamber lies in a table, five words each, one chamber after the other.
use Prim.Native.Nat.{◌*◌}
use mathlib.Core.Path.{◌≡◌, refl}
use native.Mathlib.Nat.{add-zero}
use native.Mathlib.Omega.{arith}
use lib.ListN.{get_or}
use Rattle.lists.specs.Tab.{tab}
use Rattle.lists.proofs.Tabs.{middle}
use Rattle.words.specs.Records.{Layout}
use Rattle.target_bin.specs.Chambers.{chamber_at, bin_words}

pub chamber_layout : Layout 5 chamber_at (λ b. bin_words b)
unfolding chamber_at tab
chamber_layout =
    record {
      size = λ b. refl;
      ext = λ w v i j h.
          let x : get_or w (i * 5) 0 ≡ get_or v (j * 5) 0 = simp add-zero at (h 0 (omega arith)) in
          rw (x, h 1 (omega arith), h 2 (omega arith), h 3 (omega arith), h 4 (omega arith));
      read_back = λ b. refl;
      written_back = λ w i h. rw (middle 5 (i * 5) w h) (simp add-zero);
    }
