-- The law that a record owes: how a section lies in a table, six words each, one section after the other.
use Prim.Native.Nat.{◌*◌}
use mathlib.Core.Path.{◌≡◌, refl}
use native.Mathlib.Nat.{add-zero}
use native.Mathlib.Omega.{arith}
use lib.ListN.{get_or}
use Rattle.lists.specs.Tab.{tab}
use Rattle.lists.proofs.Tabs.{middle}
use Rattle.words.specs.Records.{Layout}
use Rattle.bin_section.specs.Section.{section_at, section_words}

pub section_layout : Layout 6 section_at (λ s. section_words s)
unfolding section_at tab
section_layout =
    record {
      size = λ s. refl;
      ext = λ w v i j h.
          let x : get_or w (i * 6) 0 ≡ get_or v (j * 6) 0 = simp add-zero at (h 0 (omega arith)) in
          rw (x, h 1 (omega arith), h 2 (omega arith), h 3 (omega arith), h 4 (omega arith), h 5 (omega arith));
      read_back = λ s. refl;
      written_back = λ w i h. rw (middle 6 (i * 6) w h) (simp add-zero);
    }
