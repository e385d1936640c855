-- A line put at the front of a buffer.
use Prim.Native.Nat.{ℕ, ◌+◌, ◌≤◌}
use mathlib.Core.Path.{◌≡◌, ap, ◌∙◌}
use mathlib.Core.List.{List}
use native.Mathlib.Omega.{arith}
use lib.ListN.{length, drop, length-append, length-drop}
use lib.Seq.{take_at, drop_at}
use Rattle.lists.specs.Tab.{put}
use Rattle.text.specs.Written.{Written}
use Rattle.audit_input.specs.Line.{Wrote}

pub wrote : {l l' line : List ℕ} {r : ℕ} → r ≤ length l → Written 0 line l l' r → Wrote line l l' r
unfolding put
wrote {l} {l'} {line} {r} h w =
    let e = w.bytes in
    let n : length line ≡ r = omega (arith, w.count) in
    let k : 0 + length line ≡ r = omega arith in
    record {
      count = omega arith;
      room = rw e (simp (length-append, length-drop) (omega arith));
      bytes = rw e (take_at line (drop (0 + length line) l) r n);
      rest = rw e (drop_at line (drop (0 + length line) l) r n ∙ ap (λ (k : ℕ). drop k l) k);
    }
