-- Words put into a part of a list, and the part put back, are words put into the list.
use Prim.Native.Nat.{ℕ, ◌+◌, ◌≤◌}
use mathlib.Core.Path.{◌≡◌, sym, ap, ◌∙◌}
use mathlib.Core.List.{List, ◌++◌}
use native.Mathlib.Nat.{add_assoc}
use native.Mathlib.Omega.{arith}
use lib.ListN.{length, take, drop, length-take, length-drop}
use borrow.Rule.Slice.PartMut.{put_same}
use Rattle.std.proofs.lemmas.Grind.{elements}
use Rattle.std.proofs.lemmas.List.{append_assoc, drop-append-le, drop-drop, take-append-drop}
use Rattle.lists.specs.Tab.{put}
use Rattle.lists.proofs.Tabs.{lent, length-put}

module _ (w : List ℕ) (a m : ℕ) (room : a + m ≤ length w) where
  abbrev P : List ℕ
  P = take m (drop a w)

  long_P : length P ≡ m
  long_P = simp (length-take, length-drop) (omega arith)

  -- the part put back as it was
  pub put_back : put w a (take m (drop a w)) ≡ w
  put_back = sym (lent w P a m long_P) ∙ put_same a m w

  module _ (b : ℕ) (vs : List ℕ) (fits : b + length vs ≤ m) where
    front : take a w ++ take b P ≡ take (a + b) w
    front = grind (arith, elements)

    back : drop (b + length vs) P ++ drop m (drop a w) ≡ drop (a + b + length vs) w
    back =
        sym (drop-append-le (b + length vs) P (drop m (drop a w)) (omega (arith, long_P)))
        ∙ ap (drop (b + length vs)) (take-append-drop m (drop a w))
        ∙ drop-drop (b + length vs) a w
        ∙ ap (λ (n : ℕ). drop n w) (sym (add_assoc a b (length vs)))

    pub put_in_part : put w a (put (take m (drop a w)) b vs) ≡ put w (a + b) vs
    unfolding put
    put_in_part =
        sym (lent w (put P b vs) a m (length-put P b vs (omega (arith, long_P)) ∙ long_P))
        ∙ rw (← front, ← back) (simp append_assoc)
