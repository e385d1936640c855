-- Words put into a table one after the other from the front: what is written so far, and the rest as it was.
use Prim.Native.Nat.{ℕ, suc, ◌+◌, ◌≤◌, ◌<◌}
use mathlib.Core.Path.{◌≡◌, sym, ap₂, ◌∙◌}
use mathlib.Core.List.{List, [], ◌∷◌, ◌++◌, append_assoc}
use native.Mathlib.Numerals.{add-one}
use native.Mathlib.Omega.{arith}
use lib.ListN.{length, take, drop, set, length-append, length-drop}
use lib.Seq.{set_split, take_at, drop-append-add, drop-drop}
use Rattle.lists.specs.Tab.{put}

-- one store is a part of one word put
pub set-put : (w : List ℕ) (i v : ℕ) → i < length w → set w i v ≡ put w i (v ∷ [])
unfolding put
set-put w i v h = set_split w i v h ∙ rw add-one (sym (append_assoc (take i w) (v ∷ []) (drop (suc i) w)))

-- p is written, and vs is put after it
pub front-put :
    (p vs w : List ℕ) (k : ℕ)
    → length p ≡ k
    → put (p ++ drop k w) k vs ≡ (p ++ vs) ++ drop (k + length vs) w
unfolding put
front-put p vs w k e =
    ap₂ (λ (a b : List ℕ). (a ++ vs) ++ b) (take_at p (drop k w) k e) (rest e ∙ drop-drop (length vs) k w)
  where
    rest : length p ≡ k → drop (k + length vs) (p ++ drop k w) ≡ drop (length vs) (drop k w)
    rest q = rw (← q) (drop-append-add p (drop (length p) w) (length vs))

pub length_front : (p w : List ℕ) (k : ℕ) → length p ≡ k → k ≤ length w → length (p ++ drop k w) ≡ length w
length_front p w k e h = simp (length-append, length-drop) (omega arith)
