-- Laws of texts one after the other: in a buffer, and behind what stands there.
use Prim.Native.Nat.{ℕ, ◌+◌, ◌-◌, ◌≤◌}
use mathlib.Core.Path.{◌≡◌, refl, sym, ap, ap₂, ◌∙◌, subst}
use mathlib.Core.List.{List, [], ◌++◌, append_assoc}
use native.Mathlib.Nat.{add_assoc}
use native.Mathlib.Omega.{arith}
use borrow.Rule.Slice.PartMut.{put_mid, Post-is}
use lib.ListN.{length, take, drop, length-append, length-take}
use Rattle.lists.specs.Tab.{put}
use Rattle.lists.proofs.Fills.{front-put}
use Rattle.text.specs.Written.{Written}

put_then : (l p q : List ℕ) (at : ℕ) → at + length p ≤ length l → put (put l at p) (at + length p) q ≡ put l at (p ++ q)
unfolding put
put_then l p q at h =
    front-put (take at l ++ p) q l (at + length p) (simp (length-append, length-take) (omega arith))
    ∙ ap₂ (λ (a b : List ℕ). a ++ b) (append_assoc (take at l) p q)
    (ap (λ (n : ℕ). drop n l) (add_assoc at (length p) (length q) ∙ ap (λ (n : ℕ). at + n) (sym (length-append p q))))

-- the same text, said otherwise
pub written_as : {at : ℕ} {l p q m : List ℕ} {r : ℕ} → p ≡ q → Written at p l m r → Written at q l m r
written_as {at} {l} {m} {r} e w = subst (λ (t : List ℕ). Written at t l m r) e w

-- one text, then another
pub written_then :
    {at : ℕ} {l p q m n : List ℕ} {k r : ℕ}
    → k ≤ length l
    → Written at p l m k
    → Written k q m n r
    → Written at (p ++ q) l n r
written_then {at} {l} {p} {q} {m} {n} {k} {r} h v w =
    record {
      count = omega (arith, v.count, w.count, length-append p q);
      bytes = w.bytes ∙ rw (v.bytes, v.count) (put_then l p q at (omega (arith, v.count)));
    }

-- a text copied to the part of the buffer that it takes
pub written_part : (at : ℕ) (p l m : List ℕ) → m ≡ p → Written at p l (put_mid at (at + length p - at) l m) (at + length p)
unfolding put
written_part at p l m e =
    record {
      count = refl;
      bytes = rw e (ap (λ (r : List ℕ). take at l ++ (p ++ r)) (Post-is at (at + length p) l (omega arith)) ∙ sym (append_assoc (take at l) p (drop (at + length p) l)));
    }

-- ---- texts put behind what stands there, x

-- one text, then another
pub behind_then : (x a b : List ℕ) {y z : List ℕ} → y ≡ x ++ a → z ≡ y ++ b → z ≡ x ++ (a ++ b)
behind_then x a b e f = f ∙ ap (λ (l : List ℕ). l ++ b) e ∙ append_assoc x a b

-- the room for both is room for the one
pub room_first : (x a b : List ℕ) {m : ℕ} → length x + length (a ++ b) ≤ m → length x + length a ≤ m
room_first x a b h = omega (arith, h, length-append a b)

-- and for the other, once the one stands there
pub room_then : (x a b : List ℕ) {y : List ℕ} {m : ℕ} → y ≡ x ++ a → length x + length (a ++ b) ≤ m → length y + length b ≤ m
room_then x a b e h = omega (arith, h, ap length e, length-append x a, length-append a b)

-- behind no text
pub first_text : {x y a : List ℕ} → x ≡ [] → y ≡ x ++ a → y ≡ a
first_text {a} e f = f ∙ ap (λ (l : List ℕ). l ++ a) e
