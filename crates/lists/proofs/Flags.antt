-- Laws of tests that are joined: and, or, not, and what a chosen case is.
use mathlib.Core.Path.{◌≡◌, refl, sym}
use mathlib.Core.Logic.{◌⊎◌, inl, inr}
use mathlib.Core.Bool.{Bool, true, false, not, ◌&&◌, ◌||◌, cond}
use Prim.Native.Nat.{ℕ}
use native.Mathlib.Omega.{arith}

pub true_false : true ≡ false → ⊥
true_false e = let z : ◌≡◌ {A = ℕ} 0 1 = cc in omega arith

pub false_of : (a : Bool) → (a ≡ true → ⊥) → a ≡ false
false_of true h = absurd (h refl)
false_of false h = refl

-- a test that would have let the other through, and did not
pub false_unless : (a t : Bool) → (a ≡ true → t ≡ true) → not t ≡ true → a ≡ false
false_unless a true f n = absurd (true_false (sym n))
false_unless true false f n = sym (f refl)
false_unless false false f n = refl

pub and_both : (a b : Bool) → a ≡ true → b ≡ true → (a && b) ≡ true
and_both true b p q = q
and_both false b p q = p

pub and_first : (a b : Bool) → (a && b) ≡ true → a ≡ true
and_first true b p = refl
and_first false b p = p

pub and_second : (a b : Bool) → (a && b) ≡ true → b ≡ true
and_second true b p = p
and_second false b p = absurd (true_false (sym p))

pub and_no_first : (a b : Bool) → a ≡ false → (a && b) ≡ false
and_no_first true b p = absurd (true_false p)
and_no_first false b p = refl

pub and_no_second : (a b : Bool) → b ≡ false → (a && b) ≡ false
and_no_second true b p = p
and_no_second false b p = refl

pub or_none : (a b : Bool) → a ≡ false → b ≡ false → (a || b) ≡ false
or_none true b p q = p
or_none false b p q = q

pub or_first : (a b : Bool) → (a || b) ≡ false → a ≡ false
or_first true b p = p
or_first false b p = refl

pub or_second : (a b : Bool) → (a || b) ≡ false → b ≡ false
or_second true b p = absurd (true_false p)
or_second false b p = p

pub or_some : (a b : Bool) → (a || b) ≡ true → (a ≡ true) ⊎ (b ≡ true)
or_some true b p = inl refl
or_some false b p = inr p

pub or_left : (a b : Bool) → a ≡ true → (a || b) ≡ true
or_left a b e = rw e

pub or_right : (a b : Bool) → b ≡ true → (a || b) ≡ true
or_right true b e = refl
or_right false b e = e

-- two tests that fire together
pub same_flags : (a b : Bool) → (a ≡ true → b ≡ true) → (b ≡ true → a ≡ true) → a ≡ b
same_flags true b f g = sym (f refl)
same_flags false true f g = g refl
same_flags false false f g = refl

pub or_false : (a : Bool) → (a || false) ≡ a
or_false true = refl
or_false false = refl

pub or_assoc : (a b c : Bool) → ((a || b) || c) ≡ (a || (b || c))
or_assoc true b c = refl
or_assoc false b c = refl

pub not_yes : (a : Bool) → a ≡ true → not a ≡ false
not_yes true p = refl
not_yes false p = absurd (true_false (sym p))

pub not_no : (a : Bool) → a ≡ false → not a ≡ true
not_no true p = absurd (true_false p)
not_no false p = refl

module _ {A : Type 0} (x y : A) where
  pub cond_yes : (t : Bool) → t ≡ true → cond t x y ≡ x
  cond_yes true p = refl
  cond_yes false p = absurd (true_false (sym p))

  pub cond_no : (t : Bool) → t ≡ false → cond t x y ≡ y
  cond_no true p = absurd (true_false p)
  cond_no false p = refl
