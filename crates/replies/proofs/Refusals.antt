-- Laws of refusals.
use mathlib.Core.Path.{◌≡◌, ap}
use native.Mathlib.Omega.{arith}
use Rattle.std.specs.Prelude.{Result, Ok, Err, IsErrAnd}
use Rattle.replies.specs.declared.refusal.Refusal.{Refusal}
use Rattle.replies.specs.Replies.{refusal_reply}

-- none is answered by 0, the number of a job that is done
pub refusal_number : (x : Refusal) → (refusal_reply x).number ≡ 0 → ⊥
refusal_number x e = grind arith

-- what is handed on of an error whose conversion says what it makes
pub handed_on : {A E : Type 0} (r : Result A E) (e : E) → IsErrAnd r (λ y. y ≡ e) → r ≡ Err e
handed_on (Ok x) e h = absurd h
handed_on (Err y) e h = ap Err h
