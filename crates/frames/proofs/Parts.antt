-- What an input has left behind two parts of it that were read.
use Rattle.std.proofs.Common.{◌≡◌, ℕ, ◌+◌, List, Option, Some, None, IfSome, length, drop, sym, ap, ◌∙◌, drop_at, drop-drop}
use Rattle.std.specs.Io.KnownBytes.{Consumes}

pub two_parts :
    (old mid new : Option (List ℕ)) (a b : List ℕ) (n m : ℕ)
    → length a ≡ n
    → length b ≡ m
    → Consumes old mid a
    → Consumes mid new b
    → IfSome old (λ bytes. new ≡ Some (drop (n + m) bytes))
two_parts None mid new a b n m la lb first second = tt
two_parts (Some bytes) None new a b n m la lb first second = absurd first
two_parts (Some bytes) (Some rest) None a b n m la lb first second = absurd second
two_parts (Some bytes) (Some rest) (Some left) a b n m la lb first second =
    let behind : drop n bytes ≡ rest = ap (drop n) first ∙ drop_at a rest n la in
    ap Some (sym (drop_at b left m lb) ∙ ap (drop m) (sym second ∙ sym behind) ∙ drop-drop m n bytes)
