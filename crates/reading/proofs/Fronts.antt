-- What a program writes that looks no further than the front of its input.
use Rattle.std.proofs.Common.{◌≡◌, ℕ, List, Option, None, Some, IfSome, Result, Ok, Err, OnOk, ap, ◌∙◌, subst, length, take}
use Rattle.std.specs.Io.KnownBytes.{Appends}

-- what is written to the front of an input is what is written to the whole, where no more than the front counts
pub written_whole :
    {T E : Type 0} (r : Result T E) (a old new : Option (List ℕ)) (f : List ℕ → List ℕ) (most : ℕ) (buf front : List ℕ)
    → ((bytes : List ℕ) → f (take most bytes) ≡ f bytes)
    → length buf ≡ most
    → IfSome a (λ bytes. front ≡ take (length buf) bytes)
    → OnOk r (Appends old new (f front))
    → OnOk r (IfSome a (λ bytes. Appends old new (f bytes)))
written_whole (Ok v) None old new f most buf front cut long same w = tt
written_whole (Ok v) (Some bytes) old new f most buf front cut long same w =
    subst (Appends old new) (ap f same ∙ ap (λ n. f (take n bytes)) long ∙ cut bytes) w
written_whole (Err e) a old new f most buf front cut long same w = tt
