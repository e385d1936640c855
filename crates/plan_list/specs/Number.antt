-- Numbers in decimal, as words say them.
use Rattle.std.specs.Prelude.{ℕ, ◌+◌, ◌*◌, ◌-◌, ◌^◌, List, [], ◌∷◌, Bool, ◌&&◌, cond, leb, ltb, Option, Some, None, option_and_then}

-- 0 to 9
abbrev pub is_digit : ℕ → Bool
is_digit b = leb 48 b && leb b 57

-- the number n with one digit more. There is none where the byte is no digit, or the number is above 4,294,967,295.
abbrev pub with_digit : ℕ → ℕ → Option ℕ
with_digit n b = cond (is_digit b && ltb (n * 10 + (b - 48)) (2 ^ 32)) (Some (n * 10 + (b - 48))) None

-- the number n with more digits
abbrev pub said_after : ℕ → List ℕ → Option ℕ
said_after n [] = Some n
said_after n (b ∷ bs) = option_and_then (λ m. said_after m bs) (with_digit n b)

-- the number that a word says: one digit or more
abbrev pub said : List ℕ → Option ℕ
said [] = None
said (b ∷ bs) = said_after 0 (b ∷ bs)
