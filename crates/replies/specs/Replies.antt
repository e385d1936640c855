-- "Numbered replies": a number and a detail, and the checks in their order.
use Rattle.std.specs.Prelude.{ℕ, List, [], ◌∷◌, Bool, cond, ltb, Result, Ok, Err}
use Rattle.lists.specs.Lowest.{lowest}
use Rattle.replies.specs.declared.reply.Reply.{Reply}
use Rattle.replies.specs.declared.refusal.Refusal.{Refusal}
use Rattle.replies.specs.declared.refusal.Refusal.TheVariants.{BadLength, BadChamber, BadSection, BadRectangle, SameId, NoRoom, NotEnoughBinSpace, NoChamber, NotContained, Overlaps, Full, TooWide, TooTall, TooDeep, Outside, Shared, Gap}

abbrev pub reply : ℕ → ℕ → Reply
reply n d = record { number = n; detail = d }

-- the table of "Numbered replies": the number and the detail of each refusal; "A detail that isn't named .. is 0"
abbrev pub refusal_reply : Refusal → Reply
refusal_reply BadLength = reply 1 0
refusal_reply (BadChamber i) = reply 2 i
refusal_reply (BadSection i) = reply 3 i
refusal_reply (BadRectangle i) = reply 4 i
refusal_reply (SameId i) = reply 5 i
refusal_reply (NoRoom i) = reply 6 i
refusal_reply (NotEnoughBinSpace i) = reply 7 i
refusal_reply NoChamber = reply 8 0
refusal_reply NotContained = reply 9 0
refusal_reply (Overlaps i) = reply 10 i
refusal_reply Full = reply 11 0
refusal_reply TooWide = reply 12 0
refusal_reply TooTall = reply 13 0
refusal_reply TooDeep = reply 14 0
refusal_reply (Outside i) = reply 16 i
refusal_reply (Shared i) = reply 17 i
refusal_reply Gap = reply 18 0

-- the reply of a job: 0 where it is done, else its refusal's
abbrev pub job_reply : Result (Unit {0}) Refusal → Reply
job_reply (Ok _) = reply 0 0
job_reply (Err refusal) = refusal_reply refusal

-- the same of a job that is done with a detail
abbrev pub detailed_reply : Result ℕ Refusal → Reply
detailed_reply (Ok detail) = reply 0 detail
detailed_reply (Err refusal) = refusal_reply refusal

-- whether a refusal is given, and what it answers: a reply, or a reply and more
pub record Check (A : Type 0) : Type 0 where
  pub fires : Bool
  pub answer : A

-- a check of the whole call
abbrev pub once : {A : Type 0} → A → Bool → Check A
once answer fires = record { fires = fires; answer = answer }

-- a check of each of n entries: "the lowest faulty index is given"
abbrev pub each : {A : Type 0} → (ℕ → A) → ℕ → (ℕ → Bool) → Check A
each answer n faulty = record { fires = ltb (lowest n faulty) n; answer = answer (lowest n faulty) }

-- "Checks go in this order, each over the whole table before the next": the first that fires answers, else the job is done
unfoldable pub in_order : {A B : Type 0} → List (Check A) → (A → B) → B → B
in_order [] refused done = done
in_order (c ∷ cs) refused done = cond c.fires (refused c.answer) (in_order cs refused done)
