-- Try one placement: its checks in their order, and what it answers.
use Rattle.std.specs.Prelude.{ℕ, ◌+◌, ◌≤◌, List, [], ◌∷◌, ◌++◌, map, Bool, ◌&&◌, not, ltb, leb, get_or, Result, Ok, Err}
use Rattle.try_place.specs.declared.packed_location.PackedLocation.{PackedLocation}
use Rattle.bin_section.specs.declared.rect_to_insert.RectToInsert.{RectToInsert}
use Rattle.bin_section.specs.declared.section.BinSection.{BinSection}
use Rattle.try_place.specs.declared.fitting.BinSectionError.{BinSectionError}
use Rattle.try_place.specs.declared.fitting.BinSectionError.TheVariants.{PlacementWiderThanBinSection, PlacementTallerThanBinSection, PlacementDeeperThanBinSection}
use Rattle.try_place.specs.declared.Tried.{Tried}
use Rattle.replies.specs.declared.reply.Reply.{Reply}
use Rattle.replies.specs.declared.refusal.Refusal.{Refusal}
use Rattle.replies.specs.declared.refusal.Refusal.TheVariants.{BadSection, BadRectangle, TooWide, TooTall, TooDeep}
use Rattle.replies.specs.Replies.{Check, once, in_order, reply, refusal_reply}
use Rattle.bin_section.specs.Sides.{side_ok, sides_ok}
use Rattle.bin_section.specs.Section.{zero_section}
use Rattle.try_place.specs.Splits.{six_splits}
use Rattle.try_place.specs.Choice.{chosen}
use Rattle.try_place.specs.Location.{location_in, zero_location}

-- "zero side, side above 65,535, or origin plus side above 65,535": none of these. The sum is one of whole numbers.
unfoldable pub span_ok : ℕ → ℕ → Bool
span_ok origin side = side_ok side && leb (origin + side) 65535

abbrev pub section_ok : BinSection → Bool
section_ok s = span_ok s.x s.whd.width && (span_ok s.y s.whd.height && span_ok s.z s.whd.depth)

-- ---- the fit

-- "wider, taller, deeper than the section"
unfoldable pub fit_checks : BinSection → RectToInsert → List (Check BinSectionError)
fit_checks s r =
    once PlacementWiderThanBinSection (ltb s.whd.width r.whd.width)
    ∷ once PlacementTallerThanBinSection (ltb s.whd.height r.whd.height)
    ∷ once PlacementDeeperThanBinSection (ltb s.whd.depth r.whd.depth)
    ∷ []

-- where none of them is given, it is placed
unfoldable pub fit_of : BinSection → RectToInsert → Result PackedLocation BinSectionError
fit_of s r = in_order (fit_checks s r) (λ e. Err e) (Ok (location_in s r))

-- a section fits a rectangle that is not "wider, taller, deeper than the section"
pub record Fits (s : BinSection) (r : RectToInsert) : Type 0 where
  pub width_fits : r.whd.width ≤ s.whd.width
  pub height_fits : r.whd.height ≤ s.whd.height
  pub depth_fits : r.whd.depth ≤ s.whd.depth

-- 12, 13, 14
abbrev pub refusal_of : BinSectionError → Refusal
refusal_of PlacementWiderThanBinSection = TooWide
refusal_of PlacementTallerThanBinSection = TooTall
refusal_of PlacementDeeperThanBinSection = TooDeep

-- "an enum whose refusal is taken apart early": what follows where the answer is a location, and what else
abbrev pub on_placed : {A E : Type 0} → Result PackedLocation E → (PackedLocation → A) → A → A
on_placed (Ok l) then' else' = then' l
on_placed (Err e) then' else' = else'

-- the same with the try's refusal
abbrev pub refused_fit : Result PackedLocation BinSectionError → Result PackedLocation Refusal
refused_fit (Ok l) = Ok l
refused_fit (Err e) = Err (refusal_of e)

-- ---- the try

-- 3 and 4: the section alone, and the rectangle alone
unfoldable pub range_checks : BinSection → RectToInsert → List (Check Refusal)
range_checks s r = once (BadSection 0) (not (section_ok s)) ∷ once (BadRectangle 0) (not (sides_ok r.whd)) ∷ []

-- a check of the fit as one of the try
abbrev pub refused_check : Check BinSectionError → Check Refusal
refused_check c = once (refusal_of c.answer) c.fires

-- "Try: 3 (..), 4, 12, 13, 14."
unfoldable pub try_checks : BinSection → RectToInsert → List (Check Refusal)
try_checks s r = range_checks s r ++ map refused_check (fit_checks s r)

unfoldable pub try_answer : BinSection → RectToInsert → Result PackedLocation Refusal
try_answer s r = in_order (try_checks s r) (λ e. Err e) (Ok (location_in s r))

-- "the chosen three in the order right, above, behind"
abbrev pub chosen_three : BinSection → RectToInsert → List BinSection
chosen_three s r = get_or (six_splits s r) (chosen (six_splits s r)) []

-- "Try returns the location and the chosen three"; "a refused try returns a zero location and zero sections"
abbrev pub sections_of : BinSection → RectToInsert → Result PackedLocation Refusal → List BinSection
sections_of s r (Ok l) = chosen_three s r
sections_of s r (Err e) = zero_section ∷ zero_section ∷ zero_section ∷ []

abbrev pub try_of : BinSection → RectToInsert → Tried
try_of s r = record { answer = try_answer s r; sections = sections_of s r (try_answer s r) }

-- what each outcome is; that a try is the first check's refusal, or else what is placed, is `try_row` (proofs/Refusing.antt)
abbrev pub refused_of : Refusal → Tried
refused_of e = record { answer = Err e; sections = zero_section ∷ zero_section ∷ zero_section ∷ [] }

abbrev pub placed_of : BinSection → RectToInsert → Tried
placed_of s r = record { answer = Ok (location_in s r); sections = chosen_three s r }

-- the reply of each answer, and its number; the detail of a try is 0 (`no_detail`, proofs/Refusing.antt)
abbrev pub reply_of : Result PackedLocation Refusal → Reply
reply_of (Ok l) = reply 0 0
reply_of (Err e) = refusal_reply e

abbrev pub number_of : Result PackedLocation Refusal → ℕ
number_of answer = (reply_of answer).number

-- the location of each answer
abbrev pub location_of : Result PackedLocation Refusal → PackedLocation
location_of (Ok l) = l
location_of (Err e) = zero_location
