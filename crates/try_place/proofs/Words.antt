-- Sections written one after the other, and what a try answers in words.
use Rattle.std.proofs.Common.{◌≡◌, ℕ, ◌+◌, ◌*◌, ◌<◌, ◌≤◌, List, [], ◌∷◌, ◌++◌, length, get_or, take, drop, length-take-le, refl, ap, ◌∙◌, arith}
use Rattle.std.proofs.lemmas.List.{take_more}
use Rattle.lists.specs.Tab.{put}
use Rattle.lists.proofs.Fills.{front-put}
use Rattle.words.specs.Words.{joined}
use Rattle.words.proofs.Records.{length-joined, joined-append, joined_one}
use Rattle.bin_section.specs.declared.section.BinSection.{BinSection}
use Rattle.bin_section.specs.Section.{section_words}
use borrow.Rule.Slice.PartMut.{put_mid}
use Rattle.try_place.specs.declared.packed_location.PackedLocation.{PackedLocation}
use Rattle.try_place.specs.declared.Tried.{Tried}
use Rattle.try_place.specs.Try.{location_of}
use Rattle.try_place.specs.Words.{location_words, three_words, tried_words}
use mathlib.Core.List.{append-nil}
use Rattle.lists.proofs.Tabs.{lent}
use lib.ListN.{drop_of_length-le}

-- one more section behind the first i
pub written_more :
    (w before : List ℕ) (sections : List BinSection) (i : ℕ) (d : BinSection)
    → i < length sections
    → before ≡ joined section_words (take i sections) ++ drop (i * 6) w
    → put before (i * 6) (section_words (get_or sections i d)) ≡ joined section_words (take (i + 1) sections) ++ drop ((i + 1) * 6) w
written_more w before sections i d h e =
    let front = joined section_words (take i sections) in
    let vs = section_words (get_or sections i d) in
    let long : length front ≡ i * 6 =
    length-joined section_words 6 (take i sections) d (λ k b. refl) ∙ ap (λ n. n * 6) (length-take-le i sections (omega arith)) in
    let more : joined section_words (take (i + 1) sections) ≡ front ++ vs =
    ap (joined section_words) (take_more sections i d h)
    ∙ joined-append section_words (take i sections) (get_or sections i d ∷ [])
    ∙ ap (λ l. front ++ l) (joined_one section_words (get_or sections i d)) in
    let step : i * 6 + 6 ≡ (i + 1) * 6 = omega arith in
    ap (λ l. put l (i * 6) vs) e ∙ front-put front vs w (i * 6) long ∙ rw (more, step) refl

-- right, above, behind
three_joined : (three : List BinSection) → length three ≡ 3 → joined section_words three ≡ three_words three
unfolding joined three_words
three_joined (a ∷ b ∷ d ∷ []) long = simp append-nil
three_joined (a ∷ b ∷ d ∷ e ∷ l) long = absurd (omega arith)
three_joined (a ∷ b ∷ []) long = absurd (omega arith)
three_joined (a ∷ []) long = absurd (omega arith)
three_joined [] long = absurd (omega arith)

-- the location written, and then the sections, which were lent the rest
pub tried_written :
    (w a part rest : List ℕ) (t : Tried) (l : PackedLocation)
    → length w ≡ 21
    → length t.sections ≡ 3
    → l ≡ location_of t.answer
    → a ≡ put w 0 (location_words l)
    → length part ≤ 18
    → rest ≡ joined section_words t.sections ++ drop (length t.sections * 6) part
    → put_mid 3 18 a rest ≡ tried_words t
unfolding tried_words three_words
tried_written w a part rest t l long three el ea few er =
    let sections : rest ≡ three_words t.sections =
    er ∙ ap (λ d. joined section_words t.sections ++ d) (drop_of_length-le part (omega arith)) ∙ append-nil _ ∙ three_joined t.sections three in
    let e : a ≡ location_words l ++ drop 3 w = ea ∙ front-put [] (location_words l) w 0 refl in
    lent a rest 3 18 (ap length sections)
    ∙ ap (λ s. put s 3 rest) e
    ∙ front-put (location_words l) rest w 3 refl
    ∙ ap (λ d. (location_words l ++ rest) ++ d) (drop_of_length-le w (omega (arith, ap length sections)))
    ∙ append-nil _
    ∙ (λ i. location_words (el i) ++ sections i)
