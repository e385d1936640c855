-- Laws of a list of words read as sections, by the laws of a record.
use Rattle.std.proofs.Common.{◌≡◌, ℕ, ◌+◌, ◌*◌, ◌<◌, ◌≤◌, List, length, get_or, take, drop, sym, refl, ap, ◌∙◌, arith, length-take-le, get_or-drop, get_or-take, ext_get_or}
use Rattle.lists.specs.Tab.{put}
use Rattle.lists.proofs.Tabs.{length-tab, getd_tab}
use Rattle.words.proofs.Records as records
use Rattle.bin_section.specs.declared.section.BinSection.{BinSection}
use Rattle.bin_section.specs.Section.{section_at, section_words, zero_section}
use Rattle.bin_section.specs.Layouts.{section_layout}
use Rattle.sections.specs.Sections.{sections, all_words}

module _ (w : List ℕ) (i : ℕ) (s : BinSection) (fits : i * 6 + 6 ≤ length w) where
  pub section_at-put_same : section_at (put w (i * 6) (section_words s)) i ≡ s
  section_at-put_same = records.at_put_same 6 section_at (λ b. section_words b) section_layout w i s fits

  pub section_at-put_other : (k : ℕ) → (k ≡ i → ⊥) → section_at (put w (i * 6) (section_words s)) k ≡ section_at w k
  section_at-put_other = records.at_put_other 6 section_at (λ b. section_words b) section_layout w i s fits

-- ---- the first n sections

pub length-sections : (w : List ℕ) (n : ℕ) → length (sections w n) ≡ n
unfolding sections
length-sections w n = length-tab n (section_at w)

pub getd_sections : (w : List ℕ) (n i : ℕ) (d : BinSection) → i < n → get_or (sections w n) i d ≡ section_at w i
unfolding sections
getd_sections w n i d h = getd_tab n (section_at w) i d h

pub sections_ext : (w v : List ℕ) (n : ℕ) → ((k : ℕ) → k < n → section_at w k ≡ section_at v k) → sections w n ≡ sections v n
sections_ext w v n h =
    ext_get_or zero_section (sections w n) (sections v n) (length-sections w n ∙ sym (length-sections v n))
    (λ k b. let b' : k < n = omega (arith, length-sections w n) in
    getd_sections w n k zero_section b' ∙ h k b' ∙ sym (getd_sections v n k zero_section b'))

pub take-sections : (w : List ℕ) (n j : ℕ) → j ≤ n → take j (sections w n) ≡ sections w j
take-sections w n j h =
    ext_get_or zero_section (take j (sections w n)) (sections w j)
    (length-take-le j (sections w n) (omega (arith, length-sections w n)) ∙ sym (length-sections w j))
    (λ k b.
    let b' : k < j = omega (arith, length-take-le j (sections w n) (omega (arith, length-sections w n))) in
    get_or-take j (sections w n) k zero_section b' ∙ getd_sections w n k zero_section (omega arith) ∙ sym (getd_sections w j k zero_section b'))

-- ---- reading and writing are each other's inverse

pub length-all_words : (l : List BinSection) → length (all_words l) ≡ length l * 6
length-all_words l = records.length-joined (λ b. section_words b) 6 l zero_section (λ i h. refl)

pub encoded : (w : List ℕ) (n : ℕ) → n * 6 ≤ length w → all_words (sections w n) ≡ take (n * 6) w
unfolding sections
encoded = records.encoded 6 section_at (λ b. section_words b) section_layout

pub decoded : (l : List BinSection) (w : List ℕ) (n : ℕ) → length l ≡ n → take (n * 6) w ≡ all_words l → sections w n ≡ l
unfolding sections
decoded l w n = records.decoded 6 section_at (λ b. section_words b) section_layout l w n zero_section

-- a word is a word of its section
pub word_of : (w : List ℕ) (k m : ℕ) → k * 6 + 6 ≤ length w → m < 6 → get_or w (k * 6 + m) 0 ≡ get_or (section_words (section_at w k)) m 0
word_of w k m room h =
    sym (ap (λ (l : List ℕ). get_or l m 0) (section_layout.written_back w k room) ∙ get_or-take 6 (drop (k * 6) w) m 0 h ∙ get_or-drop (k * 6) w m 0)
