-- Laws of removal, append, copying and clearing, and what stands past the count.
use Rattle.std.proofs.Common.{◌≡◌, ℕ, zero, suc, ◌+◌, ◌-◌, ◌*◌, ◌/◌, ◌%◌, ◌<◌, ◌≤◌, List, [], ◌∷◌, ◌++◌, length, get_or, take, drop, replicate, sym, refl, ap, ◌∙◌, ap₂, append-nil, add-one, arith, length-drop, take-append-drop, drop_of_length-le, length-take, get_or-drop, take_at, ext_get_or}
use native.Mathlib.Decide.{dec_lt}
use lib.ListN.{length-replicate, get_or-replicate, get_or-eq_default}
use Rattle.lists.specs.Tab.{put}
use Rattle.lists.proofs.Tabs.{tab_suc, length-put, getd_put_in, getd_put_before}
use Rattle.words.specs.Leaning.{without}
use Rattle.words.proofs.Records as records
use Rattle.bin_section.specs.declared.section.BinSection.{BinSection}
use Rattle.bin_section.specs.Section.{section_at, section_words, zero_section}
use Rattle.bin_section.specs.Layouts.{section_layout}
use Rattle.sections.specs.Sections.{sections, all_words}
use Rattle.sections.specs.Leaning.{Removed, Appended, ZeroPast, Cleared}
use Rattle.sections.proofs.Reading.{section_at-put_same, section_at-put_other, length-sections, sections_ext, encoded, decoded, word_of}

pub removed : (w w' : List ℕ) (count i : ℕ) → i < count → count * 6 ≤ length w → w' ≡ without (i * 6) 6 ((count - (i + 1)) * 6) w → Removed count i w w'
unfolding sections section_at
removed w w' count i low room e =
    rw e
    (record {
      free = records.taken_out_lem 6 section_at (λ b. section_words b) section_layout w count i low room;
      freed = records.taken_last 6 section_at (λ b. section_words b) section_layout w count i low room;
      past = records.taken_past 6 section_at (λ b. section_words b) section_layout w count i low room;
    })

pub appended : (w : List ℕ) (count : ℕ) (s : BinSection) → count * 6 + 6 ≤ length w → Appended count s w (put w (count * 6) (section_words s))
unfolding sections
appended w count s room =
    let w' : List ℕ = put w (count * 6) (section_words s) in
    let first : sections w' count ≡ sections w count = sections_ext w' w count (λ k h. section_at-put_other w count s room k (λ e. omega arith)) in
    record {
      words = refl;
      past = λ k h. section_at-put_other w count s room k (λ e. omega arith);
      free = rw (add-one, tab_suc count (section_at w')) (ap₂ (λ (l : List BinSection) (x : BinSection). l ++ (x ∷ [])) first (section_at-put_same w count s room));
    }

-- the words of the first n sections, copied to the front of others
pub copied_sections : (from rest : List ℕ) (n : ℕ) → n * 6 ≤ length from → sections (take (n * 6) from ++ rest) n ≡ sections from n
copied_sections from rest n room =
    decoded (sections from n) (take (n * 6) from ++ rest) n (length-sections from n)
    (take_at (take (n * 6) from) rest (n * 6) (length-take (n * 6) from ∙ omega arith) ∙ sym (encoded from n room))

-- ---- what stands past the count

six_zeros : (m : ℕ) → get_or (section_words zero_section) m 0 ≡ 0
six_zeros zero = refl
six_zeros (suc zero) = refl
six_zeros (suc (suc zero)) = refl
six_zeros (suc (suc (suc zero))) = refl
six_zeros (suc (suc (suc (suc zero)))) = refl
six_zeros (suc (suc (suc (suc (suc zero))))) = refl
six_zeros (suc (suc (suc (suc (suc (suc m)))))) = refl

-- all words, where what stands past the count is zeros
pub part_words : (w : List ℕ) (n count : ℕ) → length w ≡ n * 6 → count ≤ n → ZeroPast count w → w ≡ all_words (sections w count) ++ replicate (length w - count * 6) 0
part_words w n count long room z =
    sym (take-append-drop (count * 6) w)
    ∙ ap₂ (λ (a b : List ℕ). a ++ b) (sym (encoded w count (omega arith)))
    (ext_get_or 0 (drop (count * 6) w) (replicate (length w - count * 6) 0)
    (length-drop (count * 6) w ∙ sym (length-replicate (length w - count * 6) 0))
    (λ j b. let b' : j < length w - count * 6 = omega (arith, length-drop (count * 6) w) in
    get_or-drop (count * 6) w j 0 ∙ zero_past (count * 6 + j) (omega arith) (omega arith) ∙ sym (get_or-replicate (length w - count * 6) j 0 0 b')))
  where
    zero_past : (p : ℕ) → count * 6 ≤ p → p < length w → get_or w p 0 ≡ 0
    zero_past p low high =
        let e : p / 6 * 6 + p % 6 ≡ p = omega arith in
        rw (← e) (word_of w (p / 6) (p % 6) (omega arith) (omega arith) ∙ rw (z.zeros (p / 6) (omega arith)) (six_zeros (p % 6)))

-- the words from the count on filled with zeros
module _ (w : List ℕ) (count : ℕ) (room : count * 6 ≤ length w) where
  abbrev Z : List ℕ
  Z = replicate (length w - count * 6) 0

  abbrev F : List ℕ
  F = put w (count * 6) Z

  long_Z : length Z ≡ length w - count * 6
  long_Z = length-replicate (length w - count * 6) _

  past : (j : ℕ) → count * 6 ≤ j → Dec (j < length w) → get_or F j 0 ≡ 0
  past j l (yes b) =
      let f : count * 6 + (j - count * 6) ≡ j = omega arith in
      ap (λ (p : ℕ). get_or F p 0) (sym f)
      ∙ getd_put_in w (count * 6) Z (omega (arith, long_Z)) (j - count * 6) (omega (arith, long_Z))
      ∙ get_or-replicate (length w - count * 6) (j - count * 6) 0 0 (omega arith)
  past j l (no b) = get_or-eq_default F 0 (omega (arith, length-put w (count * 6) Z (omega (arith, long_Z))))

  zeros_past : ZeroPast count F
  unfolding section_at
  zeros_past =
      record { zeros = λ i b. records.at_first 6 section_at (λ s. section_words s) section_layout F [] i (λ m l. past (i * 6 + m) (omega arith) (dec_lt (i * 6 + m) (length w))) }

  pub cleared : (w' : List ℕ) → w' ≡ put w (count * 6) (replicate (length w - count * 6) 0) → Cleared count w w'
  unfolding put
  cleared w' e =
      let n : length w ≤ count * 6 + length Z = omega (arith, long_Z) in
      rw e
      (record {
        free =
            sections_ext F w count
            (λ i b. section_layout.ext F w i i (λ m l. getd_put_before w (count * 6) Z (omega (arith, long_Z)) (i * 6 + m) (omega arith)));
        words = rw (encoded w count room, drop_of_length-le w n) (append-nil (take (count * 6) w ++ Z));
        zeros = zeros_past;
      })
