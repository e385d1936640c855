-- Laws of fresh chambers: one part, one turn of the loop over the chambers, its end, and what is left in the model.
use Prim.Native.Nat.{ℕ, zero, suc, ◌+◌, ◌*◌, ◌-◌, ◌≤◌, ◌<◌}
use mathlib.Core.Path.{◌≡◌, refl, sym, ap, ap₂, ◌∙◌}
use mathlib.Core.List.{List, [], ◌∷◌, ◌++◌, map}
use native.Mathlib.Omega.{arith}
use lib.ListN.{length, get_or, drop, replicate}
use lib.Seq.{get_or-append-add, get_or-drop}
use Rattle.lists.specs.Tab.{tab, put}
use Rattle.lists.proofs.Tabs.{length-put}
use Rattle.bin_section.specs.declared.section.BinSection.{BinSection}
use Rattle.bin_section.specs.Section.{whole_section, section_words}
use Rattle.words.specs.Words.{joined}
use Rattle.sections.specs.Sections.{sections, all_words}
use Rattle.sections.specs.Leaning.{Cleared}
use Rattle.words.proofs.Records.{length-joined-tab, partly, partly_more, partly_all}
use Rattle.sections.proofs.Moves.{appended}
use Rattle.target_bin.specs.declared.chamber.TargetBin.{TargetBin}
use Rattle.target_bin.specs.Chambers.{chamber_at, bin_words, chamber_count, chambers_of, table_of}
use Rattle.target_bin.specs.Store.{part_of, store_of}
use Rattle.target_bin.specs.Fresh.{freshened, fresh_table, fresh_store}
use Rattle.target_bin.specs.Layouts.{chamber_layout}
use Rattle.target_bin.proofs.Parts.{part_back, length-part_of}

-- the free sections of a fresh chamber
abbrev pub whole_of : TargetBin → List BinSection
whole_of b = whole_section b.whd ∷ []

-- ---- one chamber

-- the whole chamber written first, and the rest cleared
pub fresh_part : (w v u : List ℕ) (s : BinSection) → length w ≡ 768 → v ≡ put w 0 (section_words s) → Cleared 1 v u → u ≡ part_of (s ∷ [])
unfolding part_of sections tab
fresh_part w v u s long wrote c =
    let a = appended w 0 s (omega arith) in
    let one : sections v 1 ≡ s ∷ [] = ap (λ (x : List ℕ). sections x 1) wrote ∙ a.free in
    let n : length v - 1 * 6 ≡ 768 - 1 * 6 = ap (λ (x : List ℕ). length x - 1 * 6) wrote ∙ omega (arith, length-put w 0 (section_words s) (omega arith)) in
    c.words ∙ ap₂ (λ (l : List BinSection) (m : ℕ). all_words l ++ replicate m 0) one n

-- its part comes back
pub ruleset freshen_rules = (part_back, length-part_of)

-- ---- the chambers one after the other

getd_seam : (p w : List ℕ) (a m : ℕ) → length p ≡ a → get_or (p ++ drop a w) (a + m) 0 ≡ get_or w (a + m) 0
getd_seam p w a m long = rw (← long) (get_or-append-add p (drop (length p) w) m 0 ∙ get_or-drop (length p) w m 0)

abbrev pub fresh_at : List ℕ → ℕ → TargetBin
fresh_at chambers j = freshened (chamber_at chambers j)

abbrev pub whole_at : List ℕ → ℕ → List BinSection
whole_at chambers j = whole_of (chamber_at chambers j)

-- the tables, i chambers on
pub record Freshly (c₀ s₀ c s : List ℕ) (i : ℕ) : Type 0 where
  pub low : i ≤ chamber_count c₀
  pub table : c ≡ partly (λ b. bin_words b) (fresh_at c₀) 5 c₀ i
  pub parts : s ≡ partly part_of (whole_at c₀) 768 s₀ i
  pub table_long : length c ≡ length c₀
  pub parts_long : length s ≡ length s₀

pub freshly_none : (c₀ s₀ : List ℕ) → Freshly c₀ s₀ c₀ s₀ 0
unfolding joined tab
freshly_none c₀ s₀ = record { low = omega arith; table = refl; parts = refl; table_long = refl; parts_long = refl }

pub freshly_more : (c₀ s₀ c s c' s' : List ℕ) (i : ℕ) → Freshly c₀ s₀ c s i → i < chamber_count c₀ → c' ≡ put c (i * 5) (bin_words (fresh_at c i)) → s' ≡ put s (i * 768) (part_of (whole_at c i)) → length c' ≡ length c → length s' ≡ length s → Freshly c₀ s₀ c' s' (i + 1)
freshly_more c₀ s₀ c s c' s' i f h wrote-c wrote-s long-c long-s =
    let same : chamber_at c i ≡ chamber_at c₀ i =
    ap (λ (w : List ℕ). chamber_at w i) f.table
    ∙ chamber_layout.ext (partly (λ b. bin_words b) (fresh_at c₀) 5 c₀ i) c₀ i i
    (λ m l. getd_seam (table_of (tab i (fresh_at c₀))) c₀ (i * 5) m (length-joined-tab (λ b. bin_words b) 5 i (fresh_at c₀) (λ j b. refl))) in
    record {
      low = omega arith;
      table =
          wrote-c
          ∙ ap₂ (λ (w : List ℕ) (b : TargetBin). put w (i * 5) (bin_words (freshened b))) f.table same
          ∙ partly_more (λ b. bin_words b) (fresh_at c₀) 5 c₀ i (λ j. refl);
      parts =
          wrote-s
          ∙ ap₂ (λ (w : List ℕ) (b : TargetBin). put w (i * 768) (part_of (whole_of b))) f.parts same
          ∙ partly_more part_of (whole_at c₀) 768 s₀ i (λ j. length-part_of (whole_at c₀ j) (omega arith));
      table_long = long-c ∙ f.table_long;
      parts_long = long-s ∙ f.parts_long;
    }

-- ---- the end

pub map-tab : {A B : Type 0} (f : A → B) (n : ℕ) (g : ℕ → A) → map f (tab n g) ≡ tab n (λ k. f (g k))
unfolding tab
map-tab f zero g = refl
map-tab f (suc n) g = ap (λ (r : List _). f (g 0) ∷ r) (map-tab f n (λ k. g (suc k)))

pub fresh_table_lem : (c₀ : List ℕ) → fresh_table c₀ ≡ table_of (tab (chamber_count c₀) (fresh_at c₀))
unfolding fresh_table chambers_of
fresh_table_lem c₀ = ap (λ (l : List TargetBin). table_of l) (map-tab (λ b. freshened b) (chamber_count c₀) (chamber_at c₀))

pub fresh_store_lem : (c₀ : List ℕ) → fresh_store c₀ ≡ store_of (tab (chamber_count c₀) (whole_at c₀))
unfolding fresh_store chambers_of
fresh_store_lem c₀ = ap (λ (l : List (List BinSection)). store_of l) (map-tab (λ b. whole_of b) (chamber_count c₀) (chamber_at c₀))

pub freshly_all : (c₀ s₀ c s : List ℕ) (i : ℕ) → Freshly c₀ s₀ c s i → chamber_count c₀ ≤ i → length c₀ ≡ chamber_count c₀ * 5 → length s₀ ≡ chamber_count c₀ * 768 → (c ≡ fresh_table c₀) × (s ≡ fresh_store c₀)
freshly_all c₀ s₀ c s i f h long-c long-s =
    let e : i ≡ chamber_count c₀ = omega arith in (
      f.table ∙ ap (partly (λ b. bin_words b) (fresh_at c₀) 5 c₀) e ∙ partly_all (λ b. bin_words b) (fresh_at c₀) 5 c₀ (chamber_count c₀) long-c ∙ sym (fresh_table_lem c₀),
      f.parts ∙ ap (partly part_of (whole_at c₀) 768 s₀) e ∙ partly_all part_of (whole_at c₀) 768 s₀ (chamber_count c₀) long-s ∙ sym (fresh_store_lem c₀),
    )
