-- Laws of the boxes of two lists: which box stands at an index, where its words lie, and searches and sums list by list.
use Prim.Native.Nat.{ℕ, ◌+◌, ◌*◌, ◌-◌, ◌/◌, ◌%◌, ◌≤◌, ◌<◌}
use mathlib.Core.Path.{◌≡◌, refl, sym, ap, ap₂, ◌∙◌, subst}
use mathlib.Core.List.{List, [], ◌++◌}
use mathlib.Core.Bool.{Bool, true, false, ◌||◌}
use native.Mathlib.Decide.{dec_lt}
use native.Mathlib.Omega.{arith}
use lib.ListN.{length, get_or, take, drop, length-append, get_or-append, length-drop}
use lib.Seq.{ext_get_or, length-take-le, get_or-take, get_or-append-add, take-append-le, drop-append-le, drop-append-add}
use Rattle.lists.specs.Lowest.{lowest, any_below, lowest_index}
use Rattle.lists.proofs.Flags.{true_false}
use Rattle.lists.proofs.Lowests.{lowest_fires, none_below_lowest, any_lowest, any_none, lowest_first, lowest_second, any_same, any_parts}
use Rattle.lists.proofs.LowestIndex.{index_here, index_nowhere, index_some, index_none, index_any}
use Rattle.bin_section.specs.declared.width_height_depth.WidthHeightDepth.{WidthHeightDepth}
use Rattle.bin_section.specs.declared.section.BinSection.{BinSection}
use Rattle.std.proofs.Common.{Option, Some, None, MatchOption, is_some, min, append-nil, ltb-true}
use Rattle.lists.specs.Tab.{tab}
use Rattle.bin_section.specs.Leaning.{Small}
use Rattle.bin_section.specs.Section.{section_at, zero_section, section_words}
use Rattle.bin_section.specs.Overlap.{overlaps_of}
use Rattle.cells.specs.Whole.{box_at, Inside, AllInside, volumes}
use Rattle.sections.specs.Sections.{sections}
use Rattle.sections.specs.Inside.{shares_at, shares_earlier}
use Rattle.sections.specs.Common.{first_common, earliest_common}
use Rattle.sections.specs.Leaning.{AllSmall}
use Rattle.sections.proofs.Reading.{length-sections, getd_sections, take-sections}
use Rattle.bin_section.specs.Layouts.{section_layout}
use Rattle.sections.proofs.Searching.{first_none, first_met, first_before, first_behind, volumes-append}
use Rattle.bin_section.proofs.Sharing.{common_shared}
use Rattle.audit.specs.Audit.{boxes_of, audit_boxes}

-- how many words a part from n to n + 6 has
pub six : (n : ℕ) → n + 6 - n ≡ 6
six n = omega arith

-- a box that lies inside a chamber with small sides has small sides
inside_small : (whd : WidthHeightDepth) (b c : BinSection) → c ≡ b → Inside whd b → Small whd → Small c.whd
inside_small whd b c e p s = rw e (record { width_small = omega arith; height_small = omega arith; depth_small = omega arith })

none_of : (w : List ℕ) → [] ≡ sections w 0
unfolding sections tab
none_of w = refl

-- ---- a search in two parts

-- what is found at the lowest index, and what where there is none
index_of : (n i : ℕ) (f : ℕ → Bool) → i ≡ lowest n f → i < n → Some i ≡ lowest_index n f
index_of n i f e h = sym (index_here n i f (record { at = λ k l. (none_below_lowest n f).at k (omega arith) }) h (ap f e ∙ lowest_fires n f (omega arith)))

index_end_of : (n : ℕ) (f : ℕ → Bool) → n ≡ lowest n f → None ≡ lowest_index n f
index_end_of n f e = sym (index_nowhere n f (record { at = λ k l. (none_below_lowest n f).at k (omega arith) }))

module _ (m n all : ℕ) (sum : all ≡ m + n) (f g t : ℕ → Bool) (same_first : (i : ℕ) → i < m → f i ≡ t i) (same_second : (k : ℕ) → k < n → g k ≡ t (m + k)) where
  -- the first part has one
  pub found_first : (r : Option ℕ) → r ≡ lowest_index m f → is_some r ≡ true → r ≡ lowest_index all t
  found_first None e h = absurd (true_false (sym h))
  found_first (Some i) e h =
      let q = index_some m i f (sym e) in
      index_of all i t (lowest_first m n all sum f g t same_first same_second i (sym q.0) q.1) (omega (arith, q.1))

  -- it has none, and so it is the second's
  module _ (r : Option ℕ) (found : r ≡ lowest_index m f) (none : is_some r ≡ false) where
    passed : lowest m f ≡ m
    passed = go r found none
      where
        go : (o : Option ℕ) → o ≡ lowest_index m f → is_some o ≡ false → lowest m f ≡ m
        go None e h = index_none m f (sym e)
        go (Some i) e h = absurd (true_false h)

    pub found_nowhere : None ≡ lowest_index n g → None ≡ lowest_index all t
    found_nowhere q = index_end_of all t (omega (arith, sum, lowest_second m n all sum f g t same_first same_second m (sym passed) (omega arith) n (sym (index_none n g (sym q)))))

    pub found_second : (k : ℕ) → Some k ≡ lowest_index n g → Some (m + k) ≡ lowest_index all t
    found_second k q =
        let p = index_some n k g (sym q) in
        index_of all (m + k) t (lowest_second m n all sum f g t same_first same_second m (sym passed) (omega arith) k (sym p.0)) (omega (arith, p.1))

module _ (placed free : List ℕ) where
  abbrev boxes : List BinSection
  boxes = audit_boxes placed free

  pub boxes_length : length boxes ≡ length placed / 6 + length free / 6
  unfolding audit_boxes
  boxes_length = simp (length-append, length-sections)

  pub box_placed : (i : ℕ) → i < length placed / 6 → box_at boxes i ≡ section_at placed i
  unfolding audit_boxes
  box_placed i h =
      get_or-append (boxes_of placed) (boxes_of free) zero_section i (omega (arith, length-sections placed (length placed / 6)))
      ∙ getd_sections placed (length placed / 6) i zero_section h

  -- counted from the end of the placed list
  pub box_free : (k : ℕ) → k < length free / 6 → box_at boxes (length placed / 6 + k) ≡ section_at free k
  unfolding audit_boxes
  box_free k h =
      subst (λ (n : ℕ). get_or (boxes_of placed ++ boxes_of free) (n + k) zero_section ≡ get_or (boxes_of free) k zero_section)
      (length-sections placed (length placed / 6)) (get_or-append-add (boxes_of placed) (boxes_of free) k zero_section)
      ∙ getd_sections free (length free / 6) k zero_section h

  -- counted from the start of both
  pub box_behind : (i : ℕ) → length placed / 6 ≤ i → i < length boxes → box_at boxes i ≡ section_at free (i - length placed / 6)
  box_behind i l h =
      let e : i ≡ length placed / 6 + (i - length placed / 6) = omega arith in
      ap (λ (n : ℕ). box_at boxes n) e ∙ box_free (i - length placed / 6) (omega (arith, boxes_length))

  -- ---- the six words of a box

  pub words_placed : (i : ℕ) → i < length placed / 6 → take 6 (drop (i * 6) placed) ≡ take 6 (drop (i * 6) (placed ++ free))
  words_placed i h =
      sym (take-append-le 6 (drop (i * 6) placed) free (simp length-drop (omega arith)))
      ∙ ap (λ (l : List ℕ). take 6 l) (sym (drop-append-le (i * 6) placed free (omega arith)))

  pub words_free : (i first : ℕ) → length placed % 6 ≡ 0 → first ≡ length placed / 6 → first ≤ i → take 6 (drop ((i - first) * 6) free) ≡ take 6 (drop (i * 6) (placed ++ free))
  words_free i first whole f l =
      let e : length placed + (i - first) * 6 ≡ i * 6 = omega arith in
      subst (λ (n : ℕ). take 6 (drop ((i - first) * 6) free) ≡ take 6 (drop n (placed ++ free))) e
      (ap (λ (l : List ℕ). take 6 l) (sym (drop-append-add placed free ((i - first) * 6))))

  -- they are the words of the box at the index
  pub words_box : (i : ℕ) → length placed % 6 ≡ 0 → i < length placed / 6 + length free / 6 → take 6 (drop (i * 6) (placed ++ free)) ≡ section_words (box_at boxes i)
  words_box i whole h = go (dec_lt i (length placed / 6))
    where
      go : Dec (i < length placed / 6) → take 6 (drop (i * 6) (placed ++ free)) ≡ section_words (box_at boxes i)
      go (yes l) = sym (words_placed i l) ∙ sym (section_layout.written_back placed i (omega arith)) ∙ ap section_words (sym (box_placed i l))
      go (no l) =
          let k = i - length placed / 6 in
          let e : length placed / 6 + k ≡ i = omega arith in
          sym (words_free i (length placed / 6) whole refl (omega arith))
          ∙ sym (section_layout.written_back free k (omega arith))
          ∙ ap section_words (sym (box_free k (omega arith)) ∙ ap (λ (n : ℕ). box_at boxes n) e)

  -- ---- a search through both lists; `first` is how many boxes the placed one has

  module _ (first : ℕ) (counted : first ≡ length placed / 6) where
    all_boxes : length boxes ≡ first + length free / 6
    all_boxes = omega (arith, boxes_length)

    box_second : (k : ℕ) → k < length free / 6 → section_at free k ≡ box_at boxes (first + k)
    box_second k h = sym (box_free k h) ∙ ap (λ (n : ℕ). box_at boxes (n + k)) (sym counted)

    -- by a test of one box
    module _ (test : BinSection → Bool) (r : Option ℕ) (found : r ≡ lowest_index first (λ i. test (section_at placed i))) where
      pub tested_placed : is_some r ≡ true → r ≡ lowest_index (length boxes) (λ i. test (box_at boxes i))
      tested_placed =
          found_first first (length free / 6) (length boxes) all_boxes (λ i. test (section_at placed i)) (λ k. test (section_at free k)) (λ i. test (box_at boxes i))
          (λ i l. ap test (sym (box_placed i (omega arith)))) (λ k l. ap test (box_second k l)) r found

      pub tested_nowhere : is_some r ≡ false → (n : ℕ) → n ≡ length free / 6 → None ≡ lowest_index n (λ k. test (section_at free k)) → None ≡ lowest_index (length boxes) (λ i. test (box_at boxes i))
      tested_nowhere h n e =
          found_nowhere first n (length boxes) (omega (arith, boxes_length)) (λ i. test (section_at placed i)) (λ k. test (section_at free k)) (λ i. test (box_at boxes i))
          (λ i l. ap test (sym (box_placed i (omega arith)))) (λ k l. ap test (box_second k (omega arith))) r found h

      pub tested_free : is_some r ≡ false → (n : ℕ) → n ≡ length free / 6 → (k : ℕ) → Some k ≡ lowest_index n (λ k. test (section_at free k)) → Some (first + k) ≡ lowest_index (length boxes) (λ i. test (box_at boxes i))
      tested_free h n e =
          found_second first n (length boxes) (omega (arith, boxes_length)) (λ i. test (section_at placed i)) (λ k. test (section_at free k)) (λ i. test (box_at boxes i))
          (λ i l. ap test (sym (box_placed i (omega arith)))) (λ k l. ap test (box_second k (omega arith))) r found h

    -- for a box that shares a cell with an earlier one
    same_earlier : (i : ℕ) → i < first → shares_earlier (sections placed first) i ≡ shares_earlier boxes i
    unfolding shares_earlier
    same_earlier i h =
        any_same i _ _
        (λ k l. ap₂ overlaps_of (getd_sections placed first k zero_section (omega arith) ∙ sym (box_placed k (omega arith)))
        (getd_sections placed first i zero_section h ∙ sym (box_placed i (omega arith))))

    module _ (r : Option ℕ) (found : r ≡ lowest_index first (shares_earlier (sections placed first))) where
      pub shared_placed : is_some r ≡ true → r ≡ lowest_index (length boxes) (shares_earlier boxes)
      shared_placed =
          found_first first (length free / 6) (length boxes) all_boxes (shares_earlier (sections placed first)) (λ k. shares_earlier boxes (first + k)) (shares_earlier boxes)
          same_earlier (λ k l. refl) r found

      pub shared_nowhere : is_some r ≡ false → None ≡ lowest_index (length free / 6) (λ k. shares_earlier boxes (length placed / 6 + k)) → None ≡ lowest_index (length boxes) (shares_earlier boxes)
      shared_nowhere =
          found_nowhere first (length free / 6) (length boxes) all_boxes (shares_earlier (sections placed first)) (λ k. shares_earlier boxes (length placed / 6 + k)) (shares_earlier boxes)
          same_earlier (λ k l. ap (λ (n : ℕ). shares_earlier boxes (n + k)) (sym counted)) r found

      pub shared_free : is_some r ≡ false → (k : ℕ) → Some k ≡ lowest_index (length free / 6) (λ k. shares_earlier boxes (length placed / 6 + k)) → Some (first + k) ≡ lowest_index (length boxes) (shares_earlier boxes)
      shared_free =
          found_second first (length free / 6) (length boxes) all_boxes (shares_earlier (sections placed first)) (λ k. shares_earlier boxes (length placed / 6 + k)) (shares_earlier boxes)
          same_earlier (λ k l. ap (λ (n : ℕ). shares_earlier boxes (n + k)) (sym counted)) r found

    -- whether the free box at k does: the search among the placed ones comes to r, that among the earlier free ones to s
    module _ (k : ℕ) (below : k < length free / 6) (b : BinSection) (read : b ≡ section_at free k) (r : Option ℕ) (found : r ≡ lowest_index first (shares_at b placed)) where
      two_parts : shares_earlier boxes (length placed / 6 + k) ≡ (is_some r || any_below k (shares_at b free))
      unfolding shares_earlier
      two_parts =
          let at : box_at boxes (length placed / 6 + k) ≡ b = box_free k below ∙ sym read in
          any_parts (length placed / 6) k (λ i. overlaps_of (box_at boxes i) (box_at boxes (length placed / 6 + k)))
          ∙ ap₂ ◌||◌
          (any_same (length placed / 6) _ (shares_at b placed) (λ i l. ap₂ overlaps_of (box_placed i l) at)
          ∙ ap (λ (n : ℕ). any_below n (shares_at b placed)) (sym counted)
          ∙ sym (index_any first (shares_at b placed)) ∙ ap is_some (sym found))
          (any_same k _ (shares_at b free) (λ i l. ap₂ overlaps_of (box_free i (omega arith)) at))

      pub shares_placed : is_some r ≡ true → true ≡ shares_earlier boxes (length placed / 6 + k)
      shares_placed h = sym (two_parts ∙ rw h refl)

      pub shares_free : is_some r ≡ false → (s : Option ℕ) → s ≡ lowest_index k (shares_at b free) → is_some s ≡ shares_earlier boxes (length placed / 6 + k)
      shares_free h s e = sym (two_parts ∙ rw (h, e) (sym (index_any k (shares_at b free))))

  -- ---- the boxes before an index, and the common box with the earliest of them

  before_placed : (j : ℕ) → j ≤ length placed / 6 → take j boxes ≡ sections placed j
  unfolding audit_boxes
  before_placed j h =
      take-append-le j (boxes_of placed) (boxes_of free) (omega (arith, length-sections placed (length placed / 6)))
      ∙ take-sections placed (length placed / 6) j h

  before_free : (k : ℕ) → k ≤ length free / 6 → take (length placed / 6 + k) boxes ≡ boxes_of placed ++ sections free k
  before_free k h =
      let m = length placed / 6 in
      let long = length-take-le (m + k) boxes (omega (arith, boxes_length)) in
      let both : length (boxes_of placed ++ sections free k) ≡ m + k = simp (length-append, length-sections) in
      ext_get_or zero_section (take (m + k) boxes) (boxes_of placed ++ sections free k) (long ∙ sym both)
      (λ i l. get_or-take (m + k) boxes i zero_section (omega arith) ∙ at i (omega arith) (dec_lt i m))
    where
      at : (i : ℕ) → i < length placed / 6 + k → Dec (i < length placed / 6) → box_at boxes i ≡ get_or (boxes_of placed ++ sections free k) i zero_section
      at i l (yes b) =
          box_placed i b
          ∙ sym (get_or-append (boxes_of placed) (sections free k) zero_section i (omega (arith, length-sections placed (length placed / 6)))
          ∙ getd_sections placed (length placed / 6) i zero_section b)
      at i l (no b) =
          let e : length placed / 6 + (i - length placed / 6) ≡ i = omega arith in
          ap (λ (n : ℕ). box_at boxes n) (sym e)
          ∙ box_free (i - length placed / 6) (omega arith)
          ∙ sym (ap (λ (n : ℕ). get_or (boxes_of placed ++ sections free k) n zero_section) (sym e)
          ∙ subst (λ (n : ℕ). get_or (boxes_of placed ++ sections free k) (n + (i - length placed / 6)) zero_section ≡ get_or (sections free k) (i - length placed / 6) zero_section)
          (length-sections placed (length placed / 6)) (get_or-append-add (boxes_of placed) (sections free k) (i - length placed / 6) zero_section)
          ∙ getd_sections free k (i - length placed / 6) zero_section (omega arith))

  -- the first min m j of them are placed, the others free
  before_both : (j : ℕ) → j < length boxes → take j boxes ≡ sections placed (min (length placed / 6) j) ++ sections free (j - min (length placed / 6) j)
  before_both j h = go (dec_lt j (length placed / 6))
    where
      go : Dec (j < length placed / 6) → take j boxes ≡ sections placed (min (length placed / 6) j) ++ sections free (j - min (length placed / 6) j)
      go (yes l) =
          let m : min (length placed / 6) j ≡ j = omega arith in
          let z : j - j ≡ 0 = omega arith in
          rw (m, z) (before_placed j (omega arith) ∙ sym (append-nil (sections placed j)) ∙ ap (λ (l : List BinSection). sections placed j ++ l) (none_of free))
      go (no l) =
          let m : min (length placed / 6) j ≡ length placed / 6 = omega arith in
          let e : j ≡ length placed / 6 + (j - length placed / 6) = omega arith in
          rw m (ap (λ (n : ℕ). take n boxes) e ∙ before_free (j - length placed / 6) (omega (arith, boxes_length)))

  -- the search goes through the placed ones, and where it meets none through the free ones
  pub earliest_both :
      (j : ℕ) (s : BinSection) (c r : Option BinSection)
      → j < length boxes
      → s ≡ box_at boxes j
      → c ≡ first_common s (sections placed (min (length placed / 6) j))
      → MatchOption c (r ≡ first_common s (sections free (j - min (length placed / 6) j))) (λ box. r ≡ Some box)
      → r ≡ earliest_common boxes j
  unfolding earliest_common
  earliest_both j s c r h read e m = go c e m ∙ sym (ap₂ first_common (sym read) (before_both j h))
    where
      A : List BinSection
      A = sections placed (min (length placed / 6) j)

      B : List BinSection
      B = sections free (j - min (length placed / 6) j)

      go : (o : Option BinSection) → o ≡ first_common s A → MatchOption o (r ≡ first_common s B) (λ box. r ≡ Some box) → r ≡ first_common s (A ++ B)
      go None f n = n ∙ sym (first_behind s A B (sym f))
      go (Some box) f n = n ∙ sym (first_before s A B box (sym f))

  -- ---- the volumes of boxes that lie inside

  module _ (all : List BinSection) (view : audit_boxes placed free ≡ all) (whd : WidthHeightDepth) (small : Small whd) (inside : AllInside whd all) where
    inside_at : (i : ℕ) → i < length boxes → Inside whd (box_at boxes i)
    inside_at i h = rw (← view) at inside.at i (omega (arith, ap length view))

    pub small_placed : (n : ℕ) → n ≡ length placed / 6 → AllSmall n placed
    small_placed n e =
        record { at = λ i h. inside_small whd (box_at boxes i) (section_at placed i) (sym (box_placed i (omega arith))) (inside_at i (omega (arith, boxes_length))) small }

    pub small_free : (n : ℕ) → n ≡ length free / 6 → AllSmall n free
    small_free n e =
        record { at = λ k h. inside_small whd (box_at boxes (length placed / 6 + k)) (section_at free k) (sym (box_free k (omega arith))) (inside_at (length placed / 6 + k) (omega (arith, boxes_length))) small }

  pub volumes_both : (m n s t : ℕ) → m ≡ length placed / 6 → s ≡ volumes (sections placed m) → n ≡ length free / 6 → t ≡ volumes (sections free n) → s + t ≡ volumes boxes
  unfolding audit_boxes
  volumes_both m n s t em es en et = rw (es, et, em, en) (sym (volumes-append (boxes_of placed) (boxes_of free)))

-- ---- a box shares a cell with an earlier one exactly where there is a common box

pub earliest_is : (all : List BinSection) (j : ℕ) → j < length all → is_some (earliest_common all j) ≡ shares_earlier all j
unfolding shares_earlier earliest_common
earliest_is all j h = go (any_below j f) refl
  where
    box : BinSection
    box = box_at all j

    f : ℕ → Bool
    f = λ i. overlaps_of (box_at all i) box

    long : length (take j all) ≡ j
    long = length-take-le j all (omega arith)

    same : (i : ℕ) → i < j → overlaps_of (box_at (take j all) i) box ≡ f i
    same i b = ap (λ (s : BinSection). overlaps_of s box) (get_or-take j all i zero_section b)

    go : (t : Bool) → any_below j f ≡ t → is_some (first_common box (take j all)) ≡ any_below j f
    go true e =
        let i = lowest j f in
        let l : i < j = ltb-true i j (sym (any_lowest j f) ∙ e) in
        let fires : overlaps_of (box_at (take j all) i) box ≡ true = same i l ∙ lowest_fires j f l in
        ap is_some (first_met box (take j all) i (record { at = λ k b. same k (omega arith) ∙ (none_below_lowest j f).at k b }) (omega (arith, long)) fires
        ∙ sym (common_shared (box_at (take j all) i) box fires)) ∙ sym e
    go false e = ap is_some (first_none box (take j all) (record { at = λ k b. same k (omega (arith, long)) ∙ (any_none j f e).at k (omega (arith, long)) })) ∙ sym e
