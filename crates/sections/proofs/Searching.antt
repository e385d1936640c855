-- Laws of searches and sums over the sections of a list.
use Rattle.std.proofs.Common.{◌≡◌, ℕ, zero, suc, ◌+◌, ◌*◌, ◌<◌, ◌≤◌, Bool, true, false, ltb, List, [], ◌∷◌, ◌++◌, length, take, sym, refl, ap, ◌∙◌, ap₂, le_of_suc-le-suc, not-suc-le-zero, add_assoc, zero-add, arith, length-take-le, get_or-take, ltb-true, ltb-false, lt-ltb}
use native.Mathlib.Decide.{dec_lt}
use Rattle.std.specs.List.{sum, sum_by, range_with_len}
use Rattle.std.proofs.lemmas.Option.{none-some}
use Rattle.std.proofs.lemmas.List.{get_or-map, length-map}
use Rattle.std.proofs.lemmas.List.Sums.{sum_by-cons, sum-map, sum_by-le}
use Rattle.std.proofs.lemmas.List.FromFn.{fill_by_all}
use Rattle.std.proofs.lemmas.List.Elements.{All-from_get_or}
use mathlib.Core.List.{map}
use Rattle.lists.specs.Lowest.{lowest, lowest_index}
use Rattle.lists.proofs.Flags.{true_false, cond_yes, cond_no}
use Rattle.lists.proofs.LowestIndex.{index_here, index_nowhere, index_some, index_none, index_any}
use Rattle.lists.proofs.Lowests.{None, lowest_fires, none_below_lowest, any_same, any_lowest, among_found, among_none}
use Rattle.bin_section.specs.declared.section.BinSection.{BinSection}
use Rattle.bin_section.specs.Sides.{volume_of}
use Rattle.bin_section.specs.Section.{section_at, zero_section}
use Rattle.bin_section.specs.Boxes.{box_at, volumes}
use Rattle.std.specs.Prelude.{Option, Some, is_some, MatchOption}
use Rattle.std.specs.Prelude.{None as Nothing}
use Rattle.bin_section.specs.Overlap.{overlaps_of, common_of}
use Rattle.bin_section.proofs.Volume.{volume_bound}
use Rattle.bin_section.proofs.Sharing.{overlaps→shares, shares→overlaps, common_means, told_apart}
use Rattle.sections.specs.Sections.{sections}
use Rattle.sections.specs.Inside.{shares_at, shares_earlier}
use Rattle.sections.specs.Leaning.{AllSmall}
use Rattle.sections.specs.Common.{first_common, earliest_common, EarliestSpace}
use Rattle.sections.proofs.Reading.{length-sections, getd_sections}

-- what is found lies below the end
pub found_below : (n i : ℕ) (f : ℕ → Bool) (r : Option ℕ) → r ≡ lowest_index n f → r ≡ Some i → i < n
found_below n i f r e q = (index_some n i f (sym e ∙ q)).1

-- whether a section shares a cell with an earlier one, as the search among the earlier ones says
pub shares_earlier_lem :
    (w : List ℕ) (n i : ℕ) (r : Option ℕ) (s : BinSection)
    → i < n
    → s ≡ section_at w i
    → r ≡ lowest_index i (shares_at s w)
    → is_some r ≡ shares_earlier (sections w n) i
unfolding shares_earlier
shares_earlier_lem w n i r s h read e =
    ap is_some e
    ∙ index_any i (shares_at s w)
    ∙ sym (any_same i (λ k. overlaps_of (box_at (sections w n) k) (box_at (sections w n) i)) (shares_at s w)
    (λ k l. ap₂ overlaps_of (getd_sections w n k zero_section (omega arith)) (getd_sections w n i zero_section h ∙ sym read)))

-- ---- a search from i on, where no number below i fires

module _ (n i : ℕ) (f : ℕ → Bool) (come : i ≤ lowest n f) where
  pub none_from : (m : ℕ) → ((k : ℕ) → i ≤ k → k < m → f k ≡ false) → None m f
  none_from m h = record { at = λ k b. at k b (dec_lt k i) }
    where
      at : (k : ℕ) → k < m → Dec (k < i) → f k ≡ false
      at k b (yes d) = (none_below_lowest n f).at k (omega arith)
      at k b (no d) = h k (omega arith) b

  pub found_from :
      (r : Option ℕ)
      → MatchOption r ((k : ℕ) → i ≤ k → k < n → f k ≡ false) (λ j. (i ≤ j) × (j < n) × (f j ≡ true) × ((k : ℕ) → i ≤ k → k < j → f k ≡ false))
      → r ≡ lowest_index n f
  found_from Nothing h = sym (index_nowhere n f (none_from n h))
  found_from (Some j) h = sym (index_here n j f (none_from j h.3) h.1 h.2)

-- among the first m of n alone
module _ (m n : ℕ) (f : ℕ → Bool) (fewer : m ≤ n) (r : Option ℕ) (e : r ≡ lowest_index m f) where
  pub found_among : is_some r ≡ true → r ≡ lowest_index n f
  unfolding lowest_index
  found_among t = go (dec_lt (lowest m f) m)
    where
      below : ltb (lowest m f) m ≡ true
      below = sym (any_lowest m f) ∙ sym (index_any m f) ∙ sym (ap is_some e) ∙ t

      go : Dec (lowest m f < m) → r ≡ lowest_index n f
      go (yes l) =
          let q = among_found m n f fewer (lowest m f) refl l in
          e ∙ cond_yes (Some (lowest m f)) Nothing (ltb (lowest m f) m) below ∙ ap Some q
          ∙ sym (cond_yes (Some (lowest n f)) Nothing (ltb (lowest n f) n) (lt-ltb (lowest n f) n (omega arith)))
      go (no l) = absurd (l (ltb-true (lowest m f) m below))

  pub none_among : is_some r ≡ false → m ≤ lowest n f
  none_among t =
      among_none m n f fewer (lowest m f) refl
      (ltb-false (lowest m f) m (sym (any_lowest m f) ∙ sym (index_any m f) ∙ sym (ap is_some e) ∙ t))

-- ---- the common box with the earliest section that a box meets

module _ (box : BinSection) where
  abbrev meets : List BinSection → ℕ → Bool
  meets boxes i = overlaps_of (box_at boxes i) box

  pub first_none : (boxes : List BinSection) → None (length boxes) (meets boxes) → first_common box boxes ≡ Nothing
  unfolding first_common
  first_none [] p = refl
  first_none (b ∷ bs) p =
      cond_no (common_of b box) (first_common box bs) (overlaps_of b box) (p.at 0 (omega arith))
      ∙ first_none bs (record { at = λ i h. p.at (suc i) (omega arith) })

  pub first_met : (boxes : List BinSection) (i : ℕ) → None i (meets boxes) → i < length boxes → meets boxes i ≡ true → first_common box boxes ≡ common_of (box_at boxes i) box
  unfolding first_common
  first_met [] i p l e = absurd (not-suc-le-zero l)
  first_met (b ∷ bs) zero p l e = cond_yes (common_of b box) (first_common box bs) (overlaps_of b box) e
  first_met (b ∷ bs) (suc i) p l e =
      cond_no (common_of b box) (first_common box bs) (overlaps_of b box) (p.at 0 (omega arith))
      ∙ first_met bs i (record { at = λ k h. p.at (suc k) (omega arith) }) (le_of_suc-le-suc l) e

  -- two lists, one behind the other
  pub first_behind : (xs ys : List BinSection) → first_common box xs ≡ Nothing → first_common box (xs ++ ys) ≡ first_common box ys
  unfolding first_common
  first_behind [] ys e = refl
  first_behind (b ∷ xs) ys e = go (first_behind xs ys) (overlaps_of b box) refl
    where
      go : (first_common box xs ≡ Nothing → first_common box (xs ++ ys) ≡ first_common box ys) → (t : Bool) → overlaps_of b box ≡ t → first_common box ((b ∷ xs) ++ ys) ≡ first_common box ys
      go rest true f = absurd (true_false (sym f ∙ told_apart b box (common_of b box) refl (sym (cond_yes (common_of b box) (first_common box xs) (overlaps_of b box) f) ∙ e)))
      go rest false f =
          cond_no (common_of b box) (first_common box (xs ++ ys)) (overlaps_of b box) f
          ∙ rest (sym (cond_no (common_of b box) (first_common box xs) (overlaps_of b box) f) ∙ e)

  pub first_before : (xs ys : List BinSection) (c : BinSection) → first_common box xs ≡ Some c → first_common box (xs ++ ys) ≡ Some c
  unfolding first_common
  first_before [] ys c e = absurd (none-some c e)
  first_before (b ∷ xs) ys c e = go (first_before xs ys c) (overlaps_of b box) refl
    where
      go : (first_common box xs ≡ Some c → first_common box (xs ++ ys) ≡ Some c) → (t : Bool) → overlaps_of b box ≡ t → first_common box ((b ∷ xs) ++ ys) ≡ Some c
      go rest true f =
          cond_yes (common_of b box) (first_common box (xs ++ ys)) (overlaps_of b box) f
          ∙ sym (cond_yes (common_of b box) (first_common box xs) (overlaps_of b box) f) ∙ e
      go rest false f =
          cond_no (common_of b box) (first_common box (xs ++ ys)) (overlaps_of b box) f
          ∙ rest (sym (cond_no (common_of b box) (first_common box xs) (overlaps_of b box) f) ∙ e)

  -- as the search through the words comes to it
  module _ (w : List ℕ) (n : ℕ) (r : Option ℕ) (found : r ≡ lowest_index n (shares_at box w)) where
    same : (i : ℕ) → i < n → meets (sections w n) i ≡ shares_at box w i
    same i h = ap (λ (s : BinSection). overlaps_of s box) (getd_sections w n i zero_section h)

    none_before : (m : ℕ) → m ≤ n → m ≤ lowest n (shares_at box w) → None m (meets (sections w n))
    none_before m l h = record { at = λ i b. same i (omega arith) ∙ (none_below_lowest n (shares_at box w)).at i (omega arith) }

    pub common_none : r ≡ Nothing → Nothing ≡ first_common box (sections w n)
    common_none q =
        let e = index_none n (shares_at box w) (sym found ∙ q) in
        sym (first_none (sections w n) (none_before (length (sections w n)) (omega (arith, length-sections w n)) (omega (arith, length-sections w n))))

    pub common_at : (i : ℕ) → r ≡ Some i → (s : BinSection) (c : Option BinSection) → s ≡ section_at w i → c ≡ common_of s box → c ≡ first_common box (sections w n)
    common_at i q s c read answered =
        let p = index_some n i (shares_at box w) (sym found ∙ q) in
        let e = p.0 in
        let h = p.1 in
        answered
        ∙ ap (λ (b : BinSection). common_of b box) (read ∙ sym (getd_sections w n i zero_section h))
        ∙ sym (first_met (sections w n) i (none_before i (omega arith) (omega arith)) (omega (arith, length-sections w n))
        (same i h ∙ ap (shares_at box w) (sym e) ∙ lowest_fires n (shares_at box w) (omega arith)))

-- the earliest that a box meets, and the space that they share
pub earliest_space :
    (boxes : List BinSection) (box : BinSection) (i : ℕ) (common : Option BinSection)
    → None i (meets box boxes)
    → i < length boxes
    → meets box boxes i ≡ true
    → common ≡ common_of (box_at boxes i) box
    → EarliestSpace boxes box i common
earliest_space boxes box i common none l e c =
    record {
      listed = l;
      before = λ k h s. true_false (sym (shares→overlaps (box_at boxes k) box s) ∙ none.at k h);
      meets = overlaps→shares (box_at boxes i) box e;
      space = rw c (common_means (box_at boxes i) box);
    }

-- the box at an index that shares a cell with an earlier one
pub earlier_space : (boxes : List BinSection) (j : ℕ) → j ≤ length boxes → shares_earlier boxes j ≡ true → (i : ℕ) × EarliestSpace (take j boxes) (box_at boxes j) i (earliest_common boxes j)
unfolding shares_earlier earliest_common
earlier_space boxes j h e =
    let box = box_at boxes j in
    let f = meets box boxes in
    let i = lowest j f in
    let l : i < j = ltb-true i j (sym (any_lowest j f) ∙ e) in
    let long : length (take j boxes) ≡ j = length-take-le j boxes h in
    let same : (k : ℕ) → k < j → meets box (take j boxes) k ≡ f k = λ k b. ap (λ (x : BinSection). overlaps_of x box) (get_or-take j boxes k zero_section b) in
    let none : None i (meets box (take j boxes)) = record { at = λ k b. same k (omega arith) ∙ (none_below_lowest j f).at k b } in
    let fires : meets box (take j boxes) i ≡ true = same i l ∙ lowest_fires j f l in
    let below : i < length (take j boxes) = omega (arith, long) in
    (i, earliest_space (take j boxes) box i (first_common box (take j boxes)) none below fires (first_met box (take j boxes) i none below fires))

-- ---- the sum of volumes

pub volumes-append : (s t : List BinSection) → volumes (s ++ t) ≡ volumes s + volumes t
unfolding volumes
volumes-append [] t = sym (zero-add (volumes t))
volumes-append (b ∷ s) t =
    ap (λ (v : ℕ). volume_of b.whd + v) (volumes-append s t) ∙ sym (add_assoc (volume_of b.whd) (volumes s) (volumes t))

volumes_sum : (l : List BinSection) → volumes l ≡ sum_by (λ b. volume_of b.whd) l
unfolding volumes
volumes_sum [] = refl
volumes_sum (b ∷ bs) = ap (λ (v : ℕ). volume_of b.whd + v) (volumes_sum bs) ∙ sym (sum_by-cons (λ (b : BinSection). volume_of b.whd) b bs)

-- that of n sections, index by index
module _ (w : List ℕ) (n : ℕ) where
  each_volume : sum_by (λ b. volume_of b.whd) (sections w n) ≡ sum (map (λ i. volume_of (section_at w i).whd) (range_with_len 0 n))
  each_volume =
      sym (sum-map (λ (b : BinSection). volume_of b.whd) (sections w n))
      ∙ ap sum (fill_by_all (λ i. volume_of (section_at w i).whd) (map (λ (b : BinSection). volume_of b.whd) (sections w n)) n 0
      (length-map (sections w n) (λ (b : BinSection). volume_of b.whd) ∙ length-sections w n)
      (λ k h. get_or-map (λ (b : BinSection). volume_of b.whd) (sections w n) k zero_section 0 (omega (arith, length-sections w n))
      ∙ ap (λ (b : BinSection). volume_of b.whd) (getd_sections w n k zero_section h)))

  pub volumes_each : volumes (sections w n) ≡ sum (map (λ i. volume_of (section_at w i).whd) (range_with_len 0 n))
  volumes_each = volumes_sum (sections w n) ∙ each_volume

  pub volumes_most : AllSmall n w → volumes (sections w n) ≤ n * 281462092005375
  volumes_most small =
      let long = length-sections w n in
      let each = All-from_get_or (λ b. volume_of b.whd ≤ 281462092005375) (sections w n) zero_section
      (λ i h. rw (getd_sections w n i zero_section (omega (arith, long))) (let q = small.at i (omega (arith, long)) in volume_bound q.width_small q.height_small q.depth_small)) in
      omega (arith, volumes_sum (sections w n), long, sum_by-le (λ (b : BinSection). volume_of b.whd) 281462092005375 (sections w n) each)
