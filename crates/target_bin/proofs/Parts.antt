-- Laws of the store: one chamber's part lent, and that reading and writing are each other's inverse.
use Prim.Native.Nat.{ℕ, ◌+◌, ◌*◌, ◌-◌, ◌≤◌, ◌<◌}
use mathlib.Core.Path.{◌≡◌, refl, sym, ap, ap₂, ◌∙◌}
use mathlib.Core.List.{List, [], ◌++◌, append_assoc}
use borrow.Rule.Slice.PartMut.{put_mid}
use native.Mathlib.Omega.{arith}
use native.Mathlib.Decide.{dec_lt}
use Rattle.std.specs.declared.ops.Range.{Range}
use lib.ListN.{length, get_or, take, drop, set, replicate, length-append, length-take, length-drop, length-replicate}
use lib.Seq.{length-take-le, get_or-take, get_or-drop, ext_get_or, take_at, drop_at, take_all}
use Rattle.lists.specs.Tab.{tab, put}
use Rattle.lists.proofs.Tabs.{length-tab, getd_tab, tab-set, length-put, getd_put_before, getd_put_after, lent}
use Rattle.bin_section.specs.declared.section.BinSection.{BinSection}
use Rattle.sections.specs.Sections.{sections, all_words}
use Rattle.sections.specs.Leaning.{ZeroPast}
use Rattle.words.proofs.Records.{joined-take, joined_part}
use Rattle.sections.proofs.Reading.{decoded, length-sections, length-all_words}
use Rattle.sections.proofs.Moves.{part_words}
use Rattle.target_bin.specs.declared.chamber.TargetBin.{TargetBin}
use Rattle.target_bin.specs.Chambers.{chamber_at, chamber_count}
use Rattle.target_bin.specs.Store.{part_at, part_range, free_at, free_of, part_of, store_of}
use Rattle.target_bin.specs.Leaning.{OnlyIn, ChangedIn, Counted, Shaped}

-- ---- one chamber's part

pub length-part_at : (w : List ℕ) (k : ℕ) → (k + 1) * 768 ≤ length w → length (part_at w k) ≡ 768
unfolding part_at
length-part_at w k h = simp (length-take, length-drop) (omega arith)

pub part_at_ext : (w v : List ℕ) (k : ℕ) → length w ≡ length v → ((j : ℕ) → j < 768 → get_or w (k * 768 + j) 0 ≡ get_or v (k * 768 + j) 0) → part_at w k ≡ part_at v k
unfolding part_at
part_at_ext w v k long h =
    ext_get_or 0 (take 768 (drop (k * 768) w)) (take 768 (drop (k * 768) v)) (simp (length-take, length-drop, long))
    (λ j b. let b' : j < 768 = omega (arith, length-take 768 (drop (k * 768) w)) in
    get_or-take 768 (drop (k * 768) w) j 0 b' ∙ get_or-drop (k * 768) w j 0 ∙ h j b'
    ∙ sym (get_or-drop (k * 768) v j 0) ∙ sym (get_or-take 768 (drop (k * 768) v) j 0 b'))

module _ (w : List ℕ) (c : ℕ) (ys : List ℕ) (room : (c + 1) * 768 ≤ length w) (long : length ys ≡ 768) where
  pub part_at-put_same : part_at (put w (c * 768) ys) c ≡ ys
  unfolding part_at put
  part_at-put_same =
      ap (λ (l : List ℕ). take 768 (drop (c * 768) l)) (append_assoc (take (c * 768) w) ys (drop (c * 768 + length ys) w))
      ∙ ap (λ (l : List ℕ). take 768 l) (drop_at (take (c * 768) w) (ys ++ drop (c * 768 + length ys) w) (c * 768) (length-take-le (c * 768) w (omega arith)))
      ∙ take_at ys (drop (c * 768 + length ys) w) 768 long

  pub part_at-put_other : (k : ℕ) → (k ≡ c → ⊥) → part_at (put w (c * 768) ys) k ≡ part_at w k
  part_at-put_other k ne =
      part_at_ext (put w (c * 768) ys) w k (length-put w (c * 768) ys (omega arith)) (λ j h. go j h (dec_lt k c))
    where
      go : (j : ℕ) → j < 768 → Dec (k < c) → get_or (put w (c * 768) ys) (k * 768 + j) 0 ≡ get_or w (k * 768 + j) 0
      go j h (yes b) = getd_put_before w (c * 768) ys (omega arith) (k * 768 + j) (omega arith)
      go j h (no b) = getd_put_after w (c * 768) ys (omega arith) (k * 768 + j) (omega arith)

  pub only_in : OnlyIn c w (put w (c * 768) ys)
  unfolding put
  only_in =
      record {
        before =
            ap (take (c * 768)) (append_assoc (take (c * 768) w) ys (drop (c * 768 + length ys) w))
            ∙ take_at (take (c * 768) w) (ys ++ drop (c * 768 + length ys) w) (c * 768) (length-take-le (c * 768) w (omega arith));
        after =
            drop_at (take (c * 768) w ++ ys) (drop (c * 768 + length ys) w) (c * 768 + 768) (simp (length-append, length-take) (omega arith))
            ∙ ap (λ (n : ℕ). drop (c * 768 + n) w) long;
        others = part_at-put_other;
      }

lend' : (P : List ℕ → List ℕ → Type 0) (w ys : List ℕ) (c k : ℕ) → length ys ≡ length (take k (drop (c * 768) w)) → P (take k (drop (c * 768) w)) ys → k ≡ 768 → (c + 1) * 768 ≤ length w → ChangedIn P c w (put_mid (c * 768) k w ys)
unfolding part_at
lend' P w ys c k kept ensured e room =
    let long : length ys ≡ 768 = kept ∙ simp (e, length-take, length-drop) (omega arith) in
    rw (lent w ys (c * 768) k (long ∙ sym e)) (record { here = rw (part_at-put_same w c ys room long) (rw e at ensured); only = only_in w c ys room long })

-- a chamber's part lent to a callee, which says P of the part before and after
pub lend : (P : List ℕ → List ℕ → Type 0) (w ys : List ℕ) (c : ℕ) → length ys ≡ length (take (c * 768 + 768 - c * 768) (drop (c * 768) w)) → P (take (c * 768 + 768 - c * 768) (drop (c * 768) w)) ys → (c + 1) * 768 ≤ length w → ChangedIn P c w (put_mid (c * 768) (c * 768 + 768 - c * 768) w ys)
lend P w ys c kept ensured room = lend' P w ys c (c * 768 + 768 - c * 768) kept ensured (omega arith) room

-- the part as it is lent
pub lent_part : (w : List ℕ) (c : ℕ) → take (c * 768 + 768 - c * 768) (drop (c * 768) w) ≡ part_at w c
unfolding part_at
lent_part w c = let e : c * 768 + 768 - c * 768 ≡ 768 = omega arith in rw e

-- a counted section lies in the part that is lent
pub part_room : (w : List ℕ) (c n : ℕ) → n ≤ 128 → (c + 1) * 768 ≤ length w → n * 6 ≤ length (take (c * 768 + 768 - c * 768) (drop (c * 768) w))
part_room w c n h room = rw (lent_part w c) (omega (arith, length-part_at w c room))

-- what is left of the store when a chamber's part comes back as ys
pub came_back : (w ys : List ℕ) (c : ℕ) → length ys ≡ 768 → put_mid (c * 768) (c * 768 + 768 - c * 768) w ys ≡ put w (c * 768) ys
came_back w ys c long = lent w ys (c * 768) (c * 768 + 768 - c * 768) (omega arith)

-- the same of a chamber's part by its range
module _ (r : Range ℕ) (k : ℕ) (e : r ≡ part_range k) where
  pub part_lent : (w : List ℕ) → take (r.end - r.start) (drop r.start w) ≡ part_at w k
  part_lent w = rw e (lent_part w k)

  pub part_back : (w ys : List ℕ) → length ys ≡ 768 → put_mid r.start (r.end - r.start) w ys ≡ put w (k * 768) ys
  part_back w ys long = rw e (came_back w ys k long)

pub ruleset lent_rules = (part_lent, part_back, length-part_at)

-- a chamber of shaped tables: its part is in the store, and its count, as it was read
module _ (chambers store : List ℕ) (k : ℕ) (shaped : Shaped chambers store) (h : k < chamber_count chambers) where
  pub part_in : (k + 1) * 768 ≤ length store
  part_in = omega (arith, shaped.long)

  pub count_in : (b : TargetBin) → b ≡ chamber_at chambers k → b.count ≤ 128
  count_in b read = omega (arith, ap (λ (x : TargetBin). x.count) read, shaped.counted.counts k h)

-- ---- the store read and written

pub length-part_of : (free : List BinSection) → length free ≤ 128 → length (part_of free) ≡ 768
unfolding part_of
length-part_of free h =
    simp (length-append, length-all_words, length-replicate) (omega arith)

pub sections-part_of : (free : List BinSection) → sections (part_of free) (length free) ≡ free
unfolding part_of
sections-part_of free =
    decoded free (all_words free ++ replicate (768 - length free * 6) 0) (length free) refl
    (take_at (all_words free) (replicate (768 - length free * 6) 0) (length free * 6) (length-all_words free))

pub length-free_of : (chambers store : List ℕ) → length (free_of chambers store) ≡ chamber_count chambers
unfolding free_of
length-free_of chambers store = length-tab (chamber_count chambers) (free_at chambers store)

pub getd_free_of : (chambers store : List ℕ) (i : ℕ) (d : List BinSection) → i < chamber_count chambers → get_or (free_of chambers store) i d ≡ free_at chambers store i
unfolding free_of
getd_free_of chambers store i d h = getd_tab (chamber_count chambers) (free_at chambers store) i d h

-- a part of a store that was written
pub part_at-store_of : (fs : List (List BinSection)) (i : ℕ) → ((j : ℕ) → j < length fs → length (get_or fs j []) ≤ 128) → i < length fs → part_at (store_of fs) i ≡ part_of (get_or fs i [])
unfolding part_at
part_at-store_of fs i small h = joined_part part_of 768 fs i [] (λ j b. length-part_of (get_or fs j []) (small j b)) h

-- what is written, read again with counts that fit
pub store_decoded : (chambers : List ℕ) (fs : List (List BinSection)) → chamber_count chambers ≡ length fs → Counted chambers → ((i : ℕ) → i < length fs → (chamber_at chambers i).count ≡ length (get_or fs i [])) → free_of chambers (store_of fs) ≡ fs
unfolding free_at
store_decoded chambers fs many counted counts =
    ext_get_or [] (free_of chambers (store_of fs)) fs (length-free_of chambers (store_of fs) ∙ many)
    (λ i b. let h : i < length fs = omega (arith, length-free_of chambers (store_of fs)) in
    getd_free_of chambers (store_of fs) i [] (omega arith)
    ∙ ap₂ (λ (w : List ℕ) (n : ℕ). sections w n)
    (part_at-store_of fs i (λ j c. omega (arith, counts j c, counted.counts j (omega arith))) h) (counts i h)
    ∙ sections-part_of (get_or fs i []))

written_again : (chambers store : List ℕ) (i : ℕ) → (chamber_at chambers i).count ≤ 128 → (i + 1) * 768 ≤ length store → ZeroPast (chamber_at chambers i).count (part_at store i) → part_of (free_at chambers store i) ≡ part_at store i
unfolding part_of free_at
written_again chambers store i small room zeros =
    let n : ℕ = (chamber_at chambers i).count in
    let long : length (part_at store i) ≡ 768 = length-part_at store i room in
    let rest : 768 - length (sections (part_at store i) n) * 6 ≡ length (part_at store i) - n * 6 = omega (arith, length-sections (part_at store i) n) in
    ap (λ (m : ℕ). all_words (sections (part_at store i) n) ++ replicate m 0) rest
    ∙ sym (part_words (part_at store i) 128 n (omega arith) small zeros)

-- what is read, written again, where "words past each count are 0"
pub store_encoded : (chambers store : List ℕ) → Shaped chambers store → ((i : ℕ) → i < chamber_count chambers → ZeroPast (chamber_at chambers i).count (part_at store i)) → store_of (free_of chambers store) ≡ store
unfolding free_of part_at
store_encoded chambers store shaped zeros =
    joined-take part_of 768 (chamber_count chambers) (free_at chambers store) store
    (λ i h. written_again chambers store i (shaped.counted.counts i h) (omega arith) (zeros i h))
    ∙ take_all (chamber_count chambers * 768) store (omega arith)

-- ---- a change in one chamber sets one of the lists

same_free : (chambers chambers' store store' : List ℕ) (k : ℕ) → part_at store' k ≡ part_at store k → (chamber_at chambers' k).count ≡ (chamber_at chambers k).count → free_at chambers' store' k ≡ free_at chambers store k
unfolding free_at
same_free chambers chambers' store store' k p q = ap₂ (λ (w : List ℕ) (n : ℕ). sections w n) p q

pub free_set : (chambers chambers' store store' : List ℕ) (c : ℕ) (fs : List BinSection) → chamber_count chambers' ≡ chamber_count chambers → c < chamber_count chambers → OnlyIn c store store' → free_at chambers' store' c ≡ fs → ((k : ℕ) → (k ≡ c → ⊥) → (chamber_at chambers' k).count ≡ (chamber_at chambers k).count) → free_of chambers' store' ≡ set (free_of chambers store) c fs
unfolding free_of
free_set chambers chambers' store store' c fs many low only here counts =
    ap (λ (n : ℕ). tab n (free_at chambers' store')) many
    ∙ tab-set (chamber_count chambers) (free_at chambers store) (free_at chambers' store') c fs low here
    (λ k ne. same_free chambers chambers' store store' k (only.others k ne) (counts k ne))
