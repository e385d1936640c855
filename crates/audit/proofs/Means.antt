-- What the replies of an audit mean in unit cells, for every input past checks 1 and 2.
use Prim.Native.Nat.{ℕ, ◌≤◌, ◌<◌}
use mathlib.Core.Path.{◌≡◌, refl, sym, ap, ◌∙◌, subst}
use mathlib.Core.Logic.{◌⊎◌, inl, inr}
use mathlib.Core.List.{List}
use mathlib.Core.Bool.{Bool, true, false}
use native.Mathlib.Decide.{dec_lt}
use native.Mathlib.Omega.{arith}
use borrow.Author.Tests.{eqb-true, eqb-false, eq-eqb, ne_eqb}
use lib.Dec.{eqb}
use lib.ListN.{length, take}
use Rattle.lists.proofs.Flags.{cond_no}
use Rattle.lists.proofs.Lowests.{lowest_none, lowest_here, lowest_fires, none_below_lowest, none_of_lowest}
use Rattle.bin_section.specs.declared.width_height_depth.WidthHeightDepth.{WidthHeightDepth}
use Rattle.bin_section.specs.declared.section.BinSection.{BinSection}
use Rattle.std.proofs.Common.{None as Nothing}
use Rattle.replies.specs.declared.reply.Reply.{Reply}
use Rattle.bin_section.specs.Sides.{volume_of, sides_ok}
use Rattle.bin_section.specs.Section.{section_words}
use Rattle.replies.specs.Replies.{reply}
use Rattle.bin_section.specs.Inside.{outside}
use Rattle.bin_section.proofs.Bounding.{not_outside→inside, inside→not_outside, outside→not_inside, not_inside→outside}
use Rattle.cells.specs.Whole.{box_at, AllInside, Apart, Whole, volumes}
use Rattle.cells.proofs.Counting.{volumes_fit, sum→whole, less→gap, whole_filled, whole_no_gap}
use Rattle.sections.specs.Inside.{shares_earlier}
use Rattle.sections.specs.Common.{EarliestSpace}
use Rattle.sections.proofs.Searching.{earlier_space}
use Rattle.audit.specs.Audit.{audit_boxes, box_lists_ok, audit_reply, audit_common, audit_answer, shown_of, audit_of}
use Rattle.sections.proofs.Earlier.{not_shares→apart, apart→not_shares, some→shares, lowest→first, first→lowest}
use Rattle.audit.specs.Meaning.{Given, FirstOutside, FirstShared, CellInNoBox, AuditMeans}
use Rattle.audit.proofs.Tests.{none_inside, inside_none}
use Rattle.audit.proofs.TwoLists.{words_box}
use Rattle.audit.proofs.Replying.{first_outside, first_shared, reply-outside, reply_shared, reply_gap, reply_whole, names_box, named_box}

-- ---- the lowest index that a check finds, and what that means

module _ (whd : WidthHeightDepth) (boxes : List BinSection) where
  at_outside : first_outside whd boxes < length boxes → FirstOutside whd boxes (first_outside whd boxes)
  at_outside h =
      record {
        below = h;
        before = λ k l. not_outside→inside whd (box_at boxes k) ((none_below_lowest (length boxes) (λ i. outside whd (box_at boxes i))).at k l);
        out = outside→not_inside whd (box_at boxes (first_outside whd boxes)) (lowest_fires (length boxes) (λ i. outside whd (box_at boxes i)) h);
      }

  outside_at_lem : (i : ℕ) → FirstOutside whd boxes i → first_outside whd boxes ≡ i
  outside_at_lem i p =
      lowest_here (length boxes) i (λ k. outside whd (box_at boxes k))
      (record { at = λ k l. inside→not_outside whd (box_at boxes k) (p.before k l) })
      p.below
      (not_inside→outside whd (box_at boxes i) p.out)

  inside_end : AllInside whd boxes → first_outside whd boxes ≡ length boxes
  inside_end p = lowest_none (length boxes) (λ i. outside whd (box_at boxes i)) (inside_none whd boxes p)

  end_inside : length boxes ≤ first_outside whd boxes → AllInside whd boxes
  end_inside h = none_inside whd boxes (none_of_lowest (length boxes) (λ i. outside whd (box_at boxes i)) h)

  at_shared : AllInside whd boxes → first_shared boxes < length boxes → FirstShared whd boxes (first_shared boxes)
  at_shared inside h = record { inside = inside; first = lowest→first boxes h }

  shared_at : (j : ℕ) → FirstShared whd boxes j → first_shared boxes ≡ j
  shared_at j p = first→lowest boxes j p.first

  apart_end : Apart boxes → first_shared boxes ≡ length boxes
  apart_end p = lowest_none (length boxes) (shares_earlier boxes) (record { at = λ j h. apart→not_shares boxes j (λ i l. p.at i j l h) })

  end_apart : length boxes ≤ first_shared boxes → Apart boxes
  end_apart h =
      record { at = λ i j l b. not_shares→apart boxes j ((none_of_lowest (length boxes) (shares_earlier boxes) h).at j b) i l }

-- ---- the four cases

data Found (whd : WidthHeightDepth) (boxes : List BinSection) (r : Reply) : Type 0 where
  found_outside : (i : ℕ) → r ≡ reply 16 i → FirstOutside whd boxes i → Found whd boxes r
  found_shared : (j : ℕ) → r ≡ reply 17 j → FirstShared whd boxes j → Found whd boxes r
  found_gap : r ≡ reply 18 0 → CellInNoBox whd boxes → Found whd boxes r
  found_whole : r ≡ reply 0 0 → Whole whd boxes → Found whd boxes r

module _ (whd : WidthHeightDepth) (placed free : List ℕ) (a : box_lists_ok (length placed) (length free) ≡ true) (b : sides_ok whd ≡ true) where
  abbrev boxes : List BinSection
  boxes = audit_boxes placed free

  r : Reply
  r = audit_reply whd placed free

  -- one of them is the case
  found : Found whd boxes r
  unfolding r
  found = out (dec_lt (first_outside whd boxes) (length boxes))
    where
      sum : (ins : length boxes ≤ first_outside whd boxes) (ap : length boxes ≤ first_shared boxes) (t : Bool) → eqb (volumes boxes) (volume_of whd) ≡ t → Found whd boxes r
      sum ins ap true e =
          found_whole (sym (reply_whole whd placed free a b ins ap e))
          (sum→whole whd boxes (end_inside whd boxes ins) (end_apart whd boxes ap) (eqb-true _ _ e))
      sum ins ap false e =
          let inside = end_inside whd boxes ins in
          let apart = end_apart whd boxes ap in
          let ne = eqb-false (volumes boxes) (volume_of whd) e in
          found_gap (sym (reply_gap whd placed free a b ins ap e))
          (record { inside = inside; apart = apart; gap = less→gap whd boxes inside apart (omega (arith, volumes_fit whd boxes inside apart)) })

      both : length boxes ≤ first_outside whd boxes → Dec (first_shared boxes < length boxes) → Found whd boxes r
      both ins (yes h) = found_shared _ (sym (reply_shared whd placed free a b ins h)) (at_shared whd boxes (end_inside whd boxes ins) h)
      both ins (no h) = sum ins (omega arith) (eqb (volumes boxes) (volume_of whd)) refl

      out : Dec (first_outside whd boxes < length boxes) → Found whd boxes r
      out (yes h) = found_outside _ (sym (reply-outside whd placed free a b h)) (at_outside whd boxes h)
      out (no h) = both (omega arith) (dec_lt (first_shared boxes) (length boxes))

  -- each of them gives its reply
  from_outside : (i : ℕ) → FirstOutside whd boxes i → r ≡ reply 16 i
  unfolding r
  from_outside i p =
      let e = outside_at_lem whd boxes i p in
      let h = p.below in
      sym (reply-outside whd placed free a b (omega arith)) ∙ ap (λ (k : ℕ). reply 16 k) e

  from_shared : (j : ℕ) → FirstShared whd boxes j → r ≡ reply 17 j
  unfolding r
  from_shared j p =
      let e = shared_at whd boxes j p in
      let ins = inside_end whd boxes p.inside in
      let h = p.first.below in
      sym (reply_shared whd placed free a b (omega arith) (omega arith)) ∙ ap (λ (k : ℕ). reply 17 k) e

  from_gap : CellInNoBox whd boxes → r ≡ reply 18 0
  unfolding r
  from_gap p =
      let ins = inside_end whd boxes p.inside in
      let ap = apart_end whd boxes p.apart in
      sym (reply_gap whd placed free a b (omega arith) (omega arith)
      (ne_eqb (volumes boxes) (volume_of whd) (λ e. whole_no_gap whd boxes (sum→whole whd boxes p.inside p.apart e) p.gap)))

  from_whole : Whole whd boxes → r ≡ reply 0 0
  unfolding r
  from_whole w =
      let f = (whole_filled whd boxes).0 w in
      let ins = inside_end whd boxes f.inside in
      let ap = apart_end whd boxes f.apart in
      sym (reply_whole whd placed free a b (omega arith) (omega arith) (eq-eqb (volumes boxes) (volume_of whd) f.sum))

-- a reply tells the cases apart
module _ (whd : WidthHeightDepth) (boxes : List BinSection) (r : Reply) where
  same_number : (m n i j : ℕ) → r ≡ reply m i → r ≡ reply n j → m ≡ n
  same_number m n i j p q = ap (λ (a : Reply). a.number) (sym p ∙ q)

  same_detail : (m n i j : ℕ) → r ≡ reply m i → r ≡ reply n j → i ≡ j
  same_detail m n i j p q = ap (λ (a : Reply). a.detail) (sym p ∙ q)

  to_whole : Found whd boxes r → r ≡ reply 0 0 → Whole whd boxes
  to_whole (found_outside i e p) q = absurd (omega (arith, same_number 16 0 i 0 e q))
  to_whole (found_shared j e p) q = absurd (omega (arith, same_number 17 0 j 0 e q))
  to_whole (found_gap e p) q = absurd (omega (arith, same_number 18 0 0 0 e q))
  to_whole (found_whole e w) q = w

  to_outside : (k : ℕ) → Found whd boxes r → r ≡ reply 16 k → FirstOutside whd boxes k
  to_outside k (found_outside i e p) q = subst (λ (n : ℕ). FirstOutside whd boxes n) (same_detail 16 16 i k e q) p
  to_outside k (found_shared j e p) q = absurd (omega (arith, same_number 17 16 j k e q))
  to_outside k (found_gap e p) q = absurd (omega (arith, same_number 18 16 0 k e q))
  to_outside k (found_whole e w) q = absurd (omega (arith, same_number 0 16 0 k e q))

  to_shared : (k : ℕ) → Found whd boxes r → r ≡ reply 17 k → FirstShared whd boxes k
  to_shared k (found_outside i e p) q = absurd (omega (arith, same_number 16 17 i k e q))
  to_shared k (found_shared j e p) q = subst (λ (n : ℕ). FirstShared whd boxes n) (same_detail 17 17 j k e q) p
  to_shared k (found_gap e p) q = absurd (omega (arith, same_number 18 17 0 k e q))
  to_shared k (found_whole e w) q = absurd (omega (arith, same_number 0 17 0 k e q))

  to_gap : Found whd boxes r → r ≡ reply 18 0 → CellInNoBox whd boxes
  to_gap (found_outside i e p) q = absurd (omega (arith, same_number 16 18 i 0 e q))
  to_gap (found_shared j e p) q = absurd (omega (arith, same_number 17 18 j 0 e q))
  to_gap (found_gap e p) q = p
  to_gap (found_whole e w) q = absurd (omega (arith, same_number 0 18 0 0 e q))

  one_of : Found whd boxes r → Given r
  one_of (found_outside i e p) = inr (inl (i, e))
  one_of (found_shared j e p) = inr (inr (inl (j, e)))
  one_of (found_gap e p) = inr (inr (inr e))
  one_of (found_whole e w) = inl e

-- ---- what is handed on

module _ (whd : WidthHeightDepth) (placed free : List ℕ) (a : box_lists_ok (length placed) (length free) ≡ true) (b : sides_ok whd ≡ true) where
  with_shared : (j : ℕ) → audit_reply whd placed free ≡ reply 17 j → (i : ℕ) × EarliestSpace (take j (audit_boxes placed free)) (box_at (audit_boxes placed free) j) i (audit_of whd placed free).common
  unfolding audit_of audit_answer audit_common r
  with_shared j e =
      let boxes = audit_boxes placed free in
      let p = to_shared whd boxes (audit_reply whd placed free) j (found whd placed free a b) e in
      rw e
      (earlier_space boxes j (omega (arith, p.first.below)) (some→shares boxes j p.first.earlier p.first.less p.first.shares))

-- any other reply than 17 hands on none, on every input
pub audit_none : (whd : WidthHeightDepth) (placed free : List ℕ) → ((audit_of whd placed free).reply.number ≡ 17 → ⊥) → (audit_of whd placed free).common ≡ Nothing
unfolding audit_of audit_answer audit_common
audit_none whd placed free ne = cond_no _ _ (eqb (audit_reply whd placed free).number 17) (ne_eqb _ _ ne)

-- ---- the theorem

pub audit_means :
    (whd : WidthHeightDepth) (placed free : List ℕ)
    → box_lists_ok (length placed) (length free) ≡ true
    → sides_ok whd ≡ true
    → AuditMeans whd (audit_boxes placed free) (audit_of whd placed free).reply (audit_of whd placed free).common
unfolding audit_of audit_answer r
audit_means whd placed free a b =
    let boxes = audit_boxes placed free in
    let answer = audit_reply whd placed free in
    let f = found whd placed free a b in
    record {
      given = one_of whd boxes answer f;
      whole = (to_whole whd boxes answer f, from_whole whd placed free a b);
      outside = λ i. (to_outside whd boxes answer i f, from_outside whd placed free a b i);
      shared = λ j. (to_shared whd boxes answer j f, from_shared whd placed free a b j);
      missing = (to_gap whd boxes answer f, from_gap whd placed free a b);
      space = with_shared whd placed free a b;
      no_space = λ n. audit_none whd placed free (λ e. n answer.detail (ap (λ (k : ℕ). reply k answer.detail) e));
    }

-- with 16 or 17 the words shown are those of the box that the detail names
pub audit_shows :
    (whd : WidthHeightDepth) (placed free : List ℕ) (n i : ℕ)
    → (audit_of whd placed free).reply ≡ reply n i
    → (n ≡ 16) ⊎ (n ≡ 17)
    → (audit_of whd placed free).shown ≡ section_words (box_at (audit_boxes placed free) i)
unfolding audit_of audit_answer shown_of
audit_shows whd placed free n i e which =
    let named = names which in
    let p = named_box whd placed free (reply n i) (sym e) named in
    rw (e, named) (words_box placed free i p.0 p.1)
  where
    names : (n ≡ 16) ⊎ (n ≡ 17) → names_box (reply n i) ≡ true
    names (inl q) = rw q refl
    names (inr q) = rw q refl
