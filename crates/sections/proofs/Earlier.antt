-- From the test of a box that shares a cell with an earlier one to cells: what it means that it fires, and that it does not.
use Rattle.std.proofs.Common.{◌≡◌, ℕ, ◌<◌, Bool, true, false, List, length, sym, refl, ◌∙◌}
use Rattle.lists.specs.Lowest.{lowest}
use Rattle.lists.proofs.Flags.{true_false}
use Rattle.lists.proofs.Lowests.{any_none, any_some, none_any, none_below_lowest, lowest_fires, lowest_here}
use Rattle.bin_section.specs.declared.section.BinSection.{BinSection}
use Rattle.bin_section.specs.Boxes.{box_at}
use Rattle.bin_section.specs.Cell.{SharesCell}
use Rattle.bin_section.specs.Overlap.{overlaps_of}
use Rattle.bin_section.proofs.Sharing.{overlaps→shares, shares→overlaps}
use Rattle.sections.specs.Inside.{shares_earlier}
use Rattle.sections.specs.Common.{FirstToShare}

module _ (boxes : List BinSection) where
  pub not_shares→apart : (j : ℕ) → shares_earlier boxes j ≡ false → (i : ℕ) → i < j → ¬ (SharesCell (box_at boxes i) (box_at boxes j))
  unfolding shares_earlier
  not_shares→apart j e i h s =
      true_false (sym (shares→overlaps (box_at boxes i) (box_at boxes j) s) ∙ (any_none j (λ k. overlaps_of (box_at boxes k) (box_at boxes j)) e).at i h)

  pub apart→not_shares : (j : ℕ) → ((i : ℕ) → i < j → ¬ (SharesCell (box_at boxes i) (box_at boxes j))) → shares_earlier boxes j ≡ false
  unfolding shares_earlier
  apart→not_shares j p = none_any j (λ k. overlaps_of (box_at boxes k) (box_at boxes j)) (record { at = λ i h. go i h (overlaps_of (box_at boxes i) (box_at boxes j)) refl })
    where
      go : (i : ℕ) → i < j → (t : Bool) → overlaps_of (box_at boxes i) (box_at boxes j) ≡ t → overlaps_of (box_at boxes i) (box_at boxes j) ≡ false
      go i h true e = absurd (p i h (overlaps→shares (box_at boxes i) (box_at boxes j) e))
      go i h false e = e

  pub shares→some : (j : ℕ) → shares_earlier boxes j ≡ true → (i : ℕ) × (i < j) × SharesCell (box_at boxes i) (box_at boxes j)
  unfolding shares_earlier
  shares→some j e =
      let r = any_some j (λ k. overlaps_of (box_at boxes k) (box_at boxes j)) e in
      (r.0, r.1, overlaps→shares (box_at boxes r.0) (box_at boxes j) r.2)

  pub some→shares : (j i : ℕ) → i < j → SharesCell (box_at boxes i) (box_at boxes j) → shares_earlier boxes j ≡ true
  some→shares j i h s = go (shares_earlier boxes j) refl
    where
      go : (t : Bool) → shares_earlier boxes j ≡ t → shares_earlier boxes j ≡ true
      go true e = e
      go false e = absurd (not_shares→apart j e i h s)

  -- the lowest that fires is the first that shares
  pub lowest→first : lowest (length boxes) (shares_earlier boxes) < length boxes → FirstToShare boxes (lowest (length boxes) (shares_earlier boxes))
  lowest→first h =
      let j = lowest (length boxes) (shares_earlier boxes) in
      let s = shares→some j (lowest_fires (length boxes) (shares_earlier boxes) h) in
      record {
        below = h;
        before = λ i k l b. not_shares→apart k ((none_below_lowest (length boxes) (shares_earlier boxes)).at k b) i l;
        earlier = s.0;
        less = s.1;
        shares = s.2;
      }

  pub first→lowest : (j : ℕ) → FirstToShare boxes j → lowest (length boxes) (shares_earlier boxes) ≡ j
  first→lowest j p =
      lowest_here (length boxes) j (shares_earlier boxes)
      (record { at = λ k l. apart→not_shares k (λ i h. p.before i k h l) }) p.below (some→shares j p.earlier p.less p.shares)
