-- Which reply each row of checks leads to, and what a reply that names a box says of its index.
use Prim.Native.Nat.{ℕ, ◌+◌, ◌*◌, ◌/◌, ◌%◌, ◌≤◌, ◌<◌}
use mathlib.Core.Path.{◌≡◌, refl, sym, ap, ◌∙◌, subst}
use mathlib.Core.List.{List, [], ◌++◌}
use mathlib.Core.Bool.{Bool, true, false, not, ◌&&◌, ◌||◌}
use native.Mathlib.Omega.{arith}
use borrow.Author.Tests.{lt-ltb, le-ltb, ltb-true, leb-true, eqb-true, eq-eqb, ne_eqb, not-false}
use lib.Dec.{eqb, ltb, leb}
use lib.ListN.{length, take, drop}
use Rattle.lists.specs.Lowest.{lowest}
use Rattle.lists.proofs.Flags.{true_false, and_first, and_second}
use Rattle.bin_section.specs.declared.width_height_depth.WidthHeightDepth.{WidthHeightDepth}
use Rattle.bin_section.specs.declared.section.BinSection.{BinSection}
use Rattle.std.proofs.Common.{Option, Some, None}
use Rattle.std.proofs.lemmas.Option.{cond_some, none-some}
use Rattle.replies.specs.declared.reply.Reply.{Reply}
use Rattle.sections.specs.declared.common_reply.CommonReply.{CommonReply}
use Rattle.bin_section.specs.Sides.{volume_of, sides_ok}
use Rattle.replies.specs.Replies.{reply, in_order}
use Rattle.sections.specs.Common.{common_reply, plain_reply, earliest_common}
use Rattle.replies.proofs.Ladders.{fires, passes, past, past_all, of_each}
use Rattle.bin_section.specs.Inside.{outside}
use Rattle.cells.specs.Whole.{box_at, volumes}
use Rattle.sections.specs.Inside.{shares_earlier}
use Rattle.audit.specs.Audit.{audit_boxes, box_lists_ok, audit_checks, audit_reply, audit_common, audit_answer, shown_of, audited_with, audit_of}
use Rattle.audit.specs.Leaning.{NamesOneOf, faulty_box}
use Rattle.audit.proofs.TwoLists.{boxes_length}

-- what lengths that pass check 1 have
pub record BoxLengths (placed free : ℕ) : Type 0 where
  pub placed_whole : placed % 6 ≡ 0
  pub free_whole : free % 6 ≡ 0
  pub few : placed / 6 + free / 6 ≤ 1024

pub box_lengths : (placed free : ℕ) → box_lists_ok placed free ≡ true → BoxLengths placed free
unfolding box_lists_ok
box_lengths placed free h =
    let p = eqb (placed % 6) 0 in
    let f = eqb (free % 6) 0 in
    let n = leb (placed / 6 + free / 6) 1024 in
    let fn = and_second p (f && n) h in
    record {
      placed_whole = eqb-true _ _ (and_first p (f && n) h);
      free_whole = eqb-true _ _ (and_first f n fn);
      few = leb-true _ _ (and_second f n fn);
    }

-- the lowest indices that 16 and 17 find
abbrev pub first_outside : WidthHeightDepth → List BinSection → ℕ
first_outside whd boxes = lowest (length boxes) (λ i. outside whd (box_at boxes i))

abbrev pub first_shared : List BinSection → ℕ
first_shared boxes = lowest (length boxes) (shares_earlier boxes)

module _ (whd : WidthHeightDepth) (placed free : List ℕ) where
  abbrev boxes : List BinSection
  boxes = audit_boxes placed free

  module _ (a : box_lists_ok (length placed) (length free) ≡ true) (b : sides_ok whd ≡ true) where
    -- past the first two checks
    outside_on : audit_reply whd placed free ≡ in_order (drop 2 (audit_checks whd placed free boxes)) (λ refusal. refusal) (reply 0 0)
    unfolding audit_reply
    outside_on = past _ _ (take 2 (audit_checks whd placed free boxes)) _ (ap not a, (ap not b, tt))

    pub reply-outside : first_outside whd boxes < length boxes → reply 16 (first_outside whd boxes) ≡ audit_reply whd placed free
    reply-outside h = sym (outside_on ∙ fires _ _ _ _ (lt-ltb _ _ h))

    module _ (inside : length boxes ≤ first_outside whd boxes) where
      shared_on : audit_reply whd placed free ≡ in_order (drop 3 (audit_checks whd placed free boxes)) (λ refusal. refusal) (reply 0 0)
      shared_on = outside_on ∙ passes _ _ _ _ (le-ltb _ _ inside)

      pub reply_shared : first_shared boxes < length boxes → reply 17 (first_shared boxes) ≡ audit_reply whd placed free
      reply_shared h = sym (shared_on ∙ fires _ _ _ _ (lt-ltb _ _ h))

      module _ (apart : length boxes ≤ first_shared boxes) where
        pub reply_gap : eqb (volumes boxes) (volume_of whd) ≡ false → reply 18 0 ≡ audit_reply whd placed free
        reply_gap e = sym (shared_on ∙ passes _ _ _ _ (le-ltb _ _ apart) ∙ fires _ _ _ _ (ap not e))

        pub reply_whole : eqb (volumes boxes) (volume_of whd) ≡ true → reply 0 0 ≡ audit_reply whd placed free
        reply_whole e = sym (shared_on ∙ past_all _ _ _ (le-ltb _ _ apart, (ap not e, tt)))

-- ---- a reply that names a box

-- it is 16 or 17
abbrev pub names_box : Reply → Bool
names_box r = eqb r.number 16 || eqb r.number 17

module _ (whd : WidthHeightDepth) (placed free : List ℕ) (r : Reply) (e : r ≡ audit_reply whd placed free) where
  -- its box is one of the two lists', and these are of six words a box
  pub named_box : names_box r ≡ true → (length placed % 6 ≡ 0) × (r.detail < length placed / 6 + length free / 6)
  unfolding audit_reply
  named_box =
      subst Named (sym e)
      (of_each Named (audit_checks whd placed free (audit_boxes placed free)) (reply 0 0)
      (λ _. other 1 refl, λ a. (λ _. other 2 refl, λ _. (λ f h. at a f, λ _. (λ f h. at a f, λ _. (λ _. other 18 refl, λ _. other 0 refl))))))
    where
      Named : Reply → Type 0
      Named q = names_box q ≡ true → (length placed % 6 ≡ 0) × (q.detail < length placed / 6 + length free / 6)

      other : (n : ℕ) → names_box (reply n 0) ≡ false → Named (reply n 0)
      other n silent h = absurd (true_false (sym h ∙ silent))

      at :
          not (box_lists_ok (length placed) (length free)) ≡ false
          → {i : ℕ} → ltb i (length (audit_boxes placed free)) ≡ true
          → (length placed % 6 ≡ 0) × (i < length placed / 6 + length free / 6)
      at a {i} l = ((box_lengths (length placed) (length free) (not-false _ a)).placed_whole, omega (arith, ltb-true i _ l, boxes_length placed free))

  pub shared_box : r.number ≡ 17 → r.detail < length placed / 6 + length free / 6
  shared_box h = (named_box (rw h refl)).1

  -- the reply with its common box
  pub answer_plain : (a : CommonReply) → (r.number ≡ 17 → ⊥) → a ≡ plain_reply r → a ≡ audit_answer whd placed free
  unfolding audit_answer audit_common
  answer_plain a ne p = rw (p, ← e, ne_eqb r.number 17 ne)

  pub answer_common : (a : CommonReply) → r.number ≡ 17 → (c : Option BinSection) → c ≡ earliest_common (audit_boxes placed free) r.detail → a ≡ common_reply r c → a ≡ audit_answer whd placed free
  unfolding audit_answer audit_common
  answer_common a h c f p = rw (p, f, ← e, eq-eqb r.number 17 h)

-- what a refusal hands on is of a box that is there
pub names_one : (whd : WidthHeightDepth) (placed free : List ℕ) (all : List BinSection) (r : Reply) → r ≡ audit_reply whd placed free → all ≡ audit_boxes placed free → NamesOneOf all r
names_one whd placed free all r e view n = omega (arith, shared_box whd placed free r e n, boxes_length placed free, ap length view)

-- ---- the parts of an audit, by the index of the box that its reply names

module _ (whd : WidthHeightDepth) (placed free : List ℕ) (a : CommonReply) (e : a ≡ audit_answer whd placed free) where
  pub audit-replied : a.reply ≡ audit_reply whd placed free
  unfolding audit_answer
  audit-replied = ap (λ (q : CommonReply). q.reply) e

  module _ (o : Option ℕ) (f : o ≡ faulty_box a.reply) where
    named_at : (i : ℕ) → o ≡ Some i → (names_box a.reply ≡ true) × (a.reply.detail ≡ i)
    named_at i h = cond_some _ _ _ (sym f ∙ h)

    pub audit_at : (i : ℕ) → o ≡ Some i → a.reply.detail ≡ i
    audit_at i h = (named_at i h).1

    pub audit_lies : (i : ℕ) → o ≡ Some i → (length placed % 6 ≡ 0) × (i < length placed / 6 + length free / 6)
    audit_lies i h = let n = named_at i h in rw n.1 at (named_box whd placed free a.reply audit-replied n.0)

    pub audit_named : (words : List ℕ) (i : ℕ) → o ≡ Some i → words ≡ take 6 (drop (i * 6) (placed ++ free)) → audited_with a words ≡ audit_of whd placed free
    unfolding audit_of shown_of
    audit_named words i h w = let n = named_at i h in rw (← e, ← audit-replied, n.0, n.1, w) refl

    pub audit_silent : o ≡ None → audited_with a [] ≡ audit_of whd placed free
    unfolding audit_of shown_of
    audit_silent h = go (names_box a.reply) refl
      where
        go : (t : Bool) → names_box a.reply ≡ t → audited_with a [] ≡ audit_of whd placed free
        go true t = absurd (none-some a.reply.detail (sym h ∙ f ∙ rw t))
        go false t = rw (← e, ← audit-replied, t) refl
