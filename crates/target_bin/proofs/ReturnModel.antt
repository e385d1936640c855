-- What a return leaves, as lists: one count more and the box among the free sections; and where it is accepted.
use Prim.Native.Nat.{ℕ, ◌+◌, ◌*◌, ◌≤◌, ◌<◌}
use mathlib.Core.Path.{◌≡◌, refl, sym, ap, ◌∙◌, subst}
use mathlib.Core.Logic.{◌↔◌}
use mathlib.Core.List.{List, [], ◌∷◌, ◌++◌}
use mathlib.Core.Bool.{not, true, false, Bool}
use native.Mathlib.Decide.{ℕ_discrete}
use native.Mathlib.Omega.{arith}
use borrow.Author.Tests.{eqb-false, ltb-true, not-false, ne_eqb}
use lib.Dec.{eqb}
use lib.ListN.{length, set}
use Rattle.lists.specs.Lowest.{lowest}
use Rattle.lists.specs.Tab.{put}
use Rattle.lists.proofs.Tabs.{length-put}
use Rattle.lists.proofs.Flags.{true_false}
use Rattle.lists.proofs.Lowests.{lowest_fires, none_below_lowest}
use Rattle.bin_section.specs.declared.section.BinSection.{BinSection}
use Rattle.replies.specs.declared.reply.Reply.{Reply}
use Rattle.bin_section.specs.Section.{section_at, section_words, zero_section}
use Rattle.std.specs.Prelude.{None}
use Rattle.bin_section.specs.Boxes.{box_at}
use Rattle.bin_section.specs.Cell.{SharesCell}
use Rattle.bin_section.specs.Overlap.{overlaps_of, common_of}
use Rattle.bin_section.proofs.Sharing.{shares→overlaps, overlaps→shares}
use Rattle.replies.specs.Replies.{Check, reply}
use Rattle.sections.specs.Sections.{sections}
use Rattle.sections.specs.Inside.{shares_at}
use Rattle.sections.specs.Common.{EarliestSpace}
use Rattle.sections.proofs.Searching.{earliest_space}
use Rattle.bin_section.specs.Inside.{Inside}
use Rattle.bin_section.proofs.Bounding.{inside→, →inside}
use Rattle.sections.proofs.Moves.{appended}
use Rattle.sections.proofs.Reading.{section_at-put_same, section_at-put_other, length-sections, getd_sections}
use Rattle.target_bin.specs.declared.chamber.TargetBin.{TargetBin}
use Rattle.target_bin.specs.Chambers.{chamber_at, chamber_count, chamber_of}
use Rattle.target_bin.specs.Store.{part_at, free_at}
use Rattle.target_bin.specs.Checks.{table_checks}
use Rattle.target_bin.specs.Outcome.{Outcome, outcome, refused, CommonOutcome, with_common}
use Rattle.target_bin.specs.Return.{push_checks, return_checks, stored, returned, return_outcome, return_common, return_of}
use Rattle.replies.proofs.Ladders.{of_each, row_passes, past, past_all, in_map, no_fault, none_passes}
use Rattle.target_bin.proofs.Parts.{length-part_at}
use Rattle.target_bin.proofs.Jobs.{known_fires, known_passes, job_refusal, job_none}
use Rattle.target_bin.proofs.Returning.{no_common}
use Rattle.target_bin.proofs.Changing.{OneChanged, changed, changed_sound}
use Rattle.target_bin.proofs.Passing.{Sound, tables_pass, tables_sound}
use Rattle.words.proofs.Putting.{put_in_part}

-- ---- an accepted return: one count more, and the box after the last section

module _ (chambers store : List ℕ) (k : ℕ) (box : BinSection) (sound : Sound chambers store) (low : k < chamber_count chambers) (small : (chamber_at chambers k).count < 128) where
  abbrev n : ℕ
  n = (chamber_at chambers k).count

  in_store : (k + 1) * 768 ≤ length store
  in_store = omega (arith, sound.shaped.long)

  fits : n * 6 + 6 ≤ length (part_at store k)
  fits = omega (arith, length-part_at store k in_store)

  abbrev Q : List ℕ
  Q = put (part_at store k) (n * 6) (section_words box)

  long_Q : length Q ≡ 768
  long_Q = length-put (part_at store k) (n * 6) (section_words box) (omega (arith, fits)) ∙ length-part_at store k in_store

  as_part : put store (k * 768 + n * 6) (section_words box) ≡ put store (k * 768) Q
  unfolding part_at
  as_part = sym (put_in_part store (k * 768) 768 (omega (arith, in_store)) (n * 6) (section_words box) (omega arith))

  pub stored_changed : OneChanged chambers store (set chambers (k * 5 + 4) (n + 1)) (put store (k * 768 + n * 6) (section_words box)) k (free_at chambers store k ++ (box ∷ []))
  unfolding free_at
  stored_changed = rw (as_part, ← (appended (part_at store k) n box fits).free) (changed chambers store k (n + 1) Q sound low long_Q)

  module _ (box_in : Inside (chamber_at chambers k).whd box) where
    last_in : (j : ℕ) → j < n + 1 → Dec (j ≡ n) → Inside (chamber_at chambers k).whd (section_at Q j)
    last_in j l (yes e) = rw (e, section_at-put_same (part_at store k) n box fits) box_in
    last_in j l (no ne) = rw (section_at-put_other (part_at store k) n box fits j ne) (sound.all_in.inside k j low (omega arith))

    pub stored_sound : Sound (set chambers (k * 5 + 4) (n + 1)) (put store (k * 768 + n * 6) (section_words box))
    stored_sound =
        rw as_part
        (changed_sound chambers store k (n + 1) Q sound low long_Q (omega arith) (λ j l. last_in j l (ℕ_discrete j n)))

-- ---- what the replies of a return mean

module _ (chambers store : List ℕ) (id : ℕ) (box : BinSection) where
  abbrev here : ℕ
  here = chamber_of chambers id

  abbrev there : TargetBin
  there = chamber_at chambers here

  -- where a return is accepted
  pub record Accepted : Type 0 where
    pub sound_before : Sound chambers store
    pub known : chamber_of chambers id < chamber_count chambers
    pub named : (chamber_at chambers (chamber_of chambers id)).id ≡ id
    pub box_in : Inside (chamber_at chambers (chamber_of chambers id)).whd box
    pub apart : (j : ℕ) → j < (chamber_at chambers (chamber_of chambers id)).count → SharesCell (section_at (part_at store (chamber_of chambers id)) j) box → ⊥
    pub room : (chamber_at chambers (chamber_of chambers id)).count < 128

  -- all its checks
  abbrev row : List (Check Reply)
  row = table_checks chambers store ++ return_checks chambers store id box

  apart_passes : (j : ℕ) → (SharesCell (section_at (part_at store here) j) box → ⊥) → shares_at box (part_at store here) j ≡ false
  apart_passes j h = go (shares_at box (part_at store here) j) refl
    where
      go : (b : Bool) → shares_at box (part_at store here) j ≡ b → shares_at box (part_at store here) j ≡ false
      go true e = absurd (h (overlaps→shares (section_at (part_at store here) j) box e))
      go false e = e

  -- what an accepted return leaves
  outcome_result : Accepted → return_outcome chambers store id box ≡ stored chambers store (chamber_of chambers id) (chamber_at chambers (chamber_of chambers id)).count box
  unfolding return_outcome returned return_checks push_checks
  outcome_result a =
      let p8 = ap not (known_fires chambers id a.known) in
      let p9 = ap not (→inside there.whd box a.box_in) in
      let p10 = none_passes _ _ (record { at = λ j l. apart_passes j (a.apart j l) }) in
      let p11 = ne_eqb there.count 128 (λ e. omega (arith, a.room)) in
      past _ _ (table_checks chambers store) _ (tables_pass chambers store a.sound_before)
      ∙ past_all _ _ (return_checks chambers store id box) (p8, (p9, (p10, (p11, tt))))

  pub return_result : Accepted → return_of chambers store id box ≡ with_common None (stored chambers store (chamber_of chambers id) (chamber_at chambers (chamber_of chambers id)).count box)
  unfolding return_of return_common
  return_result a = ap (λ (o : Outcome). with_common (return_common (part_at store here) box o.reply) o) (outcome_result a)

  -- reply 0 is given exactly there
  pub return_done : (return_of chambers store id box).reply.number ≡ 0 → Accepted
  unfolding return_of return_outcome return_checks push_checks
  return_done z =
      let p = row_passes (λ o. o.reply.number) (refused chambers store) (returned chambers store id box) row _ refl refl z in
      let s : Sound chambers store = tables_sound chambers store (p.0, (p.1.0, (p.1.1.0, tt))) in
      let r = p.1.1.1 in
      let k = known_passes chambers id r.0 in
      let full : there.count ≡ 128 → ⊥ = eqb-false there.count 128 r.1.1.1.0 in
      record {
        sound_before = s;
        known = k.0;
        named = k.1;
        box_in = inside→ there.whd box (not-false _ r.1.0);
        apart = λ j l h.
            true_false
            (sym (shares→overlaps (section_at (part_at store here) j) box h) ∙ (no_fault there.count (shares_at box (part_at store here)) r.1.1.0).at j l);
        room = omega (arith, full, s.shaped.counted.counts here k.0);
      }

  pub return_exact : ((return_of chambers store id box).reply.number ≡ 0) ↔ Accepted
  return_exact = (return_done, λ a. ap (λ (o : CommonOutcome). o.reply.number) (return_result a))

  -- any other reply leaves both tables as they were
  pub return-refusal : ((return_of chambers store id box).reply.number ≡ 0 → ⊥) → return_of chambers store id box ≡ with_common (return_of chambers store id box).common (outcome (return_of chambers store id box).reply chambers store)
  unfolding return_of return_outcome returned
  return-refusal = job_refusal chambers store (return_checks chambers store id box) (returned chambers store id box) (return_common (part_at store here) box) refl

  -- the lowest section that check 10 finds
  abbrev met : ℕ
  met = lowest there.count (shares_at box (part_at store here))

  named_met : (r : Reply) → r ≡ (return_outcome chambers store id box).reply → r.number ≡ 10 → (r.detail ≡ met) × (met < there.count)
  unfolding return_outcome returned return_checks push_checks
  named_met r e =
      subst Named (sym (e ∙ in_map (refused chambers store) (returned chambers store id box) (λ o. o.reply) row))
      (of_each Named row (reply 0 there.count)
      (λ _. other 1 0 refl, λ _. (λ _. other 2 _ refl, λ _. (λ _. other 3 _ refl, λ _. (λ _. other 8 0 refl, λ _. (λ _. other 9 0 refl, λ _. (λ f h. (refl, ltb-true _ _ f), λ _. (λ _. other 11 0 refl, λ _. other 0 _ refl))))))))
    where
      Named : Reply → Type 0
      Named q = q.number ≡ 10 → (q.detail ≡ met) × (met < there.count)

      other : (n d : ℕ) → eqb n 10 ≡ false → Named (reply n d)
      other n d ne h = absurd (eqb-false n 10 ne h)

  -- where a return is refused with 10: the free section that the detail names is the earliest that the box meets, and the common box is theirs
  pub return_shares : (i : ℕ) → (return_of chambers store id box).reply ≡ reply 10 i → EarliestSpace (free_at chambers store (chamber_of chambers id)) box i (return_of chambers store id box).common
  unfolding return_of return_common free_at
  return_shares i e =
      let part = part_at store here in
      let n = there.count in
      let free = sections part n in
      let p = named_met (reply 10 i) (sym e) refl in
      let l : i < n = omega (arith, p.0, p.1) in
      let at : (k : ℕ) → k < n → box_at free k ≡ section_at part k = λ k b. getd_sections part n k zero_section b in
      let f : shares_at box part i ≡ true = ap (shares_at box part) p.0 ∙ lowest_fires n (shares_at box part) p.1 in
      earliest_space free box i _
      (record { at = λ k b. ap (λ (s : BinSection). overlaps_of s box) (at k (omega arith)) ∙ (none_below_lowest n (shares_at box part)).at k (omega (arith, p.0)) })
      (omega (arith, length-sections part n))
      (ap (λ (s : BinSection). overlaps_of s box) (at i l) ∙ f)
      (rw e (ap (λ (s : BinSection). common_of s box) (sym (at i l))))

  -- any other reply hands on none
  pub return_none : ((return_of chambers store id box).reply.number ≡ 10 → ⊥) → (return_of chambers store id box).common ≡ None
  unfolding return_of return_outcome
  return_none = job_none chambers store (return_checks chambers store id box) (returned chambers store id box) (return_common (part_at store here) box) (no_common chambers store id box)

  -- after an accepted return: the box stands last among the chamber's free sections, all else is as it was, and the tables are sound
  pub return_changed : Accepted → OneChanged chambers store (return_of chambers store id box).chambers (return_of chambers store id box).store (chamber_of chambers id) (free_at chambers store (chamber_of chambers id) ++ (box ∷ []))
  return_changed a = rw (return_result a) (stored_changed chambers store here box a.sound_before a.known a.room)

  pub return_sound : Accepted → Sound (return_of chambers store id box).chambers (return_of chambers store id box).store
  return_sound a = rw (return_result a) (stored_sound chambers store here box a.sound_before a.known a.room a.box_in)
