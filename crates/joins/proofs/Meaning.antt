-- What a join's replies mean: where it is done, what it leaves, that nothing is lost, and the space that 10 hands on.
use Prim.Native.Nat.{ℕ, ◌+◌, ◌*◌, ◌≤◌, ◌<◌}
use mathlib.Core.Path.{◌≡◌, refl, sym, ap, ◌∙◌, subst}
use mathlib.Core.Logic.{◌↔◌}
use mathlib.Core.List.{List, ◌++◌}
use mathlib.Core.Bool.{not, true, false}
use native.Mathlib.Omega.{arith}
use borrow.Author.Tests.{eqb-false, ltb-true, lt-ltb}
use lib.Dec.{eqb, ltb}
use lib.ListN.{length, take, set}
use Rattle.lists.specs.Lowest.{lowest}
use Rattle.lists.specs.Sort.{Each}
use Rattle.lists.specs.Tab.{put}
use Rattle.lists.proofs.Sorts.{each_at, each-tab}
use Rattle.bin_section.specs.declared.section.BinSection.{BinSection}
use Rattle.std.specs.Prelude.{Option, None}
use Rattle.bin_section.specs.Section.{section_at, zero_section}
use Rattle.bin_section.specs.Boxes.{box_at}
use Rattle.bin_section.specs.Inside.{Inside}
use Rattle.replies.specs.declared.reply.Reply.{Reply}
use Rattle.replies.specs.Replies.{Check, reply, in_order}
use Rattle.replies.proofs.Ladders.{fires, passes, of_each, row_passes, past, past_all, in_map, no_fault, none_passes}
use Rattle.cells.specs.Whole as whole
use Rattle.sections.specs.Sections.{sections}
use Rattle.sections.specs.Inside.{shares_earlier}
use Rattle.sections.specs.Common.{EarliestSpace, FirstToShare, earliest_common}
use Rattle.sections.proofs.Reading.{length-sections, getd_sections}
use Rattle.sections.proofs.Searching.{earlier_space}
use Rattle.sections.proofs.Earlier.{not_shares→apart, apart→not_shares, some→shares, lowest→first, first→lowest}
use Rattle.neighbours.specs.Joining.{Joined, join_all}
use Rattle.neighbours.specs.Means.{JoinMeans}
use Rattle.neighbours.proofs.Neighbouring.{joined_inside}
use Rattle.neighbours.proofs.Steps.{all_count}
use Rattle.neighbours.proofs.Afterwards.{each_all, all_apart, all_means}
use Rattle.target_bin.specs.Chambers.{chamber_at, chamber_count, chamber_of}
use Rattle.target_bin.specs.Store.{part_at, free_at, part_of}
use Rattle.target_bin.specs.Checks.{check1, check2, check3, check8, table_checks}
use Rattle.target_bin.specs.Outcome.{Outcome, outcome, refused, CommonOutcome, with_common}
use Rattle.target_bin.proofs.Parts.{length-part_of, sections-part_of}
use Rattle.target_bin.proofs.Passing.{Sound, tables_pass, tables_sound}
use Rattle.target_bin.proofs.Changing.{OneChanged, changed, changed_sound}
use Rattle.target_bin.proofs.Jobs.{known_fires, known_passes, job_refusal, job_none}
use Rattle.joins.specs.Join.{share_checks, join_checks, joined_in, join_done, join_outcome, join_common, join_of}
use Rattle.joins.proofs.Coalescing.{no_common}

module _ (chambers store : List ℕ) (id : ℕ) where
  abbrev here : ℕ
  here = chamber_of chambers id

  abbrev free : List BinSection
  free = free_at chambers store here

  abbrev after : Joined
  after = join_all free

  -- where a join is done
  pub record Done : Type 0 where
    pub sound_before : Sound chambers store
    pub known : chamber_of chambers id < chamber_count chambers
    pub named : (chamber_at chambers (chamber_of chambers id)).id ≡ id
    pub apart : whole.Apart (free_at chambers store (chamber_of chambers id))

  -- all its checks
  abbrev row : List (Check Reply)
  row = table_checks chambers store ++ join_checks chambers store id

  outcome_result : Done → join_outcome chambers store id ≡ join_done chambers store id
  unfolding join_outcome join_checks share_checks
  outcome_result d =
      let p8 = ap not (known_fires chambers id d.known) in
      let p10 = none_passes _ _ (record { at = λ j l. apart→not_shares free j (λ i h. d.apart.at i j h l) }) in
      past _ _ (table_checks chambers store) _ (tables_pass chambers store d.sound_before)
      ∙ past_all _ _ (join_checks chambers store id) (p8, (p10, tt))

  pub join_result : Done → join_of chambers store id ≡ with_common None (joined_in chambers store (chamber_of chambers id) (join_all (free_at chambers store (chamber_of chambers id))))
  unfolding join_of join_common join_done
  join_result d = ap (λ (o : Outcome). with_common (join_common free o.reply) o) (outcome_result d)

  -- reply 0 is given exactly there
  pub join_done_lem : (join_of chambers store id).reply.number ≡ 0 → Done
  unfolding join_of join_outcome join_checks share_checks
  join_done_lem z =
      let p = row_passes (λ o. o.reply.number) (refused chambers store) (join_done chambers store id) row _ refl refl z in
      let s : Sound chambers store = tables_sound chambers store (p.0, (p.1.0, (p.1.1.0, tt))) in
      let r = p.1.1.1 in
      let k = known_passes chambers id r.0 in
      record {
        sound_before = s;
        known = k.0;
        named = k.1;
        apart = record { at = λ i j l h. not_shares→apart free j ((no_fault (length free) (shares_earlier free) r.1.0).at j h) i l };
      }

  pub join_exact : ((join_of chambers store id).reply.number ≡ 0) ↔ Done
  join_exact = (join_done_lem, λ d. ap (λ (o : CommonOutcome). o.reply.number) (join_result d))

  -- any other reply leaves both tables as they were
  pub join-refusal : ((join_of chambers store id).reply.number ≡ 0 → ⊥) → join_of chambers store id ≡ with_common (join_of chambers store id).common (outcome (join_of chambers store id).reply chambers store)
  unfolding join_of join_outcome join_done
  join-refusal = job_refusal chambers store (join_checks chambers store id) (join_done chambers store id) (join_common free) refl

  -- ---- what a join leaves

  module _ (d : Done) where
    few : length after.free ≤ 128
    unfolding free_at
    few =
        omega (
          arith,
          all_count free,
          length-sections (part_at store here) (chamber_at chambers here).count,
          d.sound_before.shaped.counted.counts here d.known,
        )

    all_inside : Each (Inside (chamber_at chambers here).whd) after.free
    unfolding free_at sections
    all_inside =
        each_all (Inside (chamber_at chambers here).whd) (joined_inside (chamber_at chambers here).whd) free
        (each-tab (chamber_at chambers here).count (section_at (part_at store here)) (λ j l. d.sound_before.all_in.inside here j d.known l))

    -- the chamber's free sections are the joined ones, and all else is as it was
    pub join_changed : OneChanged chambers store (join_of chambers store id).chambers (join_of chambers store id).store (chamber_of chambers id) (join_all (free_at chambers store (chamber_of chambers id))).free
    join_changed =
        rw (join_result d)
        (subst (OneChanged chambers store (set chambers (here * 5 + 4) (length after.free)) (put store (here * 768) (part_of after.free)) here) (sections-part_of after.free)
        (changed chambers store here (length after.free) (part_of after.free) d.sound_before d.known (length-part_of after.free few)))

    section_in : (j : ℕ) → j < length after.free → Inside (chamber_at chambers here).whd (section_at (part_of after.free) j)
    section_in j l =
        let e : box_at after.free j ≡ section_at (part_of after.free) j =
        sym (ap (λ (xs : List BinSection). box_at xs j) (sections-part_of after.free)) ∙ getd_sections (part_of after.free) (length after.free) j zero_section l in
        rw (← e) (each_at all_inside j zero_section l)

    pub join_sound : Sound (join_of chambers store id).chambers (join_of chambers store id).store
    join_sound =
        rw (join_result d)
        (changed_sound chambers store here (length after.free) (part_of after.free) d.sound_before d.known (length-part_of after.free few) few section_in)

    -- each join takes one section away
    pub join_count : length (free_at (join_of chambers store id).chambers (join_of chambers store id).store (chamber_of chambers id)) + (join_of chambers store id).reply.detail ≡ length (free_at chambers store (chamber_of chambers id))
    join_count = rw (join_changed.here, join_result d) (all_count free)

    -- no two free sections share a cell afterwards
    pub join_apart : whole.Apart (free_at (join_of chambers store id).chambers (join_of chambers store id).store (chamber_of chambers id))
    join_apart = rw join_changed.here (all_apart free d.apart)

    -- nothing is lost
    pub join_means : JoinMeans (free_at chambers store (chamber_of chambers id)) (free_at (join_of chambers store id).chambers (join_of chambers store id).store (chamber_of chambers id))
    join_means = rw join_changed.here (all_means free)

  -- ---- 10, and what it hands on

  -- where a join is refused with 10: the section at j is the first that shares a cell with an earlier one
  pub record Sharing (j : ℕ) : Type 0 where
    pub sound_before : Sound chambers store
    pub known : chamber_of chambers id < chamber_count chambers
    pub first : FirstToShare (free_at chambers store (chamber_of chambers id)) j

  abbrev met : ℕ
  met = lowest (length free) (shares_earlier free)

  named_met : (r : Reply) → r ≡ (join_outcome chambers store id).reply → r.number ≡ 10 → (r.detail ≡ met) × Sharing met
  unfolding join_outcome join_done join_checks share_checks
  named_met r e =
      subst Named (sym (e ∙ in_map (refused chambers store) (join_done chambers store id) (λ o. o.reply) row))
      (of_each Named row (reply 0 after.joins)
      (λ _. other 1 0 refl, λ p1. (λ _. other 2 _ refl, λ p2. (λ _. other 3 _ refl, λ p3. (λ _. other 8 0 refl, λ p8. (λ f h. (refl, here_shares p1 p2 p3 p8 f), λ _. other 0 _ refl))))))
    where
      Named : Reply → Type 0
      Named q = q.number ≡ 10 → (q.detail ≡ met) × Sharing met

      other : (n d : ℕ) → eqb n 10 ≡ false → Named (reply n d)
      other n d ne h = absurd (eqb-false n 10 ne h)

      here_shares :
          (check1 chambers store).fires ≡ false → (check2 chambers).fires ≡ false → (check3 chambers store).fires ≡ false → (check8 chambers id).fires ≡ false
          → ltb met (length free) ≡ true → Sharing met
      here_shares p1 p2 p3 p8 f =
          record {
            sound_before = tables_sound chambers store (p1, (p2, (p3, tt)));
            known = (known_passes chambers id p8).0;
            first = lowest→first free (ltb-true _ _ f);
          }

  shares_result : (j : ℕ) → Sharing j → (join_outcome chambers store id).reply ≡ reply 10 j
  unfolding join_outcome join_checks share_checks
  shares_result j s =
      let e : met ≡ j = first→lowest free j s.first in
      let fired : in_order row (refused chambers store) (join_done chambers store id) ≡ outcome (reply 10 met) chambers store =
      past _ _ (table_checks chambers store) _ (tables_pass chambers store s.sound_before)
      ∙ passes _ _ _ _ (ap not (known_fires chambers id s.known))
      ∙ fires _ _ _ _ (lt-ltb met (length free) (omega (arith, s.first.below))) in
      ap (λ (o : Outcome). o.reply) fired ∙ ap (reply 10) e

  -- 10 is given exactly there
  pub join_shared : (j : ℕ) → ((join_of chambers store id).reply ≡ reply 10 j) ↔ Sharing j
  unfolding join_of
  join_shared j = (
    λ e. let p = named_met (reply 10 j) (sym e) refl in subst (λ (i : ℕ). Sharing i) (sym p.0) p.1,
    shares_result j,
  )

  common_at10 : (j : ℕ) → (join_of chambers store id).reply ≡ reply 10 j → (join_of chambers store id).common ≡ earliest_common free j
  unfolding join_of join_common
  common_at10 j e = rw e

  -- and the common box is that of the section at j and the earliest that it meets
  pub join_shares : (j : ℕ) → (join_of chambers store id).reply ≡ reply 10 j → (i : ℕ) × EarliestSpace (take j (free_at chambers store (chamber_of chambers id))) (box_at (free_at chambers store (chamber_of chambers id)) j) i (join_of chambers store id).common
  join_shares j e =
      let s = ((join_shared j).0 e).first in
      subst (λ (c : Option BinSection). (i : ℕ) × EarliestSpace (take j free) (box_at free j) i c) (sym (common_at10 j e))
      (earlier_space free j (omega (arith, s.below)) (some→shares free j s.earlier s.less s.shares))

  -- any other reply hands on none
  pub join_none : ((join_of chambers store id).reply.number ≡ 10 → ⊥) → (join_of chambers store id).common ≡ None
  unfolding join_of join_outcome
  join_none = job_none chambers store (join_checks chambers store id) (join_done chambers store id) (join_common free) (no_common chambers store id)
