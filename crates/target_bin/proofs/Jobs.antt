-- Laws of a job that hands a common box on: checks 1 to 3 before its own, and of a job on one chamber: check 8 before those of the chamber's part,
-- which is lent; and of the whole of such a job, whose checks 1, 2, 3 and 8 are one call.
use Prim.Native.Nat.{ℕ, ◌+◌, ◌*◌, ◌-◌, ◌≤◌, ◌<◌}
use mathlib.Core.Path.{◌≡◌, refl, sym, ap, ◌∙◌}
use mathlib.Core.List.{List, ◌∷◌, ◌++◌}
use mathlib.Core.Bool.{true, false, not}
use native.Mathlib.Omega.{arith}
use borrow.Author.Tests.{not-true, not-false, lt-ltb, ltb-true, eqb-true, ne_eqb}
use lib.Dec.{eqb}
use borrow.Rule.Slice.PartMut.{put_mid}
use lib.ListN.{length, take, drop}
use Rattle.std.specs.Prelude.{Option}
use Rattle.std.specs.declared.ops.Range.{Range}
use Rattle.std.specs.Prelude.{None as Nothing}
use Rattle.lists.specs.Lowest.{lowest, any_below}
use Rattle.lists.specs.Tab.{put}
use Rattle.lists.proofs.Lowests.{any_lowest, lowest_fires}
use Rattle.bin_section.specs.declared.section.BinSection.{BinSection}
use Rattle.replies.specs.declared.reply.Reply.{Reply}
use Rattle.replies.specs.Replies.{Check, reply, in_order}
use Rattle.replies.proofs.Ladders.{AllPass, fires, passes, none_at, answer_is, row_passes, row_fires, alone_fires, past, past_all, in_map}
use Rattle.sections.specs.declared.common_reply.CommonReply.{CommonReply}
use Rattle.sections.specs.Common.{plain_reply}
use Rattle.words.proofs.Putting.{put_back}
use Rattle.target_bin.specs.declared.chamber.TargetBin.{TargetBin}
use Rattle.target_bin.specs.Chambers.{chamber_at, chamber_count, has_id, chamber_of}
use Rattle.target_bin.specs.Store.{part_at, part_range}
use Rattle.target_bin.specs.Checks.{table_checks, check8, known_checks}
use Rattle.target_bin.specs.Leaning.{Known}
use Rattle.target_bin.proofs.Parts.{lent_part, came_back, length-part_at, part_lent, part_back}
use Rattle.target_bin.specs.Outcome.{Outcome, outcome, refused, CommonOutcome, with_common}

-- a chamber has the id
pub known_fires : (chambers : List ℕ) (id : ℕ) → chamber_of chambers id < chamber_count chambers → any_below (chamber_count chambers) (has_id chambers id) ≡ true
unfolding chamber_of
known_fires chambers id h = any_lowest (chamber_count chambers) (has_id chambers id) ∙ lt-ltb _ _ h

-- check 8 passes where one has it
pub known_passes : (chambers : List ℕ) (id : ℕ) → not (any_below (chamber_count chambers) (has_id chambers id)) ≡ false → (chamber_of chambers id < chamber_count chambers) × ((chamber_at chambers (chamber_of chambers id)).id ≡ id)
unfolding chamber_of
known_passes chambers id p =
    let k : lowest (chamber_count chambers) (has_id chambers id) < chamber_count chambers =
    ltb-true _ _ (sym (any_lowest (chamber_count chambers) (has_id chambers id)) ∙ not-false _ p) in
    (k, eqb-true _ _ (lowest_fires (chamber_count chambers) (has_id chambers id) k))

-- ---- a job on one chamber, past checks 1 to 3: check 8, then its checks of the chamber's record and part, and what it leaves where they pass

module _ (chambers store : List ℕ) (id : ℕ) (row : TargetBin → List ℕ → List (Check Reply)) (result : ℕ → TargetBin → List ℕ → Outcome) where
  abbrev at_id : ℕ
  at_id = chamber_of chambers id

  -- the outcome that the checks from 8 on decide
  abbrev pub decided : Outcome
  decided =
      in_order (check8 chambers id ∷ row (chamber_at chambers at_id) (part_at store at_id)) (refused chambers store)
      (result at_id (chamber_at chambers at_id) (part_at store at_id))

  module _ (k : ℕ) (found : k ≡ at_id) where
    pub job_unknown : chamber_count chambers ≤ k → outcome (reply 8 0) chambers store ≡ decided
    unfolding chamber_of
    job_unknown h = sym (fires _ _ _ _ (ap not (any_lowest (chamber_count chambers) (has_id chambers id) ∙ none_at _ _ k _ refl found h)))

    module _ (b : TargetBin) (h : k < chamber_count chambers) (read : b ≡ chamber_at chambers k) (room : (k + 1) * 768 ≤ length store) where
      abbrev lent_words : List ℕ
      lent_words = take (k * 768 + 768 - k * 768) (drop (k * 768) store)

      -- past 8 the checks are those of the part that is lent
      row_decides : decided ≡ in_order (row b lent_words) (refused chambers store) (result k b lent_words)
      row_decides = rw (read, lent_part store k, found) (passes _ _ _ _ (ap not (known_fires chambers id (omega arith))))

      -- the part's answer and its words: those of a row of checks, with an answer and words where they pass
      module _ (ys P : List ℕ) (answer final : Reply) (long : length ys ≡ length lent_words) (zero : final.number ≡ 0)
          (replied : answer ≡ in_order (row b lent_words) (λ a. a) final)
          (left : ys ≡ in_order (row b lent_words) (λ a. lent_words) P) where
        given_back : put_mid (k * 768) (k * 768 + 768 - k * 768) store ys ≡ put store (k * 768) ys
        given_back = came_back store ys k (long ∙ ap length (lent_part store k) ∙ length-part_at store k room)

        pub job_refused : (answer.number ≡ 0 → ⊥) → outcome answer chambers (put_mid (k * 768) (k * 768 + 768 - k * 768) store ys) ≡ decided
        job_refused ne =
            let same : ys ≡ lent_words = left ∙ sym (alone_fires (λ r. r.number) (λ a. lent_words) _ (row b lent_words) final answer zero replied ne) in
            rw (given_back, same, put_back store (k * 768) (k * 768 + 768 - k * 768) (omega arith))
            (alone_fires (λ r. r.number) (refused chambers store) _ (row b lent_words) final answer zero replied ne ∙ sym row_decides)

        pub job_accepted : (after : List ℕ) → AllPass (row b lent_words) → outcome final after (put store (k * 768) P) ≡ result k b lent_words → outcome answer after (put_mid (k * 768) (k * 768 + 768 - k * 768) store ys) ≡ decided
        job_accepted after passed made =
            let said : answer ≡ final = replied ∙ past_all (λ a. a) _ (row b lent_words) passed in
            let wrote : ys ≡ P = left ∙ past_all (λ a. lent_words) _ (row b lent_words) passed in
            rw (given_back, wrote, said) (made ∙ sym (row_decides ∙ past_all _ _ (row b lent_words) passed))

-- ---- the whole of such a job: its checks of the chamber's record and part, what it leaves where they pass, and the common box of its reply

module _ (chambers store : List ℕ) (id : ℕ) (row : TargetBin → List ℕ → List (Check Reply)) (result : ℕ → TargetBin → List ℕ → Outcome) (common : TargetBin → List ℕ → Reply → Option BinSection) where
  abbrev here : ℕ
  here = chamber_of chambers id

  abbrev there : TargetBin
  there = chamber_at chambers here

  abbrev part : List ℕ
  part = part_at store here

  -- all its checks
  abbrev checks : List (Check Reply)
  checks = known_checks chambers store id ++ row there part

  abbrev done : Outcome
  done = result here there part

  abbrev all : Outcome
  all = in_order checks (refused chambers store) done

  abbrev pub job_of : CommonOutcome
  job_of = with_common (common there part all.reply) all

  handed : (o : Outcome) (c : Option BinSection) → o ≡ all → c ≡ common there part o.reply → with_common c o ≡ job_of
  handed o c e h = rw (h, e)

  -- what checks 1, 2, 3 and 8 answer
  module _ (t : Reply) (known : t ≡ in_order (known_checks chambers store id) (λ a. a) (reply 0 here)) where
    -- none of them is 10, the one reply that a common box goes with
    pub whole_unknown : ((r : Reply) → eqb r.number 10 ≡ false → common there part r ≡ Nothing) → (t.number ≡ 0 → ⊥) → with_common Nothing (outcome t chambers store) ≡ job_of
    whole_unknown none ne =
        let not10 : eqb t.number 10 ≡ false =
        not-true _ (rw known (answer_is (λ r. not (eqb r.number 10)) (known_checks chambers store id) (reply 0 here) refl refl)) in
        handed (outcome t chambers store) Nothing (row_fires (λ r. r.number) _ _ _ _ _ _ refl known ne) (sym (none t not10))

    -- the chamber's record and its part, as the code reads and lends them
    module _ (k : ℕ) (passed : t ≡ reply 0 k) (at : Known chambers store id k) (b : TargetBin) (read : b ≡ chamber_at chambers k) (r : Range ℕ) (lent : r ≡ part_range k) where
      abbrev L : List ℕ
      L = take (r.end - r.start) (drop r.start store)

      all_pass : AllPass (known_checks chambers store id)
      all_pass = row_passes (λ x. x.number) (λ a. a) (reply 0 here) (known_checks chambers store id) t refl known (ap (λ (x : Reply). x.number) passed)

      past8 : all ≡ in_order (row b L) (refused chambers store) (result k b L)
      past8 = rw (read, part_lent r k lent store, at.here) (past _ _ (known_checks chambers store id) _ all_pass)

      -- the part's answer and its words: those of a row of checks, with an answer and words where they pass
      module _ (ys P : List ℕ) (answer final : Reply) (zero : final.number ≡ 0) (long : length ys ≡ length L)
          (replied : answer ≡ in_order (row b L) (λ a. a) final)
          (left : ys ≡ in_order (row b L) (λ a. L) P)
          (c : Option BinSection) (shown : c ≡ common b L answer) where
        came : put_mid r.start (r.end - r.start) store ys ≡ put store (k * 768) ys
        came = part_back r k lent store ys (long ∙ ap length (part_lent r k lent store) ∙ length-part_at store k at.part_in)

        shown_there : c ≡ common there part answer
        shown_there = rw (← at.here, ← read, ← part_lent r k lent store) shown

        pub whole_refused : (answer.number ≡ 0 → ⊥) → with_common c (outcome answer chambers (put_mid r.start (r.end - r.start) store ys)) ≡ job_of
        unfolding part_at
        whole_refused ne =
            let same : ys ≡ L = left ∙ sym (alone_fires (λ x. x.number) (λ a. L) _ (row b L) final answer zero replied ne) in
            handed (outcome answer chambers (put_mid r.start (r.end - r.start) store ys)) c
            (rw (came, same, part_lent r k lent store, put_back store (k * 768) 768 (omega (arith, at.part_in)))
            (alone_fires (λ x. x.number) (refused chambers store) _ (row b L) final answer zero replied ne ∙ sym past8))
            shown_there

        pub whole_accepted : (after : List ℕ) → AllPass (row b L) → outcome final after (put store (k * 768) P) ≡ result k b L → with_common c (outcome answer after (put_mid r.start (r.end - r.start) store ys)) ≡ job_of
        whole_accepted after p made =
            let said : answer ≡ final = replied ∙ past_all (λ a. a) _ (row b L) p in
            let wrote : ys ≡ P = left ∙ past_all (λ a. L) _ (row b L) p in
            handed (outcome answer after (put_mid r.start (r.end - r.start) store ys)) c (rw (came, wrote, said) (made ∙ sym (past8 ∙ past_all _ _ (row b L) p))) shown_there

-- ---- checks 1 to 3 before a job's own, and the common box, a function of the reply

module _ (chambers store : List ℕ) (own : List (Check Reply)) (result : Outcome) (common : Reply → Option BinSection) where
  abbrev left_by : Outcome
  left_by = in_order (table_checks chambers store ++ own) (refused chambers store) result

  abbrev pub of_own : CommonOutcome
  of_own = with_common (common left_by.reply) left_by

  with_own : (o : Outcome) (c : Option BinSection) → o ≡ left_by → c ≡ common o.reply → with_common c o ≡ of_own
  with_own o c e h = rw (h, e)

  module _ (t : Reply) (tables : t ≡ in_order (table_checks chambers store) (λ a. a) (reply 0 0)) where
    -- none of 1 to 3 is 10, the one reply that a common box goes with
    pub job_tables : ((r : Reply) → eqb r.number 10 ≡ false → common r ≡ Nothing) → (t.number ≡ 0 → ⊥) → (a : CommonReply) → a ≡ plain_reply t → with_common a.common (outcome a.reply chambers store) ≡ of_own
    job_tables none ne a plain =
        let not10 : eqb t.number 10 ≡ false =
        not-true _ (rw tables (answer_is (λ r. not (eqb r.number 10)) (table_checks chambers store) (reply 0 0) refl refl)) in
        rw plain (with_own (outcome t chambers store) Nothing (row_fires (λ r. r.number) _ _ _ _ _ _ refl tables ne) (sym (none t not10)))

    pub job_past : t.number ≡ 0 → (o : Outcome) (c : Option BinSection) → c ≡ common o.reply → o ≡ in_order own (refused chambers store) result → with_common c o ≡ of_own
    job_past z o c h e =
        with_own o c
        (e ∙ sym (past _ _ (table_checks chambers store) _ (row_passes (λ r. r.number) (λ a. a) (reply 0 0) (table_checks chambers store) t refl tables z))) h

  -- ---- what its replies mean

  module _ (zero : result.reply.number ≡ 0) where
    -- any other reply than 0 leaves both tables as they were
    pub job_refusal : (of_own.reply.number ≡ 0 → ⊥) → of_own ≡ with_common of_own.common (outcome of_own.reply chambers store)
    job_refusal ne =
        ap (λ (o : Outcome). with_common (common left_by.reply) o)
        (sym (alone_fires (λ r. r.number) (refused chambers store) _ (table_checks chambers store ++ own) result.reply _ zero
        (in_map (refused chambers store) result (λ o. o.reply) (table_checks chambers store ++ own)) ne))

  -- any other reply than 10 hands on none
  pub job_none : ((r : Reply) → eqb r.number 10 ≡ false → common r ≡ Nothing) → (of_own.reply.number ≡ 10 → ⊥) → of_own.common ≡ Nothing
  job_none none ne = none left_by.reply (ne_eqb left_by.reply.number 10 ne)
