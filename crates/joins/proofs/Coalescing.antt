-- Laws of a join: those of a job on one chamber, with check 10 and with what is left when all that join are joined.
use Prim.Native.Nat.{ℕ, ◌+◌, ◌*◌, ◌-◌, ◌≤◌, ◌<◌}
use mathlib.Core.Path.{◌≡◌, refl, sym, ap, ap₂, ◌∙◌}
use mathlib.Core.List.{List}
use mathlib.Core.Bool.{false}
use native.Mathlib.Omega.{arith}
use lib.Dec.{eqb}
use borrow.Rule.Slice.PartMut.{put_mid}
use lib.ListN.{length, take, drop, set}
use Rattle.std.specs.Prelude.{Option}
use Rattle.std.specs.Prelude.{None as Nothing}
use Rattle.std.specs.declared.ops.Range.{Range}
use Rattle.lists.specs.Lowest.{lowest_index}
use Rattle.lists.proofs.Flags.{cond_no}
use Rattle.lists.proofs.Sorts.{each-tab}
use Rattle.bin_section.specs.declared.section.BinSection.{BinSection}
use Rattle.bin_section.specs.Section.{section_at, zero_section}
use Rattle.replies.specs.declared.reply.Reply.{Reply}
use Rattle.replies.specs.Replies.{Check, reply, refusal_reply, in_order}
use Rattle.replies.specs.declared.refusal.Refusal.{Refusal}
use Rattle.replies.proofs.Refusals.{refusal_number}
use Rattle.sections.specs.declared.common_reply.CommonRefusal.{CommonRefusal}
use Rattle.replies.proofs.Ladders.{AllPass, row_passes, past_all}
use Rattle.sections.specs.Sections.{sections}
use Rattle.sections.specs.Inside.{shares_earlier}
use Rattle.sections.specs.Common.{first_common, earliest_common}
use Rattle.sections.specs.Leaning.{Cleared}
use Rattle.sections.proofs.Reading.{length-sections, getd_sections, take-sections}
use Rattle.neighbours.specs.Joining.{join_all}
use Rattle.neighbours.specs.Leaning.{AllEnd}
use Rattle.neighbours.proofs.Steps.{all_count}
use Rattle.target_bin.specs.declared.chamber.TargetBin.{TargetBin}
use Rattle.target_bin.specs.Chambers.{chamber_at, chamber_count, chamber_of}
use Rattle.target_bin.specs.Store.{part_at, part_range, free_at, part_of}
use Rattle.target_bin.specs.Leaning.{Known, Shaped}
use Rattle.target_bin.proofs.Knowing.{known_sound}
use Rattle.target_bin.proofs.Parts.{part_lent}
use Rattle.target_bin.proofs.Passing.{Sound}
use Rattle.target_bin.specs.Checks.{known_checks}
use Rattle.target_bin.specs.Outcome.{Outcome, outcome, with_common}
use Rattle.target_bin.proofs.Jobs as job
use Rattle.joins.specs.Join.{share_checks, join_checks, joined_in, join_done, join_outcome, join_common, join_of}

-- what the code leans on once checks 1 to 3 have passed
pub record Bounded (chambers store : List ℕ) : Type 0 where
  pub shaped : Shaped chambers store
  pub ends : (k : ℕ) → k < chamber_count chambers → AllEnd (part_at store k) (chamber_at chambers k).count

-- then no end is above the largest word: each section lies inside its chamber
pub bounded : (chambers store : List ℕ) → Sound chambers store → Bounded chambers store
unfolding sections
bounded chambers store s =
    record {
      shaped = s.shaped;
      ends = λ k h.
          each-tab (chamber_at chambers k).count (section_at (part_at store k))
          (λ j l.
          let i = s.all_in.inside k j h l in
          let r = s.shapes_ok.sides k h in
          omega arith);
    }

-- so of the chamber that has the id, whose part is lent
pub ends :
    (chambers store : List ℕ) (id k : ℕ)
    → reply 0 k ≡ in_order (known_checks chambers store id) (λ a. a) (reply 0 (chamber_of chambers id))
    → Known chambers store id k
    → (b : TargetBin) → b ≡ chamber_at chambers k → (r : Range ℕ) → r ≡ part_range k → AllEnd (take (r.end - r.start) (drop r.start store)) b.count
ends chambers store id k known at b read r lent =
    rw (read, part_lent r k lent store) ((bounded chambers store (known_sound chambers store id (reply 0 k) known refl)).ends k at.low)

-- ---- the part

module _ (part : List ℕ) (n : ℕ) where
  abbrev S : List BinSection
  S = sections part n

  -- check 10, as the search through the words comes to it
  pub searched : (r : Option ℕ) → r ≡ lowest_index n (shares_earlier S) → r ≡ lowest_index (length S) (shares_earlier S)
  searched r found = rw (length-sections part n) found

  -- the common box of the first section that shares a cell with an earlier one
  pub common_found : (j : ℕ) (s : BinSection) (c : Option BinSection) → j < n → s ≡ section_at part j → c ≡ first_common s (sections part j) → c ≡ earliest_common S j
  unfolding earliest_common
  common_found j s c h read e =
      e ∙ ap₂ first_common (read ∙ sym (getd_sections part n j zero_section h)) (sym (take-sections part n j (omega arith)))

  -- the words afterwards: the free sections, and zeros
  pub part_left : (v u : List ℕ) (left : ℕ) → length part ≡ 768 → length v ≡ length part → sections v left ≡ (join_all S).free → left + (join_all S).joins ≡ n → Cleared left v u → u ≡ part_of (join_all S).free
  unfolding part_of
  part_left v u left long kept free count cleared =
      let many : length (join_all S).free ≡ left = omega (arith, all_count S, length-sections part n) in
      let rest : length v - left * 6 ≡ 768 - length (join_all S).free * 6 = omega arith in
      cleared.words ∙ rw (free, rest)

  -- as many as are no more there
  pub joins_left : (left : ℕ) → left + (join_all S).joins ≡ n → reply 0 (n - left) ≡ reply 0 (join_all S).joins
  joins_left left e = ap (reply 0) (omega arith)

  -- an answer of 0 says how many were joined
  module _ (j : ℕ) (replied : reply 0 j ≡ in_order (share_checks S) (λ a. a) (reply 0 (join_all S).joins)) where
    pub passed : AllPass (share_checks S)
    unfolding share_checks
    passed = row_passes (λ r. r.number) (λ a. a) (reply 0 (join_all S).joins) (share_checks S) (reply 0 j) refl replied refl

    -- each join takes one section away
    pub few : length (join_all S).free + j ≡ n
    few = omega (arith, ap (λ (r : Reply). r.detail) (replied ∙ past_all (λ a. a) _ (share_checks S) passed), all_count S, length-sections part n)

    pub join_few : j ≤ n
    join_few = omega (arith, few)

-- ---- one chamber

module _ (chambers store : List ℕ) (id : ℕ) where
  abbrev row : TargetBin → List ℕ → List (Check Reply)
  row b part = share_checks (sections part b.count)

  abbrev result : ℕ → TargetBin → List ℕ → Outcome
  result k b part = joined_in chambers store k (join_all (sections part b.count))

  abbrev common : TargetBin → List ℕ → Reply → Option BinSection
  common b part = join_common (sections part b.count)

  -- none but 10 has a common box
  pub no_common : (r : Reply) → eqb r.number 10 ≡ false → join_common (free_at chambers store (chamber_of chambers id)) r ≡ Nothing
  unfolding join_common
  no_common r e = cond_no (earliest_common (free_at chambers store (chamber_of chambers id)) r.detail) Nothing (eqb r.number 10) e

  pub join_unknown : (x : Refusal) → refusal_reply x ≡ in_order (known_checks chambers store id) (λ a. a) (reply 0 (chamber_of chambers id)) → with_common Nothing (outcome (refusal_reply x) chambers store) ≡ join_of chambers store id
  unfolding join_of join_outcome join_checks join_done free_at
  join_unknown x known = job.whole_unknown chambers store id row result common (refusal_reply x) known no_common (refusal_number x)

  module _ (k : ℕ) (known : reply 0 k ≡ in_order (known_checks chambers store id) (λ a. a) (reply 0 (chamber_of chambers id))) (at : Known chambers store id k)
      (b : TargetBin) (read : b ≡ chamber_at chambers k) (r : Range ℕ) (lent : r ≡ part_range k) where
    abbrev L : List ℕ
    L = take (r.end - r.start) (drop r.start store)

    abbrev F : List BinSection
    F = sections L b.count

    module _ (ys : List ℕ) (long : length ys ≡ length L) (left : ys ≡ in_order (share_checks F) (λ a. L) (part_of (join_all F).free)) where
      pub join_refused : (x : CommonRefusal) → refusal_reply x.refusal ≡ in_order (share_checks F) (λ a. a) (reply 0 (join_all F).joins) → x.common ≡ join_common F (refusal_reply x.refusal) → with_common x.common (outcome (refusal_reply x.refusal) chambers (put_mid r.start (r.end - r.start) store ys)) ≡ join_of chambers store id
      unfolding join_of join_outcome join_checks join_done free_at
      join_refused x replied shown =
          job.whole_refused chambers store id row result common (reply 0 k) known k refl at b read r lent ys (part_of (join_all F).free) (refusal_reply x.refusal) (reply 0 (join_all F).joins) refl long replied left x.common shown
          (refusal_number x.refusal)

      pub join_accepted : (j : ℕ) → reply 0 j ≡ in_order (share_checks F) (λ a. a) (reply 0 (join_all F).joins) → (after : List ℕ) → after ≡ set chambers (k * 5 + 4) (b.count - j) → with_common Nothing (outcome (reply 0 j) after (put_mid r.start (r.end - r.start) store ys)) ≡ join_of chambers store id
      unfolding join_of join_outcome join_checks join_common join_done free_at
      join_accepted j replied after counted =
          let many : b.count - j ≡ length (join_all F).free = omega (arith, few L b.count j replied) in
          job.whole_accepted chambers store id row result common (reply 0 k) known k refl at b read r lent ys (part_of (join_all F).free) (reply 0 j) (reply 0 (join_all F).joins) refl long replied left Nothing refl after
          (passed L b.count j replied) (rw (counted, many))
