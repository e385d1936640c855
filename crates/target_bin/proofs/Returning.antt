-- Laws of a return: those of a job on one chamber, with the checks of a return and with what an accepted one writes.
use Prim.Native.Nat.{ℕ, ◌+◌, ◌*◌, ◌-◌, ◌<◌}
use mathlib.Core.Path.{◌≡◌, refl, ap}
use mathlib.Core.List.{List}
use mathlib.Core.Bool.{false}
use native.Mathlib.Omega.{arith}
use borrow.Author.Tests.{eqb-false}
use lib.Dec.{eqb}
use borrow.Rule.Slice.PartMut.{put_mid}
use lib.ListN.{length, take, drop, set}
use Rattle.std.specs.Prelude.{Option, None}
use Rattle.std.specs.declared.ops.Range.{Range}
use Rattle.lists.specs.Tab.{put}
use Rattle.lists.proofs.Flags.{cond_no}
use Rattle.bin_section.specs.declared.section.BinSection.{BinSection}
use Rattle.bin_section.specs.Section.{section_words}
use Rattle.replies.specs.declared.reply.Reply.{Reply}
use Rattle.replies.specs.Replies.{Check, reply, refusal_reply, in_order}
use Rattle.replies.specs.declared.refusal.Refusal.{Refusal}
use Rattle.replies.proofs.Refusals.{refusal_number}
use Rattle.sections.specs.declared.common_reply.CommonRefusal.{CommonRefusal}
use Rattle.replies.proofs.Ladders.{AllPass, row_passes}
use Rattle.words.proofs.Putting.{put_in_part}
use Rattle.target_bin.specs.declared.chamber.TargetBin.{TargetBin}
use Rattle.target_bin.specs.Return.{push_checks, return_checks, stored, returned, return_outcome, return_common, return_of}
use Rattle.target_bin.specs.Chambers.{chamber_at, chamber_of}
use Rattle.target_bin.specs.Store.{part_at, part_range}
use Rattle.target_bin.specs.Leaning.{Known}
use Rattle.target_bin.proofs.Parts.{part_lent}
use Rattle.target_bin.specs.Checks.{known_checks}
use Rattle.target_bin.specs.Outcome.{Outcome, outcome, with_common}
use Rattle.target_bin.proofs.Jobs as job

module _ (chambers store : List ℕ) (id : ℕ) (box : BinSection) where
  abbrev row : TargetBin → List ℕ → List (Check Reply)
  row b part = push_checks b part box

  abbrev result : ℕ → TargetBin → List ℕ → Outcome
  result k b part = stored chambers store k b.count box

  abbrev common : TargetBin → List ℕ → Reply → Option BinSection
  common b part = return_common part box

  -- none but 10 has a common box
  pub no_common : (r : Reply) → eqb r.number 10 ≡ false → return_common (part_at store (chamber_of chambers id)) box r ≡ None
  unfolding return_common
  no_common r e = cond_no _ _ (eqb r.number 10) e

  pub return_unknown : (x : Refusal) → refusal_reply x ≡ in_order (known_checks chambers store id) (λ a. a) (reply 0 (chamber_of chambers id)) → with_common None (outcome (refusal_reply x) chambers store) ≡ return_of chambers store id box
  unfolding return_of return_outcome return_checks returned
  return_unknown x known = job.whole_unknown chambers store id row result common (refusal_reply x) known no_common (refusal_number x)

  module _ (k : ℕ) (known : reply 0 k ≡ in_order (known_checks chambers store id) (λ a. a) (reply 0 (chamber_of chambers id))) (at : Known chambers store id k)
      (b : TargetBin) (read : b ≡ chamber_at chambers k) (r : Range ℕ) (lent : r ≡ part_range k) where
    abbrev L : List ℕ
    L = take (r.end - r.start) (drop r.start store)

    abbrev P : List ℕ
    P = put L (b.count * 6) (section_words box)

    module _ (ys : List ℕ) (long : length ys ≡ length L) (left : ys ≡ in_order (push_checks b L box) (λ a. L) P) where
      pub return_refused : (x : CommonRefusal) → refusal_reply x.refusal ≡ in_order (push_checks b L box) (λ a. a) (reply 0 b.count) → x.common ≡ return_common L box (refusal_reply x.refusal) → with_common x.common (outcome (refusal_reply x.refusal) chambers (put_mid r.start (r.end - r.start) store ys)) ≡ return_of chambers store id box
      unfolding return_of return_outcome return_checks returned
      return_refused x replied shown =
          job.whole_refused chambers store id row result common (reply 0 k) known k refl at b read r lent ys P (refusal_reply x.refusal) (reply 0 b.count) refl long replied left x.common shown
          (refusal_number x.refusal)

      module _ (i : ℕ) (replied : reply 0 i ≡ in_order (push_checks b L box) (λ a. a) (reply 0 b.count)) where
        passed : AllPass (push_checks b L box)
        unfolding push_checks
        passed = row_passes (λ x. x.number) (λ a. a) (reply 0 b.count) (push_checks b L box) (reply 0 i) refl replied refl

        -- an accepted return found room
        room : b.count < 128
        unfolding push_checks
        room = let full : b.count ≡ 128 → ⊥ = eqb-false b.count 128 passed.1.1.0 in omega (arith, at.few, ap (λ (x : TargetBin). x.count) read)

        pub return_accepted : (after : List ℕ) → after ≡ set chambers (k * 5 + 4) (b.count + 1) → with_common None (outcome (reply 0 i) after (put_mid r.start (r.end - r.start) store ys)) ≡ return_of chambers store id box
        unfolding return_of return_outcome return_checks return_common returned part_at
        return_accepted after counted =
            job.whole_accepted chambers store id row result common (reply 0 k) known k refl at b read r lent ys P (reply 0 i) (reply 0 b.count) refl long replied left None refl after passed
            (rw (counted, part_lent r k lent store, put_in_part store (k * 768) 768 (omega (arith, at.part_in)) (b.count * 6) (section_words box) (omega (arith, room))))
