-- The packing from tables that passed the checks, and pack as a whole.
use Prim.Native.Nat.{ℕ, ◌*◌}
use mathlib.Core.Path.{◌≡◌, refl, sym, ap, ◌∙◌}
use mathlib.Core.List.{List}
use lib.ListN.{length, replicate}
use Rattle.replies.specs.declared.reply.Reply.{Reply}
use Rattle.replies.specs.Replies.{reply, in_order}
use Rattle.replies.proofs.Ladders.{AllPass, row_passes, alone_fires, past_all}
use Rattle.grouped_rects_to_place.specs.Rect.{rect_at, rect_count}
use Rattle.packing_rules.specs.Packing.{start, packing}
use Rattle.rectangle_pack.specs.Pack.{rect_checks, pack_checks, PackOutcome, pack_outcome, written, pack_of}
use Rattle.placement.specs.Placements.{placement_width}
use Rattle.packing_rules.specs.Seats.{unplaced}
use Rattle.rectangle_pack.specs.Leaning.{Tidied, GroupsPacked}
use Rattle.rectangle_pack.proofs.Running.{all_written}
use Rattle.rectangle_pack.proofs.Tables.{zero_placements}

-- the groups are packed, and zeros are set past each count
pub packing_done :
    (c st rects p p₁ : List ℕ) (a : Reply) (c' st' p' st'' : List ℕ)
    → length p ≡ rect_count rects * placement_width
    → p₁ ≡ replicate (length p) 0
    → GroupsPacked (rect_at rects) (rect_count rects) a c st p₁ c' st' p'
    → Tidied c' st' st''
    → pack_outcome a c' st'' p' ≡ written c (packing c st rects)
unfolding packing start
packing_done c st rects p p₁ a c' st' p' st'' long zeros done tidy =
    all_written _ c a c' st' p' st'' done.same done.shaped
    (done.packed (replicate (rect_count rects) unplaced) (zeros ∙ ap (λ (n : ℕ). replicate n 0) long ∙ zero_placements (rect_count rects))) tidy

module _ (c st rects p : List ℕ) (r : Reply) (e : r ≡ in_order (pack_checks c st rects p) (λ a. a) (reply 0 0)) where
  -- a check fires
  pub pack-refused : (r.number ≡ 0 → ⊥) → pack_outcome r c st p ≡ pack_of c st rects p
  unfolding pack_of
  pack-refused n = alone_fires (λ x. x.number) (λ x. pack_outcome x c st p) _ (pack_checks c st rects p) (reply 0 0) r refl e n

  -- none does
  pub all_pass : r.number ≡ 0 → AllPass (pack_checks c st rects p)
  unfolding pack_checks rect_checks
  all_pass z = row_passes (λ x. x.number) (λ a. a) (reply 0 0) (pack_checks c st rects p) r refl e z

pub pack_done : (c st rects p : List ℕ) (o : PackOutcome) → AllPass (pack_checks c st rects p) → o ≡ written c (packing c st rects) → o ≡ pack_of c st rects p
unfolding pack_of
pack_done c st rects p o all f = f ∙ sym (past_all _ _ (pack_checks c st rects p) all)
