-- Laws of checks 1, 2, 3 and 8: what the code that makes them answers, and what it leans on once they have passed.
use Prim.Native.Nat.{ℕ}
use mathlib.Core.Path.{◌≡◌, refl, sym, ap, ◌∙◌}
use mathlib.Core.List.{List, [], ◌∷◌}
use mathlib.Core.Bool.{not}
use native.Mathlib.Omega.{arith}
use Rattle.std.specs.Prelude.{Option, Some, is_some, IfOk}
use Rattle.std.specs.Prelude.{None as Nothing}
use Rattle.std.specs.Option.{ok_or}
use Rattle.lists.specs.Lowest.{lowest_index}
use Rattle.lists.proofs.LowestIndex.{index_any, index_some}
use Rattle.replies.specs.declared.refusal.Refusal.{Refusal}
use Rattle.replies.specs.declared.reply.Reply.{Reply}
use Rattle.replies.specs.declared.refusal.Refusal.TheVariants.{NoChamber}
use Rattle.replies.specs.Replies.{reply, refusal_reply, detailed_reply, in_order}
use Rattle.replies.proofs.Ladders.{fires, past, past_all, row_passes, row_fires}
use Rattle.replies.proofs.Refusals.{refusal_number}
use Rattle.target_bin.specs.Chambers.{chamber_count, has_id, chamber_of}
use Rattle.target_bin.specs.Checks.{table_checks, check8, known_checks}
use Rattle.target_bin.specs.Leaning.{Known}
use Rattle.target_bin.proofs.Passing.{Sound, sound_tables, tables_sound}

module _ (chambers store : List ℕ) (id : ℕ) where
  pub known_refused : (x : Refusal) → refusal_reply x ≡ in_order (table_checks chambers store) (λ a. a) (reply 0 0) → refusal_reply x ≡ in_order (known_checks chambers store id) (λ a. a) (reply 0 (chamber_of chambers id))
  known_refused x e = row_fires (λ r. r.number) (λ a. a) _ (table_checks chambers store) (check8 chambers id ∷ []) (reply 0 0) _ refl e (refusal_number x)

  module _ (tables : reply 0 0 ≡ in_order (table_checks chambers store) (λ a. a) (reply 0 0)) where
    past3 : in_order (known_checks chambers store id) (λ a. a) (reply 0 (chamber_of chambers id)) ≡ in_order (check8 chambers id ∷ []) (λ a. a) (reply 0 (chamber_of chambers id))
    past3 = past _ _ (table_checks chambers store) _ (row_passes (λ r. r.number) (λ a. a) (reply 0 0) (table_checks chambers store) _ refl tables refl)

    pub known_answer : (r : Option ℕ) → r ≡ lowest_index (chamber_count chambers) (has_id chambers id) → detailed_reply (ok_or r NoChamber) ≡ in_order (known_checks chambers store id) (λ a. a) (reply 0 (chamber_of chambers id))
    unfolding chamber_of
    known_answer Nothing e =
        sym (past3 ∙ fires _ _ _ _ (ap not (sym (index_any (chamber_count chambers) (has_id chambers id)) ∙ ap is_some (sym e))))
    known_answer (Some k) e =
        ap (reply 0) (sym (index_some _ k _ (sym e)).0)
        ∙ sym (past3 ∙ past_all _ _ (check8 chambers id ∷ []) (ap not (sym (index_any (chamber_count chambers) (has_id chambers id)) ∙ ap is_some (sym e)), tt))

    pub known_lem : (r : Option ℕ) → r ≡ lowest_index (chamber_count chambers) (has_id chambers id) → IfOk (ok_or r NoChamber) (Known chambers store id)
    unfolding chamber_of
    known_lem Nothing e = tt
    known_lem (Some k) e =
        let found = index_some (chamber_count chambers) k (has_id chambers id) (sym e) in
        let s = (sound_tables chambers store (reply 0 0) tables refl).shaped in
        record {
          here = sym found.0;
          low = found.1;
          record_in = omega arith;
          part_in = omega arith;
          few = s.counted.counts k found.1;
        }

  -- past them the tables are sound
  pub known_sound : (t : Reply) → t ≡ in_order (known_checks chambers store id) (λ a. a) (reply 0 (chamber_of chambers id)) → t.number ≡ 0 → Sound chambers store
  known_sound t e z =
      let p = row_passes (λ r. r.number) (λ a. a) (reply 0 (chamber_of chambers id)) (known_checks chambers store id) t refl e z in
      tables_sound chambers store (p.0, (p.1.0, (p.1.1.0, tt)))
