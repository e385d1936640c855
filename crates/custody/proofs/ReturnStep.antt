-- A return leaves every chamber whole: an accepted box moves from the placed ones to the free ones, a refused one changes nothing.
use Prim.Native.Nat.{ℕ, ◌+◌}
use mathlib.Core.Path.{◌≡◌, refl, sym, ◌∙◌, subst}
use mathlib.Core.List.{List, [], ◌∷◌, ◌++◌}
use mathlib.Core.Bool.{◌&&◌}
use native.Mathlib.Decide.{ℕ_discrete}
use native.Mathlib.Omega.{arith}
use borrow.Author.Tests.{eq-eqb, ne_eqb}
use lib.Dec.{eqb}
use Rattle.lists.specs.Sort.{Each, also}
use Rattle.lists.proofs.Flags.{cond_yes, cond_no, and_both, and_no_first, and_no_second}
use Rattle.bin_section.specs.declared.section.BinSection.{BinSection}
use Rattle.bin_section.specs.declared.width_height_depth.WidthHeightDepth.{WidthHeightDepth}
use Rattle.cells.specs.Whole.{Inside, Whole}
use Rattle.cells.proofs.Grid.{has}
use Rattle.cells.proofs.Held.{whole_same}
use Rattle.cells.proofs.Insides.{each_inside, inside_each, inside_first, inside_second, inside_both, inside_more, inside_none}
use Rattle.target_bin.specs.Chambers.{chamber_at, chamber_of}
use Rattle.target_bin.specs.Store.{free_at}
use Rattle.target_bin.specs.Outcome.{outcome, CommonOutcome, with_common}
use Rattle.target_bin.specs.Return.{return_of}
use Rattle.target_bin.proofs.ReturnModel.{Accepted, return_done, return-refusal, return_changed, return_sound}
use Rattle.custody.specs.Ledger.{In, first, later, taken_out, after_return}
use Rattle.custody.specs.Run.{Hall, hall_of, taken_back, SameChambers}
use Rattle.lists.proofs.Totals.{total, total_append}
use Rattle.custody.proofs.Totals.{strays, none_strays, all_inside}
use Rattle.custody.proofs.Ledgers.{taken_total}
use Rattle.custody.proofs.Between.{Good, good_ledger, same_chambers, changed_good, changed_same}

-- what holds of each box of a list holds of a box that stands in it
in_list : (whd : WidthHeightDepth) (box : BinSection) {boxes : List BinSection} → In box boxes → Each (Inside whd) boxes → Inside whd box
in_list whd box first (also p ps) = p
in_list whd box (later q) (also p ps) = in_list whd box q ps

module _ (f : Hall) (good : Good f) (id : ℕ) (box : BinSection) (there : (return_of f.chambers f.store id box).reply.number ≡ 0 → In box (f.ledger id)) where
  abbrev c : List ℕ
  c = f.chambers

  abbrev s : List ℕ
  s = f.store

  abbrev o : CommonOutcome
  o = return_of c s id box

  abbrev at : ℕ
  at = chamber_of c id

  module _ (a : Accepted c s id box) (zero-reply : o.reply.number ≡ 0) where
    -- the box moves from the placed ones to the free ones
    moved_whole : (whd : WidthHeightDepth) (placed free : List BinSection) → In box placed → Whole whd (placed ++ free) → Whole whd (taken_out box placed ++ (free ++ (box ∷ [])))
    unfolding total
    moved_whole whd placed free p w =
        let all = w.inside in
        let none_out : total (strays whd) placed ≡ 0 = none_strays whd (inside_each whd placed (inside_first whd placed free all)) in
        let split : strays whd box + total (strays whd) (taken_out box placed) ≡ total (strays whd) placed = taken_total (strays whd) box p in
        let rest : Each (Inside whd) (taken_out box placed) = all_inside whd (taken_out box placed) (omega arith) in
        let mine : Inside whd box = in_list whd box p (inside_each whd placed (inside_first whd placed free all)) in
        whole_same whd (placed ++ free) (taken_out box placed ++ (free ++ (box ∷ []))) w
        (inside_both whd (taken_out box placed) (free ++ (box ∷ [])) (each_inside whd rest)
        (inside_both whd free (box ∷ []) (inside_second whd placed free all) (inside_more whd box [] mine (inside_none whd))))
        (λ cx cy cz h.
        omega (
          arith,
          total_append (λ b. has b cx cy cz) (taken_out box placed) (free ++ (box ∷ [])),
          total_append (λ b. has b cx cy cz) free (box ∷ []),
          total_append (λ b. has b cx cy cz) placed free,
          taken_total (λ b. has b cx cy cz) box p,
        ))

    ledger_here : (j : ℕ) → j ≡ id → after_return o.reply id box f.ledger j ≡ taken_out box (f.ledger j)
    unfolding after_return
    ledger_here j e =
        cond_yes (taken_out box (f.ledger j)) (f.ledger j) (eqb o.reply.number 0 && eqb id j)
        (and_both (eqb o.reply.number 0) (eqb id j) (eq-eqb _ _ zero-reply) (eq-eqb _ _ (sym e)))

    ledger_there : (j : ℕ) → (j ≡ id → ⊥) → after_return o.reply id box f.ledger j ≡ f.ledger j
    unfolding after_return
    ledger_there j ne =
        cond_no (taken_out box (f.ledger j)) (f.ledger j) (eqb o.reply.number 0 && eqb id j)
        (and_no_second (eqb o.reply.number 0) (eqb id j) (ne_eqb _ _ (λ e. ne (sym e))))

    whole_here : Whole (chamber_at c at).whd (after_return o.reply id box f.ledger (chamber_at c at).id ++ (free_at c s at ++ (box ∷ [])))
    whole_here =
        rw (a.named, ledger_here id refl)
        (moved_whole (chamber_at c at).whd (f.ledger id) (free_at c s at) (there zero-reply)
        (subst (λ (m : ℕ). Whole (chamber_at c at).whd (f.ledger m ++ free_at c s at)) a.named (good.whole at a.known)))

    accepted_good : Good (taken_back f id box)
    accepted_good =
        changed_good f good o.chambers o.store at (free_at c s at ++ (box ∷ [])) a.known (return_changed c s id box a)
        (return_sound c s id box a) (after_return o.reply id box f.ledger) whole_here
        (λ j ne. ledger_there j (λ e. ne (e ∙ sym a.named)))

    accepted_same : SameChambers c o.chambers
    accepted_same = changed_same (return_changed c s id box a)

  -- a refused return leaves tables and ledger as they were
  refused_ledger : (o.reply.number ≡ 0 → ⊥) → (j : ℕ) → after_return o.reply id box f.ledger j ≡ f.ledger j
  unfolding after_return
  refused_ledger ne j =
      cond_no (taken_out box (f.ledger j)) (f.ledger j) (eqb o.reply.number 0 && eqb id j)
      (and_no_first (eqb o.reply.number 0) (eqb id j) (ne_eqb _ _ ne))

  refused_good : (o.reply.number ≡ 0 → ⊥) → Good (taken_back f id box)
  refused_good ne =
      let same : o ≡ with_common o.common (outcome o.reply c s) = return-refusal c s id box ne in
      let g : Good (hall_of c s (after_return o.reply id box f.ledger)) =
      good_ledger c s f.ledger (after_return o.reply id box f.ledger) (refused_ledger ne) good in
      subst (λ (p : CommonOutcome). Good (hall_of p.chambers p.store (after_return o.reply id box f.ledger))) (sym same) g

  pub return_good : Good (taken_back f id box)
  return_good = go (ℕ_discrete o.reply.number 0)
    where
      go : Dec (o.reply.number ≡ 0) → Good (taken_back f id box)
      go (yes e) = accepted_good (return_done c s id box e) e
      go (no ne) = refused_good ne

  pub return_same : SameChambers f.chambers (return_of f.chambers f.store id box).chambers
  return_same = go (ℕ_discrete o.reply.number 0)
    where
      go : Dec (o.reply.number ≡ 0) → SameChambers f.chambers (return_of f.chambers f.store id box).chambers
      go (yes e) = accepted_same (return_done c s id box e) e
      go (no ne) = subst (λ (p : CommonOutcome). SameChambers c p.chambers) (sym (return-refusal c s id box ne)) (same_chambers c)
