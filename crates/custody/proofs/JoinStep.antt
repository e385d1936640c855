-- A join leaves every chamber whole: the joined sections have the cells of those before, and nothing is placed or taken back.
use Prim.Native.Nat.{ℕ}
use mathlib.Core.Path.{◌≡◌, sym, refl, subst}
use mathlib.Core.List.{List, ◌++◌}
use native.Mathlib.Decide.{ℕ_discrete}
use native.Mathlib.Omega.{arith}
use Rattle.lists.proofs.Totals.{total_append}
use Rattle.bin_section.specs.declared.section.BinSection.{BinSection}
use Rattle.bin_section.specs.declared.width_height_depth.WidthHeightDepth.{WidthHeightDepth}
use Rattle.cells.specs.Whole.{Inside, Whole}
use Rattle.cells.proofs.Grid.{has}
use Rattle.cells.proofs.Held.{whole_same}
use Rattle.cells.proofs.Insides.{each_inside, inside_each, inside_first, inside_second, inside_both}
use Rattle.neighbours.specs.Joining.{join_all}
use Rattle.neighbours.proofs.Neighbouring.{has_adds, joined_inside}
use Rattle.neighbours.proofs.Afterwards.{total_all, each_all}
use Rattle.target_bin.specs.Chambers.{chamber_at, chamber_of}
use Rattle.target_bin.specs.Store.{free_at}
use Rattle.target_bin.specs.Outcome.{CommonOutcome}
use Rattle.joins.specs.Join.{join_of}
use Rattle.joins.proofs.Meaning.{Done, join_done_lem, join-refusal, join_changed, join_sound}
use Rattle.custody.specs.Run.{Hall, hall_of, joined_up, SameChambers}
use Rattle.custody.proofs.Between.{Good, same_chambers, changed_good, changed_same}

-- free sections joined, beside any placed boxes
joined_whole : (whd : WidthHeightDepth) (placed free : List BinSection) → Whole whd (placed ++ free) → Whole whd (placed ++ (join_all free).free)
joined_whole whd placed free w =
    let all = w.inside in
    whole_same whd (placed ++ free) (placed ++ (join_all free).free) w
    (inside_both whd placed (join_all free).free (inside_first whd placed free all)
    (each_inside whd (each_all (Inside whd) (joined_inside whd) free (inside_each whd free (inside_second whd placed free all)))))
    (λ cx cy cz h.
    omega (
      arith,
      total_append (λ b. has b cx cy cz) placed (join_all free).free,
      total_append (λ b. has b cx cy cz) placed free,
      total_all (λ b. has b cx cy cz) (has_adds cx cy cz) free,
    ))

module _ (f : Hall) (good : Good f) (id : ℕ) where
  abbrev c : List ℕ
  c = f.chambers

  abbrev s : List ℕ
  s = f.store

  abbrev o : CommonOutcome
  o = join_of c s id

  abbrev at : ℕ
  at = chamber_of c id

  abbrev joined : List BinSection
  joined = (join_all (free_at c s at)).free

  done_good : Done c s id → Good (joined_up f id)
  done_good d =
      changed_good f good o.chambers o.store at joined d.known (join_changed c s id d) (join_sound c s id d) f.ledger
      (joined_whole (chamber_at c at).whd (f.ledger (chamber_at c at).id) (free_at c s at) (good.whole at d.known)) (λ j ne. refl)

  -- a refused join leaves the tables as they were
  refused_good : (o.reply.number ≡ 0 → ⊥) → Good (joined_up f id)
  refused_good ne = subst (λ (p : CommonOutcome). Good (hall_of p.chambers p.store f.ledger)) (sym (join-refusal c s id ne)) good

  pub join_good : Good (joined_up f id)
  join_good = go (ℕ_discrete o.reply.number 0)
    where
      go : Dec (o.reply.number ≡ 0) → Good (joined_up f id)
      go (yes e) = done_good (join_done_lem c s id e)
      go (no ne) = refused_good ne

  pub join_same : SameChambers f.chambers (join_of f.chambers f.store id).chambers
  join_same = go (ℕ_discrete o.reply.number 0)
    where
      go : Dec (o.reply.number ≡ 0) → SameChambers f.chambers (join_of f.chambers f.store id).chambers
      go (yes e) = changed_same (join_changed c s id (join_done_lem c s id e))
      go (no ne) = subst (λ (p : CommonOutcome). SameChambers c p.chambers) (sym (join-refusal c s id ne)) (same_chambers c)
