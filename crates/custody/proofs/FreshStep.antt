-- Fresh leaves every chamber whole: its one free section is the chamber itself.
use Prim.Native.Nat.{ℕ, ◌<◌}
use mathlib.Core.Path.{◌≡◌, refl, sym, ap, ◌∙◌, subst}
use mathlib.Core.List.{List, [], ◌∷◌}
use native.Mathlib.Omega.{arith}
use borrow.Author.Tests.{not-false}
use lib.ListN.{get_or, get_or-map}
use Rattle.replies.specs.declared.reply.Reply.{Reply}
use Rattle.bin_section.specs.declared.section.BinSection.{BinSection}
use Rattle.bin_section.specs.declared.width_height_depth.WidthHeightDepth.{WidthHeightDepth}
use Rattle.bin_section.specs.Sides.{sides}
use Rattle.bin_section.specs.Section.{whole_section}
use Rattle.replies.specs.Replies.{Check, reply}
use Rattle.cells.specs.Whole.{Whole}
use Rattle.cells.proofs.Grid.{has_le, has_in}
use Rattle.lists.proofs.Totals.{total}
use Rattle.cells.proofs.Held.{whole_held}
use Rattle.cells.proofs.Insides.{inside_more, inside_none}
use Rattle.target_bin.specs.declared.chamber.TargetBin.{TargetBin}
use Rattle.target_bin.specs.Chambers.{bin, chamber_at, chamber_count, chambers_of}
use Rattle.target_bin.specs.Store.{free_at}
use Rattle.target_bin.specs.Checks.{check1, check2_fresh}
use Rattle.target_bin.specs.Outcome.{Outcome, outcome, refused}
use Rattle.target_bin.specs.Fresh.{fresh_table, fresh_store, fresh_of}
use Rattle.replies.proofs.Ladders.{AllPass, row_passes, past_all, no_fault}
use Rattle.bin_section.proofs.Ranges.{SidesInRange}
use Rattle.target_bin.proofs.Passing.{Lengths, lengths, ShapesSound, shapes_sound}
use Rattle.target_bin.proofs.Tables.{getd_chambers_of}
use Rattle.target_bin.proofs.Parts.{getd_free_of}
use Rattle.target_bin.proofs.Freshening.{whole_of}
use Rattle.target_bin.proofs.FreshModel.{whole_inside, fresh_count, fresh_at_lem, fresh_free, fresh_sound}
use Rattle.custody.specs.Ledger.{nothing}
use Rattle.custody.specs.Run.{hall_of, fresh_hall, SameChambers}
use Rattle.custody.proofs.Between.{Good}

module _ (whd : WidthHeightDepth) (ok : SidesInRange whd) where
  -- one section that is the whole chamber
  pub one_whole : Whole whd (whole_section whd ∷ [])
  unfolding total
  one_whole =
      (whole_held whd (whole_section whd ∷ [])).1
      (record {
        inside = inside_more whd (whole_section whd) [] (whole_inside whd ok) (inside_none whd);
        once = λ cx cy cz c.
            omega (
              arith,
              has_le (whole_section whd) cx cy cz,
              has_in (whole_section whd) cx cy cz
                  (record { along_X = (omega arith, omega (arith, c.in_X)); along_Y = (omega arith, omega (arith, c.in_Y)); along_Z = (omega arith, omega (arith, c.in_Z)) }),
            );
      })

module _ (chambers store : List ℕ) (done : (fresh_of chambers store).reply.number ≡ 0) where
  abbrev row : List (Check Reply)
  row = check1 chambers store ∷ check2_fresh chambers ∷ []

  abbrev out : Outcome
  out = outcome (reply 0 0) (fresh_table chambers) (fresh_store chambers)

  all : AllPass row
  unfolding fresh_of
  all = row_passes (λ o. o.reply.number) (refused chambers store) out row (fresh_of chambers store) refl refl done

  fresh_out : fresh_of chambers store ≡ out
  unfolding fresh_of
  fresh_out = past_all _ _ row all

  facts : Lengths chambers store × ShapesSound chambers
  facts = (lengths chambers store (not-false _ all.0), shapes_sound chambers (no_fault _ _ all.1.0))

  fresh-free_at : (k : ℕ) → k < chamber_count chambers → free_at (fresh_table chambers) (fresh_store chambers) k ≡ whole_of (chamber_at chambers k)
  fresh-free_at k h =
      let d : TargetBin = bin 0 (sides 0 0 0) 0 in
      sym (getd_free_of (fresh_table chambers) (fresh_store chambers) k (whole_of d) (omega (arith, fresh_count chambers)))
      ∙ ap (λ (l : List (List BinSection)). get_or l k (whole_of d)) (fresh_free chambers)
      ∙ get_or-map (λ b. whole_of b) (chambers_of chambers) k d
      ∙ ap (λ (b : TargetBin). whole_of b) (getd_chambers_of chambers k d h)

  fresh_whole : (k : ℕ) → k < chamber_count (fresh_table chambers) → Whole (chamber_at (fresh_table chambers) k).whd (free_at (fresh_table chambers) (fresh_store chambers) k)
  fresh_whole k h =
      let l : k < chamber_count chambers = omega (arith, fresh_count chambers) in
      rw (fresh_at_lem chambers k l, fresh-free_at k l) (one_whole (chamber_at chambers k).whd (facts.1.sides k l))

  pub fresh_good : Good (fresh_hall chambers store)
  fresh_good =
      subst (λ (o : Outcome). Good (hall_of o.chambers o.store nothing)) (sym fresh_out)
      (record { sound_tables = fresh_sound chambers store facts.0 facts.1; whole = fresh_whole })

  pub fresh_same : SameChambers chambers (fresh_of chambers store).chambers
  fresh_same =
      subst (λ (o : Outcome). SameChambers chambers o.chambers) (sym fresh_out)
      (record {
        many = fresh_count chambers;
        ids = λ k h. ap (λ (b : TargetBin). b.id) (fresh_at_lem chambers k h);
        sides = λ k h. ap (λ (b : TargetBin). b.whd) (fresh_at_lem chambers k h);
      })
