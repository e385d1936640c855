-- The refused group, and an ungrouped rectangle: what a planner may rely on.
use Prim.Native.Nat.{ℕ, ◌<◌}
use mathlib.Core.Path.{◌≡◌, refl, sym, ap, ◌∙◌}
use mathlib.Core.Logic.{◌⊎◌, inl, inr, ⊎_elim, ◌↔◌}
use mathlib.Core.List.{List, [], ◌∷◌, ◌++◌}
use mathlib.Core.Bool.{true}
use native.Mathlib.Omega.{arith}
use lib.ListN.{length, get_or}
use Rattle.lists.proofs.Flags.{true_false, false_of}
use Rattle.lists.proofs.Sorts.{each_head, each_second}
use Rattle.bin_section.specs.declared.section.BinSection.{BinSection}
use Rattle.bin_section.specs.Section.{zero_section}
use Rattle.replies.specs.declared.reply.Reply.{Reply}
use Rattle.replies.specs.Replies.{reply}
use Rattle.try_place.specs.Try.{Fits}
use Rattle.target_bin.specs.Chambers.{chamber_at}
use Rattle.grouped_rects_to_place.specs.declared.rect_to_place.RectToPlace.{RectToPlace}
use Rattle.grouped_rects_to_place.specs.Rect.{rect_at, rect_count}
use Rattle.grouped_rects_to_place.specs.Groups.{groups_of}
use Rattle.grouped_rects_to_place.proofs.Sizes.{Group, groups_each, ungrouped_alone}
use Rattle.packing_rules.specs.Order.{trial_order}
use Rattle.packing_rules.specs.Rules.{nowhere, placed, place_one, after_one, place_all, place_group, is_whole}
use Rattle.packing_rules.specs.Packing.{rect_of, rects_at, trial_in, State, Ended, ended, pack_groups, start, packing}
use Rattle.packing_rules.specs.Promises.{NoSectionFits, NoneServes, RefusedAt}
use Rattle.packing_rules.proofs.Placings.{placed_at, nowhere_at}
use Rattle.packing_rules.proofs.Turns.{turn_served, turn_refused, no_turn, by_turns}

-- ---- the refused group

module _ (order : List ℕ) (ids : ℕ → ℕ) (r : ℕ → RectToPlace) where
  abbrev DoneOrRefused : List (List ℕ) → State → Ended → Type 0
  DoneOrRefused groups s e =
      (e.reply ≡ reply 0 0)
      ⊎ ((earlier : List (List ℕ)) × (refused : List ℕ) × (later : List (List ℕ)) × RefusedAt order ids r groups s e earlier refused later)

  -- every group is placed and the answer is 0, or one is refused: those before it were all placed and stay as they were placed
  done_or_refused : (groups : List (List ℕ)) (s : State) → DoneOrRefused groups s (pack_groups order ids r groups s)
  done_or_refused =
      by_turns order ids r DoneOrRefused
      (λ s. inl refl)
      (λ g gs s p. inr ([], g, gs, record { among = refl; stay = no_turn order ids r s; seven = refl; none_serves = p }))
      (λ g gs s t ls free p e.
      ⊎_elim inl
      (λ q. inr (
        g ∷ q.0,
        q.1,
        q.2,
        record {
          among = ap (λ (l : List (List ℕ)). g ∷ l) q.3.among;
          stay = turn_served order ids r g q.0 s t ls free p e ∙ q.3.stay;
          seven = q.3.seven;
          none_serves = q.3.none_serves;
        },
      )))

  -- the groups hs follow gs, which are all placed
  packed_then :
      (hs gs : List (List ℕ)) (s : State)
      → (pack_groups order ids r gs s).reply ≡ reply 0 0
      → pack_groups order ids r (gs ++ hs) s ≡ pack_groups order ids r hs (pack_groups order ids r gs s).after
  packed_then hs =
      by_turns order ids r (λ gs s e. e.reply ≡ reply 0 0 → pack_groups order ids r (gs ++ hs) s ≡ pack_groups order ids r hs e.after)
      (λ s a. refl)
      (λ g gs s p a. let z : ◌≡◌ {A = ℕ} 7 0 = ap (λ (x : Reply). x.number) a in absurd (omega arith))
      (λ g gs s t ls free p e rest a.
      turn_served order ids r g (gs ++ hs) s t ls free p e ∙ rest a)

  -- the other way round: a group that none serves once those before it are placed ends the packing, and they stay as they were placed
  pub earlier_stay :
      (gs hs : List (List ℕ)) (g : List ℕ) (s : State)
      → (pack_groups order ids r gs s).reply ≡ reply 0 0
      → NoneServes order (rects_at r g) (pack_groups order ids r gs s).after.frees
      → pack_groups order ids r (gs ++ (g ∷ hs)) s ≡ ended (reply 7 (get_or g 0 0)) (pack_groups order ids r gs s).after
  earlier_stay gs hs g s e p = packed_then (g ∷ hs) gs s e ∙ turn_refused order ids r g hs (pack_groups order ids r gs s).after p

-- of the groups of a table: at 7 the detail is the first index of the refused group, which is one of them
pub refused_first :
    (chambers store rects : List ℕ)
    → ((packing chambers store rects).reply ≡ reply 0 0)
    ⊎ ((earlier : List (List ℕ))
    × (refused : List ℕ)
    × (later : List (List ℕ))
    × (lead : ℕ)
    × RefusedAt (trial_order chambers) (λ k. (chamber_at chambers k).id) (rect_at rects) (groups_of (rect_count rects) (rect_at rects))
    (start chambers store rects) (packing chambers store rects) earlier refused later
    × Group (rect_count rects) (rect_at rects) refused lead
    × ((packing chambers store rects).reply ≡ reply 7 lead))
unfolding packing
refused_first chambers store rects =
    ⊎_elim inl
    (λ q.
    let g = each_head (each_second q.0 (q.1 ∷ q.2) (rw q.3.among at (groups_each (rect_count rects) (rect_at rects)))) in
    inr (q.0, q.1, q.2, g.0, q.3, g.1, q.3.seven ∙ ap (λ (d : ℕ). reply 7 d) g.1.first))
    (done_or_refused (trial_order chambers) (λ k. (chamber_at chambers k).id) (rect_at rects) (groups_of (rect_count rects) (rect_at rects)) (start chambers store rects))

-- ---- an ungrouped rectangle

module _ (r : ℕ → RectToPlace) (i : ℕ) where
  -- it goes into a chamber exactly when a free section there fits it
  alone_whole :
      (frees : List (List BinSection)) (k : ℕ)
      → (is_whole (trial_in (rects_at r (i ∷ [])) frees k) ≡ true)
      ↔ ((j : ℕ) × (j < length (get_or frees k [])) × Fits (get_or (get_or frees k []) j zero_section) (rect_of r i))
  unfolding trial_in rects_at place_group place_all
  alone_whole frees k =
      let free = get_or frees k [] in
      elim (place_one free (rect_of r i)) as (λ o. place_one free (rect_of r i) ≡ o → (is_whole (after_one [] free o) ≡ true) ↔ ((j : ℕ) × (j < length free) × Fits (get_or free j zero_section) (rect_of r i))) [
        | nowhere ↦ λ e. (λ t. absurd (true_false (sym t)), λ f. absurd ((nowhere_at free (rect_of r i) e).at f.0 f.1 f.2))
        | placed l free' ↦ λ e. let p = placed_at free (rect_of r i) l free' e in (λ t. (p.0, p.1.within, p.1.fits), λ f. refl)
      ]
      refl

  -- "7 at its turn exactly when no free section of any chamber fits it"
  alone_refused : (order : List ℕ) (frees : List (List BinSection)) → NoneServes order (rects_at r (i ∷ [])) frees ↔ NoSectionFits order (rect_of r i) frees
  alone_refused order frees = (
    λ p. record { at = λ t j h l f. true_false (sym ((alone_whole frees (get_or order t 0)).1 (j, l, f)) ∙ p.at t h) },
    λ p. record { at = λ t h. false_of _ (λ e. let f = (alone_whole frees (get_or order t 0)).0 e in p.at t f.0 h f.1 f.2) },
  )

-- so it is of the ungrouped rectangles of a table
pub ungrouped-refused :
    (n : ℕ) (r : ℕ → RectToPlace) (g : List ℕ) (lead : ℕ) (order : List ℕ) (frees : List (List BinSection))
    → Group n r g lead
    → (r lead).group ≡ 0
    → NoneServes order (rects_at r g) frees ↔ NoSectionFits order (rect_of r lead) frees
ungrouped-refused n r g lead order frees p z =
    rw (p.is ∙ ungrouped_alone n r lead p.lead_below z) (alone_refused r lead order frees)
