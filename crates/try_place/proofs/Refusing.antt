-- Laws of the answer to a try: what a location says, that the try is one row of checks, and that no refusal has a detail.
use mathlib.Core.Path.{◌≡◌, refl, sym, ap, ◌∙◌}
use mathlib.Core.Bool.{Bool, true, false, not, cond}
use mathlib.Core.List.{List, [], ◌∷◌, map}
use borrow.Author.Tests.{le-ltb, ltb-false}
use Rattle.std.proofs.Common.{Result, Ok, Err, MatchResult, is_ok}
use Rattle.replies.specs.Replies.{Check, in_order, reply}
use Rattle.replies.proofs.Ladders.{AllPass, past_all, in_map}
use Rattle.replies.specs.declared.refusal.Refusal.{Refusal}
use Rattle.replies.specs.declared.refusal.Refusal.TheVariants.{BadSection, BadRectangle}
use Rattle.bin_section.specs.declared.rect_to_insert.RectToInsert.{RectToInsert}
use Rattle.bin_section.specs.declared.section.BinSection.{BinSection}
use Rattle.bin_section.specs.Sides.{sides_ok}
use Rattle.try_place.specs.declared.fitting.BinSectionError.{BinSectionError}
use Rattle.try_place.specs.declared.fitting.BinSectionError.TheVariants.{PlacementWiderThanBinSection, PlacementTallerThanBinSection, PlacementDeeperThanBinSection}
use Rattle.try_place.specs.declared.packed_location.PackedLocation.{PackedLocation}
use Rattle.try_place.specs.Location.{location_in}
use Rattle.try_place.specs.Try.{section_ok, Fits, fit_checks, fit_of, refused_fit, range_checks, refused_check, try_checks, try_answer, sections_of, try_of, refused_of, placed_of, reply_of, number_of, on_placed}

-- what is done passed every check
pub done_passes : {A E : Type 0} (cs : List (Check E)) (d : Result A E) (x : A) → in_order cs (λ e. Err e) d ≡ Ok x → AllPass cs × (d ≡ Ok x)
unfolding in_order
done_passes [] d x e = (tt, e)
done_passes {A} {E} (c ∷ cs) d x e = go (done_passes cs d x) c.fires refl e
  where
    go :
        (in_order cs (λ e. Err e) d ≡ Ok x → AllPass cs × (d ≡ Ok x))
        → (b : Bool)
        → c.fires ≡ b
        → cond b (Err c.answer) (in_order cs (λ e. Err e) d) ≡ Ok x
        → AllPass (c ∷ cs) × (d ≡ Ok x)
    go rest true p q = absurd (cc)
    go rest false p q = let h = rest q in ((p, h.0), h.1)

-- the fit's checks answer the same as checks of the try
refused_row : (cs : List (Check BinSectionError)) (l : PackedLocation) → in_order (map refused_check cs) (λ e. Err e) (Ok l) ≡ refused_fit (in_order cs (λ e. Err e) (Ok l))
unfolding in_order
refused_row [] l = refl
refused_row (c ∷ cs) l = go (refused_row cs l) c.fires
  where
    go :
        in_order (map refused_check cs) (λ e. Err e) (Ok l) ≡ refused_fit (in_order cs (λ e. Err e) (Ok l))
        → (b : Bool)
        → cond b (Err (refused_check c).answer) (in_order (map refused_check cs) (λ e. Err e) (Ok l)) ≡ refused_fit (cond b (Err c.answer) (in_order cs (λ e. Err e) (Ok l)))
    go rest true = refl
    go rest false = rest

module _ (s : BinSection) (r : RectToInsert) where
  pub fit_placed : Fits s r → fit_of s r ≡ Ok (location_in s r)
  unfolding fit_of fit_checks
  fit_placed f = past_all _ _ (fit_checks s r) (le-ltb _ _ f.width_fits, (le-ltb _ _ f.height_fits, (le-ltb _ _ f.depth_fits, tt)))

  -- a location says that the section fits, and which it is
  pub fit_fits : (l : PackedLocation) → fit_of s r ≡ Ok l → Fits s r × (l ≡ location_in s r)
  unfolding fit_of fit_checks
  fit_fits l e =
      let p = done_passes (fit_checks s r) (Ok (location_in s r)) l e in
      (record { width_fits = ltb-false _ _ p.0.0; height_fits = ltb-false _ _ p.0.1.0; depth_fits = ltb-false _ _ p.0.1.1.0 }, cc)

  -- and a refusal that it does not
  pub fit_told : MatchResult (fit_of s r) (λ l. Fits s r × (l ≡ location_in s r)) (λ e. Fits s r → ⊥)
  fit_told =
      elim (fit_of s r) as (λ o. fit_of s r ≡ o → MatchResult o (λ l. Fits s r × (l ≡ location_in s r)) (λ e. Fits s r → ⊥)) [
        | Ok l ↦ λ e. fit_fits l e
        | Err x ↦ λ e f. absurd (cc (fit_placed f))
      ]
      refl

  -- where it does not fit, the refusal goes on with what else there is
  pub fit_refused : (Fits s r → ⊥) → {A : Type 0} (f : PackedLocation → A) (e : A) → on_placed (fit_of s r) f e ≡ e
  fit_refused n f e =
      elim (fit_of s r) as (λ o. MatchResult o (λ l. Fits s r × (l ≡ location_in s r)) (λ x. Fits s r → ⊥) → on_placed o f e ≡ e) [
        | Ok l ↦ λ p. absurd (n p.0)
        | Err x ↦ λ p. refl
      ]
      fit_told

  -- what the code's test says
  pub ok_fits : is_ok (fit_of s r) ≡ true → Fits s r
  ok_fits =
      elim (fit_of s r) as (λ o. MatchResult o (λ l. Fits s r × (l ≡ location_in s r)) (λ x. Fits s r → ⊥) → is_ok o ≡ true → Fits s r) [
        | Ok l ↦ λ p t. p.0
        | Err x ↦ λ p t. absurd (cc)
      ]
      fit_told

  pub not_ok : is_ok (fit_of s r) ≡ false → Fits s r → ⊥
  not_ok t f = absurd (cc (ap is_ok (fit_placed f)))

  -- past 3 and 4 a try answers as the fit does
  pub try_fit : try_answer s r ≡ in_order (range_checks s r) (λ e. Err e) (refused_fit (fit_of s r))
  unfolding try_answer try_checks range_checks fit_of in_order
  try_fit = ap (λ (d : Result PackedLocation Refusal). in_order (range_checks s r) (λ e. Err e) d) (refused_row (fit_checks s r) (location_in s r))

  -- a location in the answer to a try says that the section is good, and the fit's answer
  pub answer_fits : (l : PackedLocation) → try_answer s r ≡ Ok l → (not (section_ok s) ≡ false) × Fits s r
  unfolding range_checks
  answer_fits l e =
      let p = done_passes (range_checks s r) (refused_fit (fit_of s r)) l (sym try_fit ∙ e) in (
        p.0.0,
        elim (fit_of s r) as (λ o. fit_of s r ≡ o → refused_fit o ≡ Ok l → Fits s r) [
          | Ok k ↦ λ f q. (fit_fits k f).0
          | Err x ↦ λ f q. absurd (cc)
        ]
            refl p.1,
      )

  -- a try is what the first of its checks that fires answers, else what is placed
  pub try_row : try_of s r ≡ in_order (try_checks s r) (λ e. refused_of e) (placed_of s r)
  unfolding try_answer
  try_row = in_map (λ e. Err e) (Ok (location_in s r)) (λ (a : Result PackedLocation Refusal). record { answer = a; sections = sections_of s r a }) (try_checks s r)

  -- what is placed passed every check, and what passes every check is placed
  pub try_passes : (l : PackedLocation) → (try_of s r).answer ≡ Ok l → AllPass (try_checks s r)
  unfolding try_answer
  try_passes l e = (done_passes (try_checks s r) (Ok (location_in s r)) l e).0

  pub try_placed : AllPass (try_checks s r) → try_of s r ≡ placed_of s r
  try_placed p = try_row ∙ past_all _ _ (try_checks s r) p

-- "A detail that isn't named is 0"
zero_detail :
    (a b : Bool) (o : Result PackedLocation BinSectionError)
    → let t = cond a (Err (BadSection 0)) (cond b (Err (BadRectangle 0)) (refused_fit o)) in reply_of t ≡ reply (number_of t) 0
zero_detail true b o = refl
zero_detail false true o = refl
zero_detail false false (Ok l) = refl
zero_detail false false (Err PlacementWiderThanBinSection) = refl
zero_detail false false (Err PlacementTallerThanBinSection) = refl
zero_detail false false (Err PlacementDeeperThanBinSection) = refl

pub no_detail : (s : BinSection) (r : RectToInsert) → reply_of (try_answer s r) ≡ reply (number_of (try_answer s r)) 0
unfolding range_checks in_order
no_detail s r = rw (try_fit s r) (zero_detail (not (section_ok s)) (not (sides_ok r.whd)) (fit_of s r))
