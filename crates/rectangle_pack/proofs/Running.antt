-- Laws of the packing group by group: the state that the tables hold, and the groups that are left.
use Prim.Native.Nat.{ℕ, ◌+◌, ◌*◌, ◌-◌, ◌/◌, ◌≤◌, ◌<◌}
use mathlib.Core.Path.{◌≡◌, refl, sym, ap, ◌∙◌}
use mathlib.Core.List.{List, [], ◌∷◌, map}
use mathlib.Core.Bool.{true}
use native.Mathlib.Numerals.{add-one}
use native.Mathlib.Omega.{arith}
use lib.ListN.{length, get_or, take, drop, length-map, get_or-map, drop_of_length-le}
use lib.Seq.{drop-cons, ext_get_or}
use Rattle.std.proofs.Common.{Some}
use Rattle.std.proofs.lemmas.List.{get_or_default}
use Rattle.lists.specs.Sort.{Each}
use Rattle.lists.proofs.Picks.{pick_each, length_pick}
use Rattle.lists.proofs.Sorts.{sort_each, each_at, each_map}
use Rattle.lists.proofs.Tabs.{length-tab, getd_tab}
use Rattle.lists.proofs.Totals.{total}
use Rattle.replies.specs.declared.reply.Reply.{Reply}
use Rattle.replies.specs.Replies.{reply}
use Rattle.sections.proofs.Reading.{length-sections}
use Rattle.target_bin.specs.declared.chamber.TargetBin.{TargetBin}
use Rattle.target_bin.specs.Chambers.{bin, chamber_at, chamber_count, chambers_of, table_of}
use Rattle.target_bin.specs.Leaning.{Shaped}
use Rattle.target_bin.specs.Store.{free_at, free_of, store_of}
use Rattle.target_bin.proofs.Parts.{getd_free_of, store_encoded}
use Rattle.target_bin.proofs.Tables.{table_encoded}
use Rattle.grouped_rects_to_place.specs.declared.rect_to_place.RectToPlace.{RectToPlace}
use Rattle.grouped_rects_to_place.specs.declared.sorting.Lead.{Lead}
use Rattle.grouped_rects_to_place.specs.Leaning.{Listed, lead_with}
use Rattle.grouped_rects_to_place.specs.Rect.{rect_count}
use Rattle.grouped_rects_to_place.specs.Groups.{same_group, is_lead, members, earlier, group_order, groups_of}
use Rattle.grouped_rects_to_place.proofs.Sizes.{groups_total, group_of}
use Rattle.placement.specs.Leaning.{HasPlacements}
use Rattle.packing_rules.specs.Order.{trial_order}
use Rattle.packing_rules.specs.Seats.{Seat, seated}
use Rattle.packing_rules.specs.Packing.{rects_at, state, Ended, pack_groups}
use Rattle.packing_rules.specs.Promises.{NoneServes}
use Rattle.packing_rules.proofs.TrialOrders.{trial_below}
use Rattle.packing_rules.proofs.Turns.{turn_served, turn_refused, no_turn}
use Rattle.placing.specs.Leaning.{GroupOf, Ready}
use Rattle.placing.specs.Step.{locations_in}
use Rattle.rectangle_pack.specs.declared.groups.Fit.{Fit}
use Rattle.rectangle_pack.specs.Pack.{bins_with, pack_outcome, written}
use Rattle.rectangle_pack.specs.Records.{placements_of}
use Rattle.rectangle_pack.specs.Leaning.{SameShape, Grouped, SeatsFor, Seated, PackedTo, GroupsPacked, Clean, Tidied}
use Rattle.rectangle_pack.proofs.Serving.{ready_next}
use Rattle.placing.proofs.Copying.{ready_part}
use Rattle.rectangle_pack.proofs.Tidying.{tidied_shaped, tidied_free}

pub same_through : (a b c : List ℕ) → SameShape a b → SameShape b c → SameShape a c
same_through a b c p q =
    record { long = q.long ∙ p.long; ids = λ i. q.ids i ∙ p.ids i; sides = λ i. q.sides i ∙ p.sides i }

-- ---- the groups one after the other, as the code comes to them: by their leads

module _ (n : ℕ) (r : ℕ → RectToPlace) where
  groups_long : length (groups_of n r) ≡ length (group_order n r)
  unfolding groups_of
  groups_long = length-map (group_order n r) (members n r)

  module _ (i : ℕ) (h : i < length (group_order n r)) (lead : ℕ) (at : lead ≡ get_or (group_order n r) i 0) where
    group_next : drop i (groups_of n r) ≡ members n r lead ∷ drop (i + 1) (groups_of n r)
    unfolding groups_of
    group_next = rw (add-one, at, drop-cons (groups_of n r) i (members n r 0) (omega (arith, groups_long)), get_or-map (members n r) (group_order n r) i 0)

    lead_told : (lead < n) × (is_lead r lead ≡ true)
    unfolding group_order
    lead_told = rw at (each_at (sort_each (earlier n r) (pick_each n (is_lead r))) i 0 h)

    pub lead_below : lead < n
    lead_below = lead_told.0

    pub group_some : (group : List ℕ) → group ≡ members n r lead → 0 < length group
    group_some group is = rw is (group_of n r lead lead_told.0 lead_told.1).some

    -- the first index of a group is its lead
    lead_first : get_or (members n r lead) 0 0 ≡ lead
    lead_first = (group_of n r lead lead_told.0 lead_told.1).first

-- the leads as the code has them, and the one that it has come to
pub leads_long : (n : ℕ) (r : ℕ → RectToPlace) (leads : List Lead) → leads ≡ map (lead_with n r) (group_order n r) → length (group_order n r) ≡ length leads
leads_long n r leads e = sym (ap length e ∙ length-map (group_order n r) (lead_with n r))

pub lead_here :
    (n : ℕ) (r : ℕ → RectToPlace) (leads : List Lead)
    → leads ≡ map (lead_with n r) (group_order n r)
    → (i : ℕ)
    → i < length leads
    → (d : Lead)
    → (i < length (group_order n r)) × ((get_or leads i d).first ≡ get_or (group_order n r) i 0)
lead_here n r leads e i h d =
    let b : i < length (group_order n r) = omega (arith, leads_long n r leads e) in
    (b, rw e (ap (λ (l : Lead). l.first) (get_or_default (map (lead_with n r) (group_order n r)) i d (lead_with n r 0) (omega (arith, leads_long n r leads e, ap length e)) ∙ get_or-map (lead_with n r) (group_order n r) i 0)))

pub lead_small :
    (n : ℕ) (r : ℕ → RectToPlace) (leads : List Lead)
    → leads ≡ map (lead_with n r) (group_order n r)
    → (i : ℕ)
    → i < length leads
    → (d : Lead)
    → (get_or leads i d).first < n
lead_small n r leads e i h d = let at = lead_here n r leads e i h d in lead_below n r i at.0 _ at.1

-- the part of an array that has a list
pub listed_part : (n m : ℕ) (list out : List ℕ) → Listed n list out m → take (m - 0) out ≡ list
listed_part n m list out l = let e : m - 0 ≡ m = omega arith in ap (λ (j : ℕ). take j out) e ∙ l.front

-- a group, as the code has it
module _ (n : ℕ) (r : ℕ → RectToPlace) (lead : ℕ) (group : List ℕ) (is : group ≡ members n r lead) where
  entry_below : (k : ℕ) → k < length group → get_or group k 0 < n
  entry_below = rw is (λ k h. each_at (each_map (λ j p. p.0) (pick_each n (same_group r lead))) k 0 h)

  pub group_listed : (rects : List ℕ) → n ≤ rect_count rects → GroupOf rects group
  group_listed rects h = record { listed = λ k b. omega (arith, entry_below k b) }

  pub group_few : length group ≤ n
  group_few = rw is (length_pick n (same_group r lead))

  pub group_seats : (p : List ℕ) → HasPlacements p n → SeatsFor group p
  group_seats p h = record { at = λ k b. omega (arith, entry_below k b) }

-- the first i groups are packed
pub record Running (r : ℕ → RectToPlace) (n : ℕ) (c₀ st₀ p₀ : List ℕ) (i : ℕ) (c st p : List ℕ) : Type 0 where
  pub most : i ≤ length (groups_of n r)
  pub same : SameShape c₀ c
  pub ready : Ready c st (total length (drop i (groups_of n r)))
  pub long : length p ≡ length p₀
  pub so_far :
      (seats₀ : List Seat)
      → p₀ ≡ placements_of seats₀
      → (seats : List Seat)
      × (p ≡ placements_of seats)
      × (pack_groups (trial_order c₀) (λ k. (chamber_at c₀ k).id) r (groups_of n r) (state (free_of c₀ st₀) seats₀)
      ≡ pack_groups (trial_order c₀) (λ k. (chamber_at c₀ k).id) r (drop i (groups_of n r)) (state (free_of c st) seats))

module _ (r : ℕ → RectToPlace) (n : ℕ) (c₀ st₀ p₀ : List ℕ) where
  abbrev gs : List (List ℕ)
  gs = groups_of n r

  abbrev O : List ℕ
  O = trial_order c₀

  abbrev ids : ℕ → ℕ
  ids = λ k. (chamber_at c₀ k).id

  pub running_none : Ready c₀ st₀ n → Running r n c₀ st₀ p₀ 0 c₀ st₀ p₀
  running_none ready =
      record {
        most = omega arith;
        same = record { long = refl; ids = λ i. refl; sides = λ i. refl };
        ready = ready_part c₀ st₀ (total length gs) n ready (omega (arith, groups_total n r));
        long = refl;
        so_far = λ seats e. (seats, e, refl);
      }

  module _ (order : List ℕ) (ord : order ≡ O) (i : ℕ) (c st p : List ℕ) (s : Running r n c₀ st₀ p₀ i c st p) where
    -- the chambers' indices are still those
    pub order_still : Each (λ k. k < chamber_count c) order
    order_still =
        let e : chamber_count c ≡ chamber_count c₀ = ap (λ (x : ℕ). x / 5) s.same.long in
        rw (ord, e) (trial_below c₀)

    -- the next group, by its lead
    module _ (h : i < length (group_order n r)) (lead : ℕ) (at : lead ≡ get_or (group_order n r) i 0) (group : List ℕ) (is : group ≡ members n r lead) where
      next : drop i gs ≡ group ∷ drop (i + 1) gs
      next = rw is (group_next n r i h lead at)

      total_next : total length (drop i gs) ≡ length group + total length (drop (i + 1) gs)
      unfolding total
      total_next = rw next

      pub group_ready : Ready c st (length group)
      group_ready = ready_part c st (length group) (total length (drop i gs)) s.ready (omega (arith, total_next))

      -- it was refused
      pub running_refused :
          (c' st' : List ℕ) (a : Reply)
          → a ≡ reply 7 lead
          → NoneServes order (rects_at r group) (free_of c st) × (c' ≡ c) × (st' ≡ st)
          → GroupsPacked r n a c₀ st₀ p₀ c' st' p
      running_refused c' st' a e d =
          let u : NoneServes O (rects_at r group) (free_of c st) = rw ord at d.0 in
          rw (d.1, d.2)
          (record {
            same = s.same;
            shaped = s.ready.shaped;
            packed = λ seats₀ q.
                let w = s.so_far seats₀ q in
                rw (w.2, next, turn_refused O ids r group (drop (i + 1) gs) (state (free_of c st) w.0) u)
                (record { answers = e ∙ ap (reply 7) (sym (ap (λ (g : List ℕ). get_or g 0 0) is ∙ lead_first n r i h lead at)); frees = refl; seats = w.1 });
          })

      -- it was served
      module _ (f : Fit) (table c' st' : List ℕ) (d : Grouped (Some f) order (rects_at r group) (length group) table c st c' st') where
        abbrev k : ℕ
        k = f.chamber

        found : Grouped (Some f) O (rects_at r group) (length group) table c st c' st'
        found = rw ord at d

        here : k < chamber_count c
        here = rw found.2 at (each_at (rw ord at order_still) found.0 0 found.1.within)

        pub record_there : k * 5 + 5 ≤ length c'
        record_there = omega (arith, here, found.6.same.long, s.ready.shaped.whole)

        pub running_more :
            (p' : List ℕ) (b : TargetBin)
            → b ≡ chamber_at c' k
            → length p' ≡ length p
            → Seated b.id group table p p'
            → Running r n c₀ st₀ p₀ (i + 1) c' st' p'
        running_more p' b read lp sat =
            let u = found in
            let kept = u.6 in
            let ls = locations_in table (length group) in
            let id : b.id ≡ ids k = ap (λ (x : TargetBin). x.id) read ∙ kept.same.ids k ∙ s.same.ids k in
            record {
              most = omega (arith, groups_long n r);
              same = same_through c₀ c c' s.same kept.same;
              ready = ready_next c st c' st' group r k (total length (drop (i + 1) gs)) ls u.3 (rw total_next at s.ready) here u.5 kept;
              long = lp ∙ s.long;
              so_far = λ seats₀ e.
                  let w = s.so_far seats₀ e in
                  let at = state (free_of c st) w.0 in (
                    seated (ids k) group ls w.0,
                    rw (← id) (sat.seats w.0 w.1),
                    w.2 ∙ rw (next, turn_served O ids r group (drop (i + 1) gs) at u.0 ls u.3 u.1 (rw u.2 u.5), u.2, kept.frees),
                  );
            }

    -- all groups are packed
    pub running_all : (a : Reply) → length (group_order n r) ≤ i → a ≡ reply 0 0 → GroupsPacked r n a c₀ st₀ p₀ c st p
    running_all a h e =
        record {
          same = s.same;
          shaped = s.ready.shaped;
          packed = λ seats₀ q.
              let w = s.so_far seats₀ q in
              let none_left : length gs ≤ i = omega (arith, groups_long n r) in
              rw (w.2, drop_of_length-le gs none_left, no_turn O ids r (state (free_of c st) w.0))
              (record { answers = e; frees = refl; seats = w.1 });
        }

-- ---- the tables' words once the packing has ended

module _ (c c' st' : List ℕ) (same : SameShape c c') (shaped : Shaped c' st') (clean : Clean c' st') where
  count_same : chamber_count c' ≡ chamber_count c
  count_same = ap (λ (x : ℕ). x / 5) same.long

  bins_same : chambers_of c' ≡ bins_with c (free_of c' st')
  unfolding chambers_of bins_with free_at
  bins_same =
      ext_get_or (bin 0 (record { width = 0; height = 0; depth = 0 }) 0) (chambers_of c') (bins_with c (free_of c' st'))
      (length-tab (chamber_count c') (chamber_at c') ∙ count_same ∙ sym (length-tab (chamber_count c) _))
      (λ k b.
      let h : k < chamber_count c' = omega (arith, length-tab (chamber_count c') (chamber_at c')) in
      let e : (chamber_at c' k).count ≡ length (get_or (free_of c' st') k []) = sym (ap length (getd_free_of c' st' k [] h) ∙ length-sections _ (chamber_at c' k).count) in
      getd_tab (chamber_count c') (chamber_at c') k _ h
      ∙ (λ t. record { id = same.ids k t; whd = same.sides k t; count = e t })
      ∙ sym (getd_tab (chamber_count c) _ k _ (omega (arith, count_same))))

  table_words : c' ≡ table_of (bins_with c (free_of c' st'))
  table_words = sym (table_encoded c' shaped.whole) ∙ ap table_of bins_same

  store_words : st' ≡ store_of (free_of c' st')
  store_words = sym (store_encoded c' st' shaped clean.zeros)

-- and zeros are set past each count
pub all_written :
    (e : Ended) (c : List ℕ) (a : Reply) (c' st' p' st'' : List ℕ)
    → SameShape c c'
    → Shaped c' st'
    → PackedTo e a c' st' p'
    → Tidied c' st' st''
    → pack_outcome a c' st'' p' ≡ written c e
unfolding written
all_written e c a c' st' p' st'' same shaped' w t =
    let shaped = tidied_shaped c' st' st'' shaped' t in
    let frees : free_of c' st'' ≡ e.after.frees = tidied_free c' st' st'' t ∙ w.frees in
    let x : c' ≡ table_of (bins_with c e.after.frees) = rw (← frees) (table_words c c' st'' same shaped t.clean) in
    let y : st'' ≡ store_of e.after.frees = rw (← frees) (store_words c c' st'' same shaped t.clean) in
    cc (w.answers, x, y, w.seats)
