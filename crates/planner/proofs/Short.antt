-- The report is short: at most 8,192 bytes.
use Rattle.std.proofs.Common.{◌≡◌, ℕ, ◌^◌, ◌<◌, ◌≤◌, List, Result, Ok, Err, length, get_or, subst, arith}
use Rattle.lists.specs.Tab.{tab}
use Rattle.lists.proofs.Tabs.{length-tab}
use Rattle.lists.proofs.Sorts.{each-tab}
use Rattle.replies.specs.declared.refusal.Refusal.{Refusal}
use Rattle.replies.specs.Replies.{refusal_reply, job_reply}
use Rattle.placement.specs.Placements.{placement_at}
use Rattle.plan_list.specs.declared.list.PlanList.{PlanList}
use Rattle.plan_list.specs.declared.list.Slipped.{Slipped}
use Rattle.plan_list.specs.List.{read_of}
use Rattle.plan_list.proofs.Small.{SmallList, SmallSlipped, Has, read_small}
use Rattle.plan_report.proofs.Short.{SmallPlacement, slip_short, report_short}
use Rattle.planner.specs.Packed.{packed_list}
use Rattle.planner.specs.Plan.{pack_text, list_report, plan_of}

refusal_small : (x : Refusal) → (refusal_reply x).number < 2 ^ 32
refusal_small x = grind arith

pub answer_small : (a : Result (Unit {0}) Refusal) → (job_reply a).number < 2 ^ 32
answer_small (Ok u) = omega arith
answer_small (Err x) = refusal_small x

placement_small : (w : List ℕ) (i : ℕ) → ((k : ℕ) → get_or w k 0 < 2 ^ 32) → SmallPlacement (placement_at w i)
unfolding placement_at
placement_small w i small = record { chamber = small _; x = small _; y = small _; z = small _ }

list_short :
    (l : PlanList) (a : Result (Unit {0}) Refusal)
    → SmallList l
    → job_reply a ≡ (packed_list l).reply
    → ((k : ℕ) → get_or (packed_list l).placements k 0 < 2 ^ 32)
    → length (list_report l) ≤ 8192
unfolding list_report pack_text
list_short l a s e small =
    report_short l s (tab (length l.coils.items) (placement_at (packed_list l).placements)) (packed_list l).reply
    (each-tab (length l.coils.items) (placement_at (packed_list l).placements) (λ i h. placement_small (packed_list l).placements i small))
    (omega (arith, length-tab (length l.coils.items) (placement_at (packed_list l).placements), s.few))
    (rw (← e) (answer_small a))

module _ (text : List ℕ) where
  pub slip_plan_short : (slipped : Slipped) → read_of text ≡ Err slipped → length (plan_of text) ≤ 8192
  unfolding plan_of
  slip_plan_short slipped e =
      let s : SmallSlipped slipped = subst (Has SmallList SmallSlipped) e (read_small text) in
      rw e (omega (arith, slip_short slipped.at s.at))

  pub list_plan_short :
      (l : PlanList) (a : Result (Unit {0}) Refusal)
      → read_of text ≡ Ok l
      → job_reply a ≡ (packed_list l).reply
      → ((k : ℕ) → get_or (packed_list l).placements k 0 < 2 ^ 32)
      → length (plan_of text) ≤ 8192
  unfolding plan_of
  list_plan_short l a e q small =
      let s : SmallList l = subst (Has SmallList SmallSlipped) e (read_small text) in
      rw e (list_short l a s q small)
