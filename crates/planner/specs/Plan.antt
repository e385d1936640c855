-- The planner's job: a list read and packed, and the report of it.
use Rattle.std.specs.Prelude.{ℕ, List, length, Result, Ok, Err}
use Rattle.lists.specs.Tab.{tab}
use Rattle.placement.specs.Placements.{placement_at}
use Rattle.rectangle_pack.specs.Pack.{PackOutcome}
use Rattle.plan_list.specs.declared.list.PlanList.{PlanList}
use Rattle.plan_list.specs.declared.list.Slipped.{Slipped as SlippedList}
use Rattle.plan_list.specs.List.{read_of}
use Rattle.plan_report.specs.Texts.{slip_report, pack_report}
use Rattle.replies.specs.Replies.{job_reply}
use Rattle.planner.specs.declared.plan.Planned.{Planned}
use Rattle.planner.specs.declared.plan.Planned.TheVariants.{Packed, Slipped}
use Rattle.planner.specs.Packed.{packed_list}

-- where each coil goes and which coils wait, and a refusal in words
unfoldable pub pack_text : PlanList → PackOutcome → List ℕ
pack_text l o = pack_report l (tab (length l.coils.items) (placement_at o.placements)) o.reply

-- the report of a list
unfoldable pub list_report : PlanList → List ℕ
list_report l = pack_text l (packed_list l)

-- of what was read: of a list with a slip of the pen nothing is packed
abbrev pub read_report : Result PlanList SlippedList → List ℕ
read_report (Ok l) = list_report l
read_report (Err slipped) = slip_report slipped.at

-- what the program writes to the bytes it reads
unfoldable pub plan_of : List ℕ → List ℕ
plan_of text = read_report (read_of text)

-- what is displayed of what a text came to
abbrev pub shown : Planned → List ℕ
shown (Packed l p) = pack_report l p.placements.items (job_reply p.answer)
shown (Slipped slip) = slip_report slip
