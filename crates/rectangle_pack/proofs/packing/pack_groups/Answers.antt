use Rattle.lists.proofs.Kit.{rules, refl, ◌∙◌, arith}
use Rattle.rectangle_pack.proofs.Running.{lead_here, running_none, order_still, lead_small, group_some, group_ready, group_listed, group_few, group_seats, record_there, running_more, running_refused, running_all, leads_long}
use Rattle.rectangle_pack.proofs.packing.pack_groups.Goals as goal

pub loop-lead-init : goal.loop-lead-init
loop-lead-init c = record { running = running_none _ _ _ _ _ c.requires.0; copy_long = refl; locations_long = refl }

pub members_of-requires : goal.members_of-requires
members_of-requires c = (search rules, (c.requires.1.long, lead_small _ _ _ c.requires.4 _ c.loop-lead-test.true _, c.requires.1.few))

pub pack_group-requires : goal.pack_group-requires
pack_group-requires c =
    let s = c.loop-lead.invariant in
    let at = lead_here _ _ _ c.requires.4 _ c.loop-lead-test.true _ in
    let is = c.as_slice-members.ensures.value ∙ c.members_of.ensures in (
      group_ready _ _ _ _ _ _ c.requires.3 _ _ _ _ s.running at.0 _ at.1 _ is,
      order_still _ _ _ _ _ _ c.requires.3 _ _ _ _ s.running,
      record {
        some = group_some _ _ _ at.0 _ at.1 _ is;
        listed = group_listed _ _ _ _ is _ (omega arith);
        copy_long = s.copy_long;
        table_long = omega (arith, group_few _ _ _ _ is, c.requires.1.few, s.locations_long);
      },
    )

pub overflow_cast-result : goal.overflow_cast-result
overflow_cast-result c = omega (arith, lead_small _ _ _ c.requires.4 _ c.loop-lead-test.true, c.requires.1.few)

pub returns-in_default : goal.returns-in_default
returns-in_default c =
    let at = lead_here _ _ _ c.requires.4 _ c.loop-lead-test.true _ in
    running_refused _ _ _ _ _ _ c.requires.3 _ _ _ _ c.loop-lead.invariant.running at.0 _ at.1 _ (c.as_slice-members.ensures.value ∙ c.members_of.ensures) _ _ _
    refl c.in_default.ensures

pub read-bin-requires : goal.read-bin-requires
read-bin-requires c =
    let at = lead_here _ _ _ c.requires.4 _ c.loop-lead-test.true _ in
    record_there _ _ _ _ _ _ c.requires.3 _ _ _ _ c.loop-lead.invariant.running at.0 _ at.1 _ (c.as_slice-members.ensures.value ∙ c.members_of.ensures) _ _ _ _
    c.in-Some.ensures

pub seat_group-requires : goal.seat_group-requires
seat_group-requires c =
    let is = c.as_slice-members.ensures.value ∙ c.members_of.ensures in (
      group_seats _ _ _ _ is _ (omega (arith, c.loop-lead.invariant.running.long, c.requires.2)),
      omega (arith, group_few _ _ _ _ is, c.requires.1.few, c.pack_group.auto.locations, c.loop-lead.invariant.locations_long),
    )

pub loop-lead-preserved : goal.loop-lead-preserved
loop-lead-preserved c =
    let s = c.loop-lead.invariant in
    let at = lead_here _ _ _ c.requires.4 _ c.loop-lead-test.true _ in
    record {
      running = running_more _ _ _ _ _ _ c.requires.3 _ _ _ _ s.running at.0 _ at.1 _ (c.as_slice-members.ensures.value ∙ c.members_of.ensures) _ _ _ _
          c.in-Some.ensures _ _ c.read-bin.ensures (search rules) c.seat_group.ensures;
      copy_long = c.pack_group.auto.copy ∙ s.copy_long;
      locations_long = c.pack_group.auto.locations ∙ s.locations_long;
    }

pub returns : goal.returns
returns c =
    running_all _ _ _ _ _ _ c.requires.3 _ _ _ _ c.loop-lead.invariant.running _ (omega (arith, leads_long _ _ _ c.requires.4)) refl
