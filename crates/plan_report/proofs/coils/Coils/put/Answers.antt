use Rattle.std.proofs.Common.{◌≡◌, ◌<◌, [], ◌∷◌, zip, length, arith, length-append}
use Rattle.std.proofs.lemmas.Iterator.{YieldsList-from_slice, YieldsList-from_zip}
use Rattle.std.proofs.lemmas.Iterator.Consumers.{YieldsList-turn, YieldsList-end}
use Rattle.plan_report.specs.Texts.{coil_with, coil_texts}
use Rattle.plan_report.proofs.Looping.{each_more, each_all}
use Rattle.plan_report.proofs.Short.{zip_most}
use Rattle.plan_report.proofs.coils.Coils.put.Goals as goal

pub put-requires : goal.put-requires
put-requires c =
    let coils = c.args.self.now.coils.now in
    let placements = c.args.self.now.placements.now in
    let left : length c.loop-coil.yielded < length (zip coils placements) = (YieldsList-turn (YieldsList-from_zip (YieldsList-from_slice coils cc) (YieldsList-from_slice placements cc)) c.loop-coil.yielded _ c.loop-coil.yielded_by _ c.next.new.self _ c.in-Some.is c.next.ensures.steps).0 in
    omega (arith, c.requires, c.loop-coil.invariant.short, left, zip_most coils placements)

pub loop-coil-preserved : goal.loop-coil-preserved
loop-coil-preserved c =
    record {
      bytes =
          let road = YieldsList-from_zip (YieldsList-from_slice c.args.self.now.coils.now cc) (YieldsList-from_slice c.args.self.now.placements.now cc) in
          let turn = YieldsList-turn road c.loop-coil.yielded _ c.loop-coil.yielded_by _ c.next.new.self _ c.in-Some.is c.next.ensures.steps in
          each_more coil_with _ _ _ _ _ _ _ turn c.loop-coil.invariant.bytes c.put.ensures.bytes;
      short = omega (arith, c.loop-coil.invariant.short, c.put.ensures.short, length-append c.loop-coil.yielded ((c.in-Some.coil, c.in-Some.placement) ∷ []));
    }

pub returns : goal.returns
unfolding coil_texts
returns c =
    let coils = c.args.self.now.coils.now in
    let placements = c.args.self.now.placements.now in
    let end : length c.loop-coil.yielded ≡ length (zip coils placements) = (YieldsList-end (YieldsList-from_zip (YieldsList-from_slice coils cc) (YieldsList-from_slice placements cc)) c.loop-coil.yielded _ c.loop-coil.yielded_by _ c.next.new.self c.in-None.is c.next.ensures.steps).1 in
    record {
      bytes = each_all coil_with _ _ _ _ end c.loop-coil.invariant.bytes;
      short = omega (arith, c.loop-coil.invariant.short, end, zip_most coils placements);
    }
