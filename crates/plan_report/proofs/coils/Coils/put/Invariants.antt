use Rattle.std.specs.Prelude.{◌≡◌, ◌≤◌, ◌+◌, ◌*◌, ◌++◌, zip, flat_map, take, length}
use Rattle.arrayvec.specs.ArrayString.{array_string_len}
use Rattle.plan_report.specs.Texts.{coil_with}
use Rattle.plan_report.proofs.coils.Coils.put.Given as goal

abbrev pub invariant-loop-coil : goal.invariant-loop-coil
invariant-loop-coil l =
    record {
      bytes : l.out.bytes ≡ l.initial.out.bytes ++ flat_map coil_with (take (length l.yielded) (zip l.self.coils.now l.self.placements.now));
      short : array_string_len l.out ≤ array_string_len l.initial.out + length l.yielded * 80;
    }
