use Rattle.std.proofs.Common.{◌≡◌, ◌≤◌, drop}
use Rattle.unpacking.specs.Helpers.Tasks.{WrittenBytes}
use Rattle.unpacking.proofs.range.write_known.Given as goal

abbrev pub invariant-loop-at : goal.invariant-loop-at
invariant-loop-at l =
    record {
      few : l.n ≤ l.task.m;
      wrote : WrittenBytes l.task l.out (record { at = l.at; x = l.x; n = l.n });
      kept : drop l.task.m l.out ≡ drop l.task.m l.initial.out;
    }
