use Rattle.jump.specs.Helpers.Windows.{Marks}
use Rattle.jump.proofs.windows.mark.Given as goal

abbrev pub invariant-loop-i : goal.invariant-loop-i
invariant-loop-i l = Marks l.back l.z l.head l.step l.initial.t l.t l.i
