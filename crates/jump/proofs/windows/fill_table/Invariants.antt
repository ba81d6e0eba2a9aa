use Rattle.jump.specs.Helpers.Windows.{Upto}
use Rattle.jump.proofs.windows.fill_table.Given as goal

abbrev pub invariant-loop-i : goal.invariant-loop-i
invariant-loop-i l = let s = l.sought in Upto s.good.code.k s.v.back s.v.free s.v.places s.symbols.now l.t l.i
