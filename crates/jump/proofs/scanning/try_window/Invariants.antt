use Rattle.std.proofs.Common.{◌≡◌, length}
use Rattle.jump.specs.Helpers.Counting.{Counts}
use Rattle.jump.specs.Helpers.Hits.{hits_below, Grows}
use Rattle.jump.specs.Helpers.Windows.{first_of}
use Rattle.jump.proofs.scanning.try_window.Given as goal

abbrev pub invariant-loop-a : goal.invariant-loop-a
invariant-loop-a l =
    let s = l.windows.searched in
    let hits = hits_below s.good.code s.h s.buf.now l.windows.sought.symbols.now in
    Counts s.good.code s.buf.now l.a l.found.counted.next l.found.counted.ended
    × (l.found.total ≡ length (hits l.a))
    × Grows (hits (first_of s.good.code.k l.windows.sought.v.free l.f)) (hits l.a) l.initial.slice l.slice
