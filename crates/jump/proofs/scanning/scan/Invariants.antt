use Rattle.std.proofs.Common.{◌≡◌, List, ℕ, ◌+◌, ◌-◌, ◌≤◌, ◌<◌, length}
use Rattle.texts.specs.Paper.Hits.{listed}
use Rattle.jump.specs.Helpers.Counting.{Counts}
use Rattle.jump.specs.Helpers.Hits.{hits_below}
use Rattle.jump.specs.Helpers.Windows.{first_of}
use Rattle.jump.proofs.scanning.scan.Given as goal

abbrev pub invariant-loop-e : goal.invariant-loop-e
invariant-loop-e l =
    let s = l.windows.searched in
    let first : ℕ = first_of s.good.code.k l.v.free (l.e + 1 - l.v.wide) in
    let hits : List ℕ = hits_below s.good.code s.h s.buf.now l.windows.sought.symbols.now first in
    (l.v.wide ≤ l.e + 1)
    × (l.e < l.full + l.v.wide)
    × Counts s.good.code s.buf.now first l.found.counted.next l.found.counted.ended
    × (l.found.total ≡ length hits)
    × (l.slice ≡ listed hits l.initial.slice)

abbrev pub decreases-loop-e : goal.decreases-loop-e
decreases-loop-e l = l.full + l.v.wide - l.e
