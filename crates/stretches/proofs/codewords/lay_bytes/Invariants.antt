use Rattle.std.proofs.Common.{◌+◌, ◌*◌, ◌≤◌, length}
use Rattle.stretches.specs.Laws.Codewords.{Filled, laid_at}
use Rattle.stretches.proofs.codewords.lay_bytes.Given as goal

abbrev pub invariant-loop-j : goal.invariant-loop-j
invariant-loop-j l = (l.n * l.per ≤ 256) × (l.first + l.n ≤ length l.piece) × Filled (laid_at l.k l.piece l.first) 256 l.row (l.j * l.per)
