use Rattle.std.proofs.Common.{◌-◌, ◌≤◌, drop}
use Rattle.stopper.specs.Laws.Seen.{Seen}
use Rattle.reading.specs.Helpers.Codewords.{row_of}
use Rattle.reading.proofs.codewords.codeword_at.Given as goal

abbrev pub invariant-loop-i : goal.invariant-loop-i
invariant-loop-i l = (l.p ≤ l.i) × Seen l.packed.ranks.good.code l.packed.ranks.sigma (drop l.p (row_of l.packed)) (l.i - l.p) l.r
