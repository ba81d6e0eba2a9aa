use Rattle.std.proofs.Common.{◌≡◌, ◌+◌, ◌≤◌, length}
use Rattle.ground.specs.Paper.Runs.{run}
use Rattle.stretches.specs.Helpers.Codewords.{PassingAny}
use Rattle.stretches.proofs.codewords.pass_all.Given as goal

abbrev pub invariant-loop-i : goal.invariant-loop-i
invariant-loop-i l = (l.from + l.n ≤ l.i) × (l.x ≤ 4096) × (length l.text ≡ 256) × PassingAny l.ranks.good.code l.ranks.sigma l.places (run l.row l.from l.i) l.text l.x l.n
