use Rattle.std.proofs.Common.{◌≡◌, List, ℕ}
use Rattle.ground.specs.Paper.Runs.{run}
use Rattle.symbols.specs.Paper.Symbols.{symbols_of}
use Rattle.judge.specs.Paper.Judge.{hears_all}
use Rattle.judge.specs.Helpers.Steady.{Steady}
use Rattle.judge.proofs.judging.hear_run.Given as goal

abbrev pub invariant-loop-i : goal.invariant-loop-i
invariant-loop-i l =
    let row : List ℕ = symbols_of l.ranks.good.code.k l.piece in
    Steady l.h l.on × (hears_all l.ranks.good.code l.ranks.sigma l.h l.initial.on (run row l.from l.to) ≡ hears_all l.ranks.good.code l.ranks.sigma l.h l.on (run row l.i l.to))
