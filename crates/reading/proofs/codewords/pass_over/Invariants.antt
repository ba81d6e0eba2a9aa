use Rattle.std.proofs.Common.{◌≡◌, ◌≤◌, ◌-◌}
use Rattle.reading.specs.Helpers.Codewords.{row_of, passed_from}
use Rattle.reading.proofs.codewords.pass_over.Given as goal

abbrev pub invariant-loop : goal.invariant-loop
invariant-loop l =
    (l.at ≤ l.packed.h) × (passed_from l.packed.ranks.good.code l.packed.ranks.sigma (row_of l.packed) l.p l.count ≡ passed_from l.packed.ranks.good.code l.packed.ranks.sigma (row_of l.packed) l.at (l.count - l.counter))
