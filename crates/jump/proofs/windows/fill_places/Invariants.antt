use Rattle.std.proofs.Common.{◌≡◌, ◌+◌, ◌-◌, ◌*◌, ◌%◌, ◌^◌}
use Rattle.symbols.specs.Paper.Symbols.{per}
use Rattle.jump.specs.Helpers.Windows.{number_from, Upto}
use Rattle.jump.proofs.windows.fill_places.Given as goal

abbrev pub invariant-loop-j : goal.invariant-loop-j
invariant-loop-j l =
    (l.y % 2 ^ (8 - l.k) ≡ number_from l.k l.symbols l.j (per l.k - 1))
    × (l.z % 2 ^ (8 - l.k) ≡ number_from l.k l.symbols (l.j + l.v.back * per l.k) (per l.k - 1))
    × Upto l.k l.v.back l.v.free l.v.places l.symbols l.t (l.v.free + l.j)
