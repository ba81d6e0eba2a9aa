use Rattle.std.proofs.Common.{◌≡◌, ℕ, ◌+◌, ◌*◌, ◌≤◌}
use Rattle.symbols.specs.Paper.Symbols.{per}
use Rattle.jump.specs.Helpers.Counting.{number_at}
use Rattle.jump.proofs.counting.ended_in_fours.Given as goal

abbrev pub invariant-loop-j : goal.invariant-loop-j
invariant-loop-j l =
    let before : ℕ → ℕ = λ q. number_at l.good.code l.buf (q * per l.good.code.k) in
    (l.continuers ≤ 12 * l.j)
    × (l.continuers + (before (l.i + l.j) + before (l.i + 16 + l.j) + before (l.i + 32 + l.j)) ≡ 12 * l.j + (before l.i + before (l.i + 16) + before (l.i + 32)))
