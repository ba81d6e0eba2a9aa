use Rattle.std.proofs.Common.{◌≡◌}
use Rattle.jump.specs.Helpers.Counting.{number_at}
use Rattle.jump.proofs.counting.number_of.Given as goal

abbrev pub invariant-loop-i : goal.invariant-loop-i
invariant-loop-i l = l.number ≡ number_at l.good.code l.buf l.i
