use Rattle.std.proofs.Common.{◌≤◌, ◌<◌}
use Rattle.sound.specs.Helpers.Ends.{Passing}
use Rattle.sound.proofs.ends.from_byte.Given as goal

abbrev pub invariant-loop-q : goal.invariant-loop-q
invariant-loop-q l = (l.first ≤ l.q) × Passing l.code l.buf l.p l.count l.q l.left × (0 < l.left)
