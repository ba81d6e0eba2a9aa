use Rattle.std.proofs.Common.{◌≡◌, ◌+◌}
use Rattle.sound.specs.Helpers.Ends.{end_from}
use Rattle.store.proofs.replace.first_over.Given as goal

abbrev pub invariant-loop-j : goal.invariant-loop-j
invariant-loop-j l = (l.p ≡ end_from l.sound.roll.table.code l.sound.buf.now 0 l.j) × (l.left + l.p ≡ l.room + l.first)
