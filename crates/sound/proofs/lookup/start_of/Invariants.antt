use Rattle.std.proofs.Common.{◌≡◌}
use Rattle.sound.specs.Helpers.Ends.{end_from}
use Rattle.sound.proofs.lookup.start_of.Given as goal

abbrev pub invariant-loop : goal.invariant-loop
invariant-loop l = l.at ≡ end_from l.sound.roll.table.code l.sound.buf.now 0 l.counter
