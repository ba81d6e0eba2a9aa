use Rattle.std.proofs.Common.{◌≤◌, length}
use Rattle.casebook.proofs.given.Cases.bytes.Given as goal

abbrev pub invariant-loop : goal.invariant-loop
invariant-loop l = l.filled ≤ length l.row
