use Rattle.std.proofs.Common.{◌≡◌, length}
use Rattle.unpacking.specs.Helpers.Gives.{KnownByByte}
use Rattle.unpacking.proofs.giving.known_by_byte.Given as goal

abbrev pub invariant-loop-b : goal.invariant-loop-b
invariant-loop-b l = (length l.go ≡ 256) × (length l.gives ≡ 256) × KnownByByte l.ranks.good.code l.ranks.sigma l.places l.go l.gives
