use Rattle.std.proofs.Common.{◌≡◌, ℕ, ◌+◌, ◌<◌, length, get_or}
use Rattle.jump.specs.Helpers.Windows.{byte_from}
use Rattle.jump.proofs.windows.lasts.Given as goal

abbrev pub invariant-loop-o : goal.invariant-loop-o
invariant-loop-o l = ((i : ℕ) → i < l.o → get_or l.last i 0 ≡ byte_from l.k l.sought.symbols.now (l.first + i)) × (length l.last ≡ 4)
