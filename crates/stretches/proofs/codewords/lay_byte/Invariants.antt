use Rattle.std.proofs.Common.{◌≡◌, ℕ, ◌+◌, ◌<◌, length, get_or}
use Rattle.symbols.specs.Paper.Symbols.{shift}
use Rattle.symbols.specs.Helpers.Bits.{cut_out}
use Rattle.stretches.proofs.codewords.lay_byte.Given as goal

abbrev pub invariant-loop-t : goal.invariant-loop-t
invariant-loop-t l =
    (length l.row ≡ length l.initial.row) × ((i : ℕ) → i < l.at → get_or l.row i 0 ≡ get_or l.initial.row i 0) × ((u : ℕ) → u < l.t → get_or l.row (l.at + u) 0 ≡ cut_out l.k (shift l.k u) l.b)
