-- `symbols::bits::per_byte` meets its contract.
use mathlib.Core.Path.{◌≡◌, refl}
use Prim.Native.Nat.{◌/◌, ◌^◌}
use Rattle.symbols.specs.Paper.Symbols.{per}
use Rattle.symbols.specs.Laws.Width.{by_width}
use Rattle.symbols.proofs.bits.per_byte.Goals as goal

pub returns : goal.returns
unfolding per
returns c = by_width (λ k. 8 / 2 ^ (k / 2) ≡ per k) c.requires refl refl
