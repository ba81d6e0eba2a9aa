-- `symbols::bits::byte_of` meets its contract.
use mathlib.Core.Path.{◌≡◌, refl}
use Prim.Native.Nat.{◌-◌, ◌/◌, ◌^◌}
use Rattle.symbols.specs.Paper.Symbols.{per}
use Rattle.symbols.specs.Laws.Width.{by_width}
use Rattle.symbols.proofs.bits.byte_of.Goals as goal

pub returns : goal.returns
unfolding per
returns c = by_width (λ k. c.args.i / 2 ^ (3 - k / 2) ≡ c.args.i / per k) c.requires refl refl
