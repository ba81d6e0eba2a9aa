-- `symbols::gather::lowest` meets its contract.
use Rattle.std.proofs.Common.{ℕ, ◌-◌, ◌∙◌, ap, bit_and}
use lib.Bits.{and_mask}
use Rattle.symbols.proofs.Shifted.{one_shl}
use Rattle.symbols.proofs.gather.lowest.Goals as goal

pub returns : goal.returns
returns c =
    ap (λ (m : ℕ). bit_and c.args.bits (m - 1)) (one_shl 64 c.args.n c.requires) ∙ and_mask c.args.bits c.args.n
