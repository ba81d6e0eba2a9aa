-- `symbols::bits::cut_out` meets its contract.
use Rattle.symbols.proofs.Shifted.{got}
use Rattle.symbols.proofs.bits.cut_out.Goals as goal

pub returns : goal.returns
returns c = got 8 c.args.k c.args.low c.args.b c.requires.0
