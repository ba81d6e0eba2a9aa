-- `sound::ends::stops_of_two` meets its contract: all its numbers are computed.
use Rattle.std.proofs.Common.{refl}
use Rattle.ground.specs.Paper.Rows.{tab}
use Rattle.symbols.specs.Paper.Symbols.{per, shift, symbol_at, symbols_of}
use Rattle.sound.specs.Helpers.Ends.{stops, stops_of_two}
use Rattle.sound.proofs.ends.stops_of_two.Goals as goal

pub returns : goal.returns
unfolding stops_of_two tab stops symbols_of symbol_at per shift
returns c = refl
