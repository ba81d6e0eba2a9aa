-- `radio::bounds::bits_within` meets its contract: 64 bits hold every number.
use Rattle.std.proofs.Common.{◌^◌, ◌<◌, ◌∙◌, sym, lt_of_lt_of_le, lt-ltb, le-leb, pow_mono}
use Rattle.radio.proofs.bounds.bits_within.Goals as goal

pub returns-then-bits-ge64 : goal.returns-then-bits-ge64
returns-then-bits-ge64 c =
    let h : c.args.x < 2 ^ c.args.bits = lt_of_lt_of_le c.ranges.x.fits (pow_mono c.if-bits-ge64.true) in
    le-leb _ _ c.if-bits-ge64.true ∙ sym (lt-ltb _ _ h)
