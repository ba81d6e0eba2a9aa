-- `frames::read_frame::bytes_of` meets its contract.
use Rattle.std.proofs.Common.{arith}
use Rattle.frames.specs.Laws.Forms.{later_parts, later_long}
use Rattle.frames.proofs.read_frame.bytes_of.Goals as goal

pub overflow_sub-result : goal.overflow_sub-result
overflow_sub-result c = omega (arith, later_long c.args.line.now c.requires)

pub returns : goal.returns
returns c =
    let line = c.args.line.now in
    let l = later_long line c.requires in
    record { many = omega arith; few = omega (arith, (later_parts line c.requires).few) }
