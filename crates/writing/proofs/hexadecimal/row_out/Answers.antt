-- `writing::hexadecimal::row_out` meets its contract: the bytes passed are put.
use Rattle.std.proofs.Common.{◌+◌, drop, get_or}
use Rattle.writing.specs.Paper.Written.{hex_of, hex_row}
use Rattle.writing.specs.Laws.Written.{going_as, going_next, going_more, going_all, row_done, row_more}
use Rattle.writing.proofs.hexadecimal.row_out.Goals as goal

pub byte_out-p-requires : goal.byte_out-p-requires
byte_out-p-requires c =
    let bytes = c.args.bytes.now in
    let i = c.loop-b.b-index in
    going_next c.requires (hex_of (get_or bytes i 0)) (hex_row (drop (i + 1) bytes)) (going_as (row_more bytes i c.loop-b-test.true) c.loop-b.invariant)

pub loop-b-preserved : goal.loop-b-preserved
loop-b-preserved c =
    let bytes = c.args.bytes.now in
    let i = c.loop-b.b-index in
    going_more c.requires (hex_of (get_or bytes i 0)) (going_as (row_more bytes i c.loop-b-test.true) c.loop-b.invariant)
    c.byte_out-p.ensures.out c.byte_out-p.ensures.next

pub returns : goal.returns
returns c =
    let g = going_all c.requires (going_as (row_done c.args.bytes.now c.loop-b.b-index c.loop-b-test.false) c.loop-b.invariant) in
    record { next = g.0; out = g.1 }
