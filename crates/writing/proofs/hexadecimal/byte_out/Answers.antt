-- `writing::hexadecimal::byte_out` meets its contract.
use Rattle.writing.specs.Paper.Written.{hex_of}
use Rattle.writing.specs.Laws.Written.{going_none, going_byte, going_all}
use Rattle.writing.proofs.hexadecimal.byte_out.Goals as goal

pub returns-clause-out : goal.returns-clause-out
returns-clause-out c =
    let h = c.requires in
    let g = going_byte h (going_byte h (going_none (hex_of c.args.b) c.args.out.now c.args.at)) in
    rw (c.glyph_of.ensures, c.glyph_of-2.ensures) (going_all h g).1
