-- `frames::read_first::record_in` meets its contract.
use Rattle.std.proofs.Common.{sym, ap, ◌∙◌, ℕ, ◌+◌, arith}
use Rattle.frames.specs.Paper.Frames.{first_head, record_in}
use Rattle.frames.specs.Laws.Forms.{first_parts}
use Rattle.frames.proofs.read_first.record_in.Goals as goal

pub two_at-sigma-requires : goal.two_at-sigma-requires
two_at-sigma-requires c = let p = first_parts c.args.line.now c.requires in (p.hex, omega (arith, p.size), omega arith)

pub byte_at-requires : goal.byte_at-requires
byte_at-requires c = let p = first_parts c.args.line.now c.requires in (p.hex, omega (arith, p.size))

pub byte_at-requires-2 : goal.byte_at-requires-2
byte_at-requires-2 c = let p = first_parts c.args.line.now c.requires in (p.hex, omega (arith, p.size))

pub places_in-requires : goal.places_in-requires
places_in-requires c =
    let p = first_parts c.args.line.now c.requires in
    (p.hex, p.size ∙ ap (λ (n : ℕ). first_head + n) (sym (c.from.ensures ∙ c.two_at-sigma.ensures)))

pub four_at-requires : goal.four_at-requires
four_at-requires c = let p = first_parts c.args.line.now c.requires in (p.hex, omega (arith, p.size), omega arith)

pub four_at-requires-2 : goal.four_at-requires-2
four_at-requires-2 c = let p = first_parts c.args.line.now c.requires in (p.hex, omega (arith, p.size), omega arith)

pub returns : goal.returns
unfolding record_in
returns c =
    rw (c.byte_at.ensures, c.byte_at-2.ensures, c.two_at-sigma.ensures, c.places_in.ensures, c.four_at.ensures, c.four_at-2.ensures)
