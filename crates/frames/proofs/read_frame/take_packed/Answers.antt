-- `frames::read_frame::take_packed` meets its contract: the bytes passed are laid over the front.
use Rattle.std.proofs.Common.{sym, ◌∙◌, ap₂, ℕ, List, set, arith}
use Rattle.ground.specs.Laws.Runs.{front_more}
use Rattle.frames.specs.Paper.Frames.{packed_in}
use Rattle.frames.specs.Laws.Forms.{later_parts, packed_at}
use Rattle.frames.proofs.read_frame.take_packed.Goals as goal

pub byte_at-requires : goal.byte_at-requires
byte_at-requires c =
    let p = later_parts c.args.line.now c.requires.0 in
    (p.hex, omega (arith, p.size, c.requires.1))

pub loop-i-preserved : goal.loop-i-preserved
loop-i-preserved c =
    let line = c.args.line.now in
    let i = c.loop-i.i in
    ap₂ (λ (row : List ℕ) (b : ℕ). set row i b) c.loop-i.invariant (c.byte_at.ensures ∙ sym (packed_at line i))
    ∙ front_more c.args.out.now (packed_in line) i (omega (arith, c.requires.1)) (omega arith)
