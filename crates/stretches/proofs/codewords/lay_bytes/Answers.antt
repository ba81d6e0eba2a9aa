-- `stretches::codewords::lay_bytes` meets its contract.
use Rattle.std.proofs.Common.{◌≡◌, ℕ, ◌*◌, ap, arith, add-mul, mul-le-mul_right}
use Rattle.symbols.specs.Paper.Symbols.{per}
use Rattle.symbols.specs.Laws.Rows.{symbols_length}
use Rattle.symbols.specs.Laws.Width.{per_pos}
use Rattle.stretches.specs.Laws.Codewords.{bytes_more}
use Rattle.stretches.proofs.codewords.lay_bytes.Goals as goal

pub nonzero_div-per : goal.nonzero_div-per
nonzero_div-per c = omega (arith, per_pos c.requires.0)

pub loop-j-preserved : goal.loop-j-preserved
loop-j-preserved c =
    let (few, inside, filled) = c.loop-j.invariant in
    (few, inside, bytes_more c.requires.0 c.args.piece.now c.args.first c.loop-j.j _ c.per_byte-per.ensures c.loop-j.row _ filled c.lay_byte.ensures)

pub returns : goal.returns
returns c =
    let (few, inside, filled) = c.loop-j.invariant in
    let k = c.args.k in
    let n = c.min-n.result in
    let all : c.loop-j.j ≡ n = omega arith in
    let same : n * c.per_byte-per.result ≡ n * per k = ap (λ (m : ℕ). n * m) c.per_byte-per.ensures in
    record {
      long = filled.0;
      few = few;
      inside = omega (arith, same, mul-le-mul_right (per k) inside, add-mul c.args.first n (per k), symbols_length k c.args.piece.now);
      symbols = λ i h. filled.1 i (omega (arith, h, ap (λ (m : ℕ). m * c.per_byte-per.result) all));
    }
