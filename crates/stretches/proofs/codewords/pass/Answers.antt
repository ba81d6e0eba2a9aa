-- `stretches::codewords::pass` meets its contract.
use Rattle.std.proofs.Common.{◌≡◌, ℕ, ◌+◌, ◌-◌, ◌*◌, ◌/◌, ◌%◌, ◌≤◌, ap₂, ◌∙◌, arith}
use Rattle.std.proofs.Math.Nat.{div-add-mod', le_of_mul-le-mul_right}
use Rattle.ground.specs.Paper.Runs.{run}
use Rattle.ground.specs.Laws.Tests.{true_yes}
use Rattle.stopper.specs.Laws.Table.{code_width, code_base}
use Rattle.symbols.specs.Paper.Symbols.{per, symbols_of}
use Rattle.symbols.specs.Laws.Rows.{symbols_length}
use Rattle.symbols.specs.Laws.Width.{per_pos}
use Rattle.stretches.specs.Laws.Codewords.{run_laid, small_laid}
use Rattle.stretches.proofs.codewords.pass.Goals as goal

-- the byte of the first symbol, and its place there
place_is : (k from : ℕ) {byte skip : ℕ} → byte ≡ from / per k → skip ≡ from % per k → byte * per k + skip ≡ from
place_is k from a b = ap₂ (λ (i j : ℕ). i * per k + j) a b ∙ div-add-mod' from (per k)

pub place_in_byte-skip-requires : goal.place_in_byte-skip-requires
place_in_byte-skip-requires c = let a = c.args.alphabet.now in code_width a.ranks.good.code a.ranks.good.good

pub byte_of-requires : goal.byte_of-requires
byte_of-requires c = let a = c.args.alphabet.now in code_width a.ranks.good.code a.ranks.good.good

pub lay_out-laid-requires : goal.lay_out-laid-requires
lay_out-laid-requires c =
    let a = c.args.alphabet.now in
    let k = a.ranks.good.code.k in
    let width = code_width a.ranks.good.code a.ranks.good.good in
    let at = place_is k c.args.from c.byte_of.ensures c.place_in_byte-skip.ensures in
    (width, le_of_mul-le-mul_right (omega (arith, at, symbols_length k c.args.piece.now)) (per_pos width))

pub pass_all-requires : goal.pass_all-requires
pass_all-requires c =
    let a = c.args.alphabet.now in
    let z = c.lay_out-laid.ensures in
    let (after, upto) = c.in-Some.ensures in
    let near : c.in-Some.to ≤ c.lay_out-laid.result = omega arith in
    record {
      order = after;
      near = omega (arith, z.few);
      inside = omega (arith, z.few, z.long);
      small = λ i h. omega (arith, small_laid z i (omega arith), (code_base a.ranks.good.code a.ranks.good.good).1);
      long = c.loop-to.invariant.0;
    }

pub returns-in-Ok : goal.returns-in-Ok
returns-in-Ok c =
    let k = c.args.alphabet.now.ranks.good.code.k in
    let from = c.args.from in
    let skip = c.place_in_byte-skip.result in
    let to = c.in-Some.to in
    let z = c.in-Ok.ensures in
    let (after, upto) = c.in-Some.ensures in
    let at : c.byte_of.result * per k + skip ≡ from = place_is k from c.byte_of.ensures c.place_in_byte-skip.ensures in
    let end : c.byte_of.result * per k + to ≡ from - skip + to = omega arith in
    let same = run_laid c.lay_out-laid.ensures skip to (omega arith) (omega arith) ∙ ap₂ (run (symbols_of k c.args.piece.now)) at end in
    record {
      long = z.long;
      begins = c.begins.ensures (true_yes _ c.if-not-begins.false);
      on = omega arith;
      within = omega arith;
      few = z.few;
      whole = rw (← same) z.whole;
    }
