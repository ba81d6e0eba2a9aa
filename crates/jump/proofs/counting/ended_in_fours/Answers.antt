-- `jump::counting::ended_in_fours` meets its contract: the continuers in the first j bytes of each third are counted.
use Rattle.std.proofs.Common.{◌≡◌, List, [], ◌∷◌, ℕ, ◌+◌, ◌*◌, ◌/◌, ◌%◌, ◌<◌, T, length, get_or, ap, arith}
use Rattle.stopper.specs.Paper.Table.{stoppers, good_code}
use Rattle.stopper.specs.declared.code.Code.{Code}
use Rattle.symbols.specs.Paper.Symbols.{per, symbols_of}
use Rattle.sound.specs.Helpers.Ends.{stops}
use Rattle.jump.specs.Helpers.Counting.{number_at}
use Rattle.jump.specs.Laws.Counting.{number_byte, three_sums}
use Rattle.jump.proofs.counting.ended_in_fours.Goals as goal

-- a byte more: the codewords that end in it and its continuers are four
byte_more : (code : Code) → T (good_code code) → (buf : List ℕ) (p j sums : ℕ) → p + j < length buf
    → sums % 16 + sums / 16 + stops (stoppers code) 0 (symbols_of code.k (get_or buf (p + j) 0 ∷ [])) ≡ 4
    → sums % 16 + sums / 16 + number_at code buf ((p + (j + 1)) * per code.k) ≡ number_at code buf ((p + j) * per code.k) + 4
byte_more code g buf p j sums h e =
    let z : p + (j + 1) ≡ p + j + 1 = omega arith in
    omega (arith, e, ap (λ (q : ℕ). number_at code buf (q * per code.k)) z, number_byte code g buf (p + j) h)

pub loop-j-preserved : goal.loop-j-preserved
loop-j-preserved c =
    let x = c.continuers_of-first in
    let y = c.continuers_of-second in
    let z = c.continuers_of-third in
    let i : ℕ = c.args.i in
    let j : ℕ = c.loop-j.j in
    let long = c.requires.1 in
    let lt = c.loop-j-test.true in
    let t = three_sums x.result y.result z.result x.ensures.1 y.ensures.1 z.ensures.1 in
    let more = byte_more c.args.good.code c.args.good.good c.args.buf.now in (
      omega (arith, c.loop-j.invariant.0, t, x.ensures.1, x.ensures.2, y.ensures.1, y.ensures.2, z.ensures.1, z.ensures.2),
      omega (
        arith,
        c.loop-j.invariant.1,
        t,
        more i j x.result (omega (arith, long, lt)) x.ensures.0,
        more (i + 16) j y.result (omega (arith, long, lt)) y.ensures.0,
        more (i + 32) j z.result (omega (arith, long, lt)) z.ensures.0,
      ),
    )
