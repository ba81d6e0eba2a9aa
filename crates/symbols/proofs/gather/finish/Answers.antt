-- `symbols::gather::finish` meets its contract: the symbols passed are laid over the row.
use Rattle.std.proofs.Common.{◌≡◌, ◌+◌, ◌-◌, ◌*◌, ◌/◌, ◌%◌, ◌^◌, ◌≤◌, ◌<◌, ℕ, List, sym, ap₂, ◌∙◌, length, arith, add-zero, mul-zero, div-one, mod-lt, pow_pos}
use Rattle.std.proofs.Math.Nat.{sub_self, pow-zero}
use Rattle.ground.specs.Paper.Runs.{over}
use Rattle.ground.specs.Laws.Runs.{over_none, over_more}
use Rattle.symbols.specs.Paper.Symbols.{per, symbols_of}
use Rattle.symbols.specs.Helpers.Gathered.{digits, Waiting}
use Rattle.symbols.specs.Helpers.Widths.{Width}
use Rattle.symbols.specs.Laws.Gathered.{digits_length, bits_under, laid_more}
use Rattle.symbols.specs.Laws.Rows.{symbols_even}
use Rattle.symbols.specs.Laws.Width.{narrow}
use Rattle.symbols.specs.declared.gather.Gather.{Gather}
use Rattle.symbols.proofs.gather.finish.Goals as goal

-- what waits is within the number, and has its place in the row
module _ {k : ℕ} (w : Width k) {g : Gather} {buf : List ℕ} (h : Waiting k g buf 0) where
  within : (n : ℕ) → n ≤ g.count → k * n < 4 * 8
  within n l = bits_under w 4 (omega (arith, h.few))

  there : (i : ℕ) → i < g.count → g.next * per k + i < length (symbols_of k buf)
  there i l = omega (arith, h.within)

pub overflow_mul-first : goal.overflow_mul-first
overflow_mul-first c = rw c.per_byte.ensures (omega (arith, c.requires.1.counts))

pub loop-i-init : goal.loop-i-init
unfolding digits
loop-i-init c = sym (rw add-zero (over_none (symbols_of c.args.k c.args.buf.now) (c.args.g.next * c.per_byte.result)))

pub overflow_add-first : goal.overflow_add-first
overflow_add-first c = rw c.per_byte.ensures (omega (arith, c.requires.1.counts))

pub overflow_mul-wide : goal.overflow_mul-wide
overflow_mul-wide c = rw c.from-wide.ensures (omega (arith, within c.requires.0 c.requires.1 (c.args.g.count - 1 - c.loop-i.i) (omega arith)))

pub piece-y-requires : goal.piece-y-requires
piece-y-requires c =
    let w = c.requires.0 in
    rw c.from-wide.ensures (omega (arith, within w c.requires.1 (c.args.g.count - 1 - c.loop-i.i) (omega arith)), omega (arith, narrow w))

pub put-requires : goal.put-requires
put-requires c =
    let k = c.args.k in (
      c.requires.0,
      rw c.per_byte.ensures
          (omega (arith, there c.requires.0 c.requires.1 c.loop-i.i c.loop-i-test.true, symbols_even k c.loop-i.buf c.args.buf.now c.loop-i.auto.buf)),
      rw (c.piece-y.ensures, c.from-wide.ensures) (mod-lt (c.args.g.bits / 2 ^ (k * (c.args.g.count - 1 - c.loop-i.i))) (pow_pos k)),
    )

pub loop-i-preserved : goal.loop-i-preserved
loop-i-preserved c =
    let k = c.args.k in
    let v = c.args.g.bits in
    let row = symbols_of k c.args.buf.now in
    let first = c.args.g.next * c.per_byte.result in
    let i = c.loop-i.i in
    let n = c.args.g.count - 1 - i in
    let e : c.args.g.count - i ≡ n + 1 = omega arith in
    let f : c.args.g.count - (i + 1) ≡ n = omega arith in
    let g : first + i + 1 ≡ first + (i + 1) = omega arith in
    let done = digits (2 ^ k) i (v / 2 ^ (k * (n + 1))) in
    let before : symbols_of k c.loop-i.buf ≡ over row first done (first + i) = rw e at c.loop-i.invariant in
    rw f
    (c.put.ensures
    ∙ rw (c.piece-y.ensures, c.from-wide.ensures, before)
    (over_more row first done (first + i) (v / 2 ^ (k * n) % 2 ^ k) (omega (arith, digits_length (2 ^ k) i (v / 2 ^ (k * (n + 1)))))
    (rw c.per_byte.ensures (there c.requires.0 c.requires.1 i c.loop-i-test.true))
    ∙ ap₂ (λ (xs : List ℕ) (to : ℕ). over row first xs to) (sym (laid_more k i n v)) g))

pub returns : goal.returns
returns c =
    let e : c.loop-i.i ≡ c.args.g.count = omega arith in
    rw (e, sub_self, mul-zero, pow-zero, div-one, c.per_byte.ensures) at c.loop-i.invariant
