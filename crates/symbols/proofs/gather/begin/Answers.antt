-- `symbols::gather::begin` meets its contract.
use Rattle.std.proofs.Common.{◌≡◌, ◌+◌, ◌-◌, ◌*◌, ◌/◌, ◌%◌, ◌^◌, ◌≤◌, ◌<◌, ℕ, List, sym, ap, ◌∙◌, length, take, get_or, append-nil, arith, mod-lt, div-add-mod', pow_pos}
use lib.Pow.{shr_lt}
use Rattle.symbols.specs.Paper.Symbols.{per, symbols_of}
use Rattle.symbols.specs.Helpers.Gathered.{digits, gathered}
use Rattle.symbols.specs.Helpers.Widths.{Width}
use Rattle.symbols.specs.Laws.Gathered.{bits_under}
use Rattle.symbols.specs.Laws.Rows.{starts_within, symbols_take}
use Rattle.symbols.specs.Laws.Width.{per_pos, per_few}
use Rattle.symbols.proofs.Laws.Gathered.{begun}
use Rattle.symbols.proofs.gather.begin.Goals as goal

-- symbol p is symbol `count` of byte `next`
record Place (k p next count : ℕ) : Type 0 where
  at : next * per k + count ≡ p
  within : count < per k
  bits : k * count < 8

place : {k : ℕ} → Width k → (p : ℕ) {next count : ℕ} → next ≡ p / per k → count ≡ p % per k → Place k p next count
place {k} w p {next} {count} e f =
    let within : count < per k = rw f (mod-lt p (per_pos w)) in
    let l : count < 1 * per k = omega arith in
    record {
      at = rw (f, e) (div-add-mod' p (per k));
      within = within;
      bits = bits_under w 1 l;
    }

-- with symbols before it in its byte, the byte is there
there : {k : ℕ} → Width k → (buf : List ℕ) {p next count : ℕ} → Place k p next count → p ≤ length (symbols_of k buf) → (count ≡ 0 → ⊥)
    → next < length buf
there w buf h l n = starts_within w buf _ (omega (arith, h.at))

pub returns-then-count-eq0 : goal.returns-then-count-eq0
unfolding gathered digits
returns-then-count-eq0 c =
    let k = c.args.k in
    let h = place c.requires.0 c.args.p c.byte_of-next.ensures c.place_in_byte-count.ensures in
    let e : c.place_in_byte-count.result ≡ 0 = c.if-count-eq0.true in
    let f : c.byte_of-next.result * per k ≡ c.args.p = omega (arith, h.at) in
    record {
      few = (omega (arith, h.within), pow_pos (k * c.place_in_byte-count.result));
      upto = h.at;
      symbols =
          rw (e, append-nil)
          (sym (symbols_take c.requires.0 c.byte_of-next.result c.args.buf.now)
          ∙ ap (λ (n : ℕ). take n (symbols_of k c.args.buf.now)) f);
    }

pub overflow_cast-low : goal.overflow_cast-low
overflow_cast-low c =
    let h = place c.requires.0 c.args.p c.byte_of-next.ensures c.place_in_byte-count.ensures in
    omega (arith, h.within, per_few c.requires.0)

pub overflow_mul-low : goal.overflow_mul-low
overflow_mul-low c = omega (arith, (place c.requires.0 c.args.p c.byte_of-next.ensures c.place_in_byte-count.ensures).bits)

pub overflow_sub-low : goal.overflow_sub-low
overflow_sub-low c = omega (arith, (place c.requires.0 c.args.p c.byte_of-next.ensures c.place_in_byte-count.ensures).bits)

pub bounds-buf-next : goal.bounds-buf-next
bounds-buf-next c =
    let h = place c.requires.0 c.args.p c.byte_of-next.ensures c.place_in_byte-count.ensures in
    there c.requires.0 c.args.buf.now h c.requires.1 c.if-count-eq0.false

pub returns : goal.returns
unfolding gathered
returns c =
    let w = c.requires.0 in
    let k = c.args.k in
    let buf = c.args.buf.now in
    let n = c.place_in_byte-count.result in
    let j = c.byte_of-next.result in
    let h = place w c.args.p c.byte_of-next.ensures c.place_in_byte-count.ensures in
    let e : k * n + (8 - k * n) ≡ 8 = omega (arith, h.bits) in
    let byte : get_or buf j 0 < 2 ^ (k * n + (8 - k * n)) = rw e (c.type_inv.buf j).fits in
    record {
      few = (omega (arith, h.within), rw c.from.ensures (shr_lt (k * n) (8 - k * n) byte));
      upto = h.at;
      symbols =
          rw c.from.ensures (begun w buf j n (there w buf h c.requires.1 c.if-count-eq0.false) (omega (arith, h.within)))
          ∙ ap (λ (m : ℕ). take m (symbols_of k buf)) h.at;
    }
