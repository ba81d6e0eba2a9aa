-- `symbols::gather::add` meets its contract.
use Rattle.std.proofs.Common.{◌≡◌, ◌++◌, ◌+◌, ◌*◌, ◌%◌, ◌^◌, ◌≤◌, ◌<◌, ℕ, List, refl, ◌∙◌, append-nil, take, arith}
use lib.Pow.{pow_mono, shl_exact}
use Rattle.symbols.specs.Paper.Symbols.{per, symbols_of}
use Rattle.symbols.specs.Helpers.Gathered.{digits, gathered, Waiting}
use Rattle.symbols.specs.Helpers.Widths.{Width}
use Rattle.symbols.specs.Laws.Gathered.{digits_length, bits_under, joined_small, waiting_more}
use Rattle.symbols.specs.Laws.Width.{by_width, per_few}
use Rattle.symbols.specs.declared.gather.Gather.{Gather}
use Rattle.symbols.proofs.gather.add.Goals as goal

-- a row of `count` symbols behind those that wait
module _ {k : ℕ} (w : Width k) {g : Gather} {buf : List ℕ} (count bits : ℕ) (h : Waiting k g buf count) (most : count ≤ 8) (l : bits < 2 ^ (k * count)) where
  -- the bits of the row, and of all that wait
  few : k * count ≤ 32
  few = by_width (λ k. k * count ≤ 32) w (omega arith) (omega arith)

  all_few : k * (g.count + count) ≤ 64
  all_few = omega (arith, few, bits_under w 4 h.few)

  -- nothing is shifted out
  shifted : (g.bits * 2 ^ (k * count)) % 2 ^ 64 ≡ g.bits * 2 ^ (k * count)
  shifted = shl_exact (k * g.count) (k * count) 64 h.small (omega (arith, all_few))

  small : (g.bits * 2 ^ (k * count)) % 2 ^ 64 + bits < 2 ^ (k * (g.count + count))
  small = rw shifted (joined_small k g.count count g.bits bits h.small l)

  fits : (g.bits * 2 ^ (k * count)) % 2 ^ 64 + bits < 2 ^ 64
  fits = omega (arith, small, pow_mono all_few)

  -- the row fills four bytes at most
  many : count ≤ 4 * per k
  unfolding per
  many = by_width (λ k. count ≤ 4 * per k) w (omega arith) (omega arith)

  -- all that wait, as one number
  joined : (front : List ℕ)
      → front ++ digits (2 ^ k) (g.count + count) ((g.bits * 2 ^ (k * count)) % 2 ^ 64 + bits)
      ≡ (front ++ digits (2 ^ k) g.count g.bits) ++ digits (2 ^ k) count bits
  joined front = rw shifted (waiting_more k g.count count g.bits bits front l)

pub overflow_mul-all : goal.overflow_mul-all
overflow_mul-all c = rw c.from.ensures (omega (arith, few c.requires.0 c.args.count c.args.bits c.requires.1 c.requires.2 c.requires.3))

pub overflow_shl-all : goal.overflow_shl-all
overflow_shl-all c = rw c.from.ensures (omega (arith, few c.requires.0 c.args.count c.args.bits c.requires.1 c.requires.2 c.requires.3))

pub overflow_add-all : goal.overflow_add-all
overflow_add-all c = rw (c.from.ensures, c.from-2.ensures) (omega (arith, fits c.requires.0 c.args.count c.args.bits c.requires.1 c.requires.2 c.requires.3))

pub overflow_mul-per_byte : goal.overflow_mul-per_byte
overflow_mul-per_byte c = omega (arith, c.per_byte.ensures, per_few c.requires.0)

pub returns-then-all-per_byte : goal.returns-then-all-per_byte
unfolding gathered
returns-then-all-per_byte c =
    let k = c.args.k in
    rw (c.from.ensures, c.from-2.ensures) record {
      few = rw c.per_byte.ensures at c.if-all-per_byte.true;
      small = small c.requires.0 c.args.count c.args.bits c.requires.1 c.requires.2 c.requires.3;
      onward = omega arith;
      upto = rw digits_length (omega arith);
      symbols = joined c.requires.0 c.args.count c.args.bits c.requires.1 c.requires.2 c.requires.3 (symbols_of k (take c.args.g.next c.args.buf.now));
      rest = refl;
    }

pub store-requires : goal.store-requires
store-requires c = (
  c.requires.0,
  omega (arith, c.requires.1.few, c.per_byte.ensures, many c.requires.0 c.args.count c.args.bits c.requires.1 c.requires.2 c.requires.3),
  rw (c.from.ensures, c.from-2.ensures) (small c.requires.0 c.args.count c.args.bits c.requires.1 c.requires.2 c.requires.3),
  omega (arith, c.requires.1.within),
)

pub returns : goal.returns
unfolding gathered
returns c =
    let k = c.args.k in
    let s = c.store.ensures in
    record {
      few = s.few;
      small = s.small;
      onward = s.onward;
      upto = rw digits_length (omega (arith, s.upto));
      symbols =
          (rw (append-nil, c.from.ensures, c.from-2.ensures) at s.symbols)
          ∙ joined c.requires.0 c.args.count c.args.bits c.requires.1 c.requires.2 c.requires.3 (symbols_of k (take c.args.g.next c.args.buf.now));
      rest = s.rest;
    }
