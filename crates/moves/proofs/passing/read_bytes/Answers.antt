-- `moves::passing::read_bytes` meets its contract: all symbols taken and no codeword open, or the open one is bad.
use Rattle.std.proofs.Common.{◌≡◌, sym, ap, subst, ◌∙◌, ℕ, ◌*◌, ◌/◌, ◌≤◌, arith}
use native.Mathlib.Nat.{le-div_iff_mul-le, mul-le-mul_right}
use Rattle.stopper.specs.Laws.Table.{code_width}
use Rattle.symbols.specs.Paper.Symbols.{per}
use Rattle.symbols.specs.Helpers.Widths.{Width}
use Rattle.symbols.specs.Laws.Width.{per_pos, by_width}
use Rattle.reading.specs.Helpers.Codewords.{row_of}
use Rattle.moves.specs.Helpers.Moves.{Here}
use Rattle.moves.specs.Laws.Moves.{here_start}
use Rattle.reading.specs.declared.packed.Packed.{Packed}
use Rattle.moves.proofs.passing.read_bytes.Goals as goal

-- the first symbols fill bytes
first_bytes_lem : (k : ℕ) → Width k → 1024 / per k * per k ≡ 1024
unfolding per
first_bytes_lem k w = by_width (λ k. 1024 / per k * per k ≡ 1024) w (omega arith) (omega arith)

module _ (s : Packed) (most : 1024 ≤ s.h) where
  pub width : Width s.ranks.good.code.k
  width = code_width s.ranks.good.code s.ranks.good.good

  -- so many whole bytes there are
  pub whole : {n : ℕ} → n ≡ s.h / per s.ranks.good.code.k → n * per s.ranks.good.code.k ≤ s.h
  whole e = (le-div_iff_mul-le (per_pos width)).0 (omega (arith, e))

  -- and so many are passed, after the first symbols
  pub passed : {n at : ℕ} → n ≡ 1024 / per s.ranks.good.code.k → at ≤ 1024 → 1024 ≤ at → n * per s.ranks.good.code.k ≡ at
  passed e l m = ap (λ (n : ℕ). n * per s.ranks.good.code.k) e ∙ first_bytes_lem s.ranks.good.code.k width ∙ omega arith

  pub begun : {n m : ℕ} → n ≡ 1024 / per s.ranks.good.code.k → m ≡ s.h / per s.ranks.good.code.k → n ≤ m
  begun e f =
      let q : 1024 / per s.ranks.good.code.k ≤ s.h / per s.ranks.good.code.k = (le-div_iff_mul-le (per_pos width)).1 (omega (arith, first_bytes_lem s.ranks.good.code.k width)) in
      omega (arith, e, f)

  -- so many symbols are passed then
  pub rest : {at m n : ℕ} → at ≤ m → m ≡ s.h / per s.ranks.good.code.k → n ≡ per s.ranks.good.code.k → (at * n ≡ at * per s.ranks.good.code.k) × (at * per s.ranks.good.code.k ≤ s.h)
  rest {at} l e f = (ap (λ (n : ℕ). at * n) f, omega (arith, mul-le-mul_right (per s.ranks.good.code.k) l, whole e))

pub byte_of-requires : goal.byte_of-requires
byte_of-requires c = width c.args.packed.now c.requires

pub byte_of-requires-2 : goal.byte_of-requires-2
byte_of-requires-2 c = width c.args.packed.now c.requires

pub per_byte-requires : goal.per_byte-requires
per_byte-requires c = width c.args.packed.now c.requires

pub by_symbols-few-requires : goal.by_symbols-few-requires
by_symbols-few-requires c = let s = c.args.packed.now in (c.requires, omega arith, here_start s.ranks.good.code s.ranks.sigma (row_of s), omega arith)

pub told-requires : goal.told-requires
told-requires c =
    let z = c.by_symbols-few.ensures in
    (omega (arith, z.0, c.requires), z.1, λ _. z.3 c.if-few-lt-FIRST.true)

pub by_bytes-bytes-requires : goal.by_bytes-bytes-requires
by_bytes-bytes-requires c =
    let s = c.args.packed.now in
    let z = c.by_symbols-few.ensures in
    let e = passed s c.requires c.byte_of.ensures z.0 c.if-few-lt-FIRST.false in
    let at : ℕ → Type 0 = λ n. Here s.ranks.good.code s.ranks.sigma (row_of s) n c.by_symbols-few.result.x c.by_symbols-few.result.n in
    (whole s c.requires c.byte_of-2.ensures, begun s c.requires c.byte_of.ensures c.byte_of-2.ensures, subst at (sym e) z.1, z.2)

pub overflow_mul-rest : goal.overflow_mul-rest
overflow_mul-rest c =
    let s = c.args.packed.now in
    let (e, l) = rest s c.requires c.by_bytes-bytes.ensures.0 c.byte_of-2.ensures c.per_byte.ensures in
    omega (arith, e, l, s.small)

pub by_symbols-all-requires : goal.by_symbols-all-requires
by_symbols-all-requires c =
    let s = c.args.packed.now in
    let z = c.by_bytes-bytes.ensures in
    let (e, l) = rest s c.requires z.0 c.byte_of-2.ensures c.per_byte.ensures in
    let at : ℕ → Type 0 = λ n. Here s.ranks.good.code s.ranks.sigma (row_of s) n c.by_bytes-bytes.result.x c.by_bytes-bytes.result.n in
    (omega arith, omega (arith, e, l), subst at (sym e) z.1, z.2)

pub told-requires-2 : goal.told-requires-2
told-requires-2 c =
    let z = c.by_symbols-all.ensures in
    (z.0, z.1, z.3)
