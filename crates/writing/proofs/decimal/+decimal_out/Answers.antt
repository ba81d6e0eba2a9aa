-- `writing::decimal::decimal_out` meets its contract: a digit alone, or the last behind the digits of the rest.
use Rattle.std.proofs.Common.{◌≡◌, ℕ, ◌+◌, ◌/◌, ◌%◌, ◌≤◌, ◌<◌, ◌^◌, List, [], ◌∷◌, ap, length, length-append, set, arith}
use Rattle.ground.specs.Paper.Runs.{over}
use Rattle.writing.specs.Paper.Written.{glyph, decimal}
use Rattle.writing.specs.Laws.Written.{Going, glyph_low, decimal_one, decimal_last, going_none, going_as, going_room, going_more, going_byte, going_all}
use Rattle.writing.proofs.decimal.+decimal_out.Goals as goal

module _ (out : List ℕ) (at n : ℕ) (fits : at + length (decimal n) ≤ length out) where
  -- a digit alone
  one : n < 10 → Going (decimal n) out at (set out at (48 + n)) (at + 1) []
  one l = rw (glyph_low n l) (going_byte fits (going_as (decimal_one n l) (going_none (decimal n) out at)))

  -- the digits before the last
  rest : {out' : List ℕ} {last : ℕ} → 10 ≤ n → n < 2 ^ 64 → last ≡ at + length (decimal (n / 10))
      → out' ≡ over out at (decimal (n / 10)) (at + length (decimal (n / 10))) → Going (decimal n) out at out' last (glyph (n % 10) ∷ [])
  rest l w e r = going_more fits (decimal (n / 10)) (going_as (decimal_last n l w) (going_none (decimal n) out at)) r e

pub bounds-out-at : goal.bounds-out-at
bounds-out-at t c = omega (arith, ap length (decimal_one c.args.n c.if-n-lt10.true))

pub returns-then-n-lt10 : goal.returns-then-n-lt10
returns-then-n-lt10 t c =
    let a = c.args in
    let g = going_all c.requires (one a.out.now a.at a.n c.requires c.if-n-lt10.true) in
    record { next = g.0; out = g.1 }

pub decimal_out-last-requires : goal.decimal_out-last-requires
decimal_out-last-requires t c =
    omega (arith, simp length-append at (ap length (decimal_last c.args.n c.if-n-lt10.false c.ranges.n.fits)))

pub bounds-out-last : goal.bounds-out-last
bounds-out-last t c =
    let a = c.args in
    let d = c.decimal_out-last.ensures in
    omega (arith, going_room c.requires (rest a.out.now a.at a.n c.requires c.if-n-lt10.false c.ranges.n.fits d.next d.out))

pub returns : goal.returns
returns t c =
    let a = c.args in
    let d = c.decimal_out-last.ensures in
    let g = going_all c.requires (going_byte c.requires (rest a.out.now a.at a.n c.requires c.if-n-lt10.false c.ranges.n.fits d.next d.out)) in
    record { next = g.0; out = rw (glyph_low (a.n % 10) (omega arith)) g.1 }
