-- `jump::scanning::is_hit_in` meets its contract.
use Rattle.std.proofs.Common.{◌≡◌, ℕ, ◌+◌, ◌-◌, ◌*◌, ◌≤◌, ◌<◌, length, get_or, sym, ap, ◌∙◌, arith, mul-le-mul_right, le_of_mul-le-mul_right}
use Rattle.ground.specs.Laws.Rows.{below_all}
use Rattle.stopper.specs.Laws.Table.{code_width}
use Rattle.symbols.specs.Paper.Symbols.{per}
use Rattle.symbols.specs.Laws.Width.{per_pos, per_few}
use Rattle.symbols.specs.Laws.Rows.{symbols_length}
use Rattle.jump.specs.Laws.Sought.{windows_fit}
use Rattle.jump.specs.Laws.Windows.{last_byte}
use Rattle.jump.proofs.scanning.is_hit_in.Goals as goal

pub per_byte-per-requires : goal.per_byte-per-requires
per_byte-per-requires c = let s = c.args.windows.now.searched in code_width s.good.code s.good.good

pub bounds-searched-f : goal.bounds-searched-f
bounds-searched-f c =
    let w = c.args.windows.now in
    let s = w.searched in
    let inside : c.args.f + w.sought.v.wide ≤ length s.buf.now
    = le_of_mul-le-mul_right (omega (arith, c.requires.0, s.inside, symbols_length s.good.code.k s.buf.now)) (per_pos (code_width s.good.code s.good.good)) in
    omega (arith, inside, (windows_fit w).some, (windows_fit w).sum)

pub bounds-row-f : goal.bounds-row-f
bounds-row-f c =
    let w = c.args.windows.now in
    let s = w.searched in
    omega (arith, (windows_fit w).few, c.requires.1, c.requires.2, ap (λ (n : ℕ). c.args.f * n) c.per_byte-per.ensures, per_few (code_width s.good.code s.good.good))

pub returns : goal.returns
returns c =
    let w = c.args.windows.now in
    let s = w.searched in
    let v = w.sought.v in
    let a : ℕ = c.args.a in
    let f : ℕ = c.args.f in
    let q : ℕ = per s.good.code.k in
    let o : ℕ = f * q + v.free - a in
    let row = w.ends c.in-Some.row c.in-Some.is in
    let e : f * c.per_byte-per.result + v.free - a ≡ o = ap (λ (n : ℕ). f * n + v.free - a) c.per_byte-per.ensures in
    let one : (f + 1) * q ≤ (f + v.wide) * q = mul-le-mul_right q (omega (arith, row.0)) in
    let lo : o < q = omega (arith, c.requires.1, (windows_fit w).few) in
    let there = last_byte s.good.code s.good.good (below_all 256 s.buf.now s.bytes) s.h s.inside w.sought.symbols.now v (windows_fit w) a o f (omega (arith, one, c.requires.0, c.requires.2, (windows_fit w).few)) in (
      (λ x. absurd x),
      (λ x.
          c.if-searched-f.true
          (there x.0 lo (omega (arith, c.requires.2)) row.0 ∙ sym (ap (λ (n : ℕ). get_or c.in-Some.row n 0) e ∙ row.1 o lo))),
    )
