-- `sound::ends::pass_ends` meets its contract: from byte j on some codewords are left.
use Rattle.std.proofs.Common.{◌≡◌, refl, ap, ◌∙◌, ℕ, ◌+◌, ◌-◌, ◌*◌, ◌<◌, List, [], ◌∷◌, length, get_or, arith}
use Rattle.stopper.specs.Paper.Table.{stoppers}
use Rattle.stopper.specs.Laws.Table.{code_width}
use Rattle.stopper.specs.declared.code.Code.{Code}
use Rattle.symbols.specs.Paper.Symbols.{per, symbols_of}
use Rattle.sound.specs.Helpers.Ends.{Passing, stops, end_from, stops_by_byte}
use Rattle.sound.specs.Laws.Stops.{stops_long, stops_at, passing_first, passing_last, passing_ending, passing_rest, byte_inside, passing_byte}
use Rattle.sound.proofs.ends.pass_ends.Goals as goal

-- byte j is passed whole: so many codewords end in it, as the table says
module _ {code : Code} {buf : List ℕ} {p count left : ℕ} (j : ℕ) (a : Passing code buf p count (j * per code.k) left) (some : 0 < left) where
  inside : j < length buf
  inside = byte_inside a j refl some

  byte_passed : {table : List ℕ} {b ended : ℕ} → table ≡ stops_by_byte code → b ≡ get_or buf j 0 → b < 256 → ended ≡ get_or table b 0 → ended < left
      → Passing code buf p count ((j + 1) * per code.k) (left - ended)
  byte_passed {b = b} {ended} table_is b_is small is h =
      passing_byte a j refl some ended
      (is
      ∙ ap (λ (xs : List ℕ). get_or xs b 0) table_is
      ∙ stops_at code b small
      ∙ ap (λ (x : ℕ). stops (stoppers code) 0 (symbols_of code.k (x ∷ []))) b_is) h

pub returns-then-count-eq0 : goal.returns-then-count-eq0
returns-then-count-eq0 c = passing_last (passing_first c.requires) c.if-count-eq0.true

pub byte_of-j-requires : goal.byte_of-j-requires
byte_of-j-requires c = code_width c.args.stops.now.good.code c.requires.good

pub bounds-buf-j : goal.bounds-buf-j
bounds-buf-j c = inside c.loop-left.j c.loop-left.invariant.0 c.loop-left.invariant.1

pub bounds-stops-from : goal.bounds-stops-from
bounds-stops-from c =
    omega (arith, c.from.ensures, c.type_inv.buf c.loop-left.j, ap length c.args.stops.now.known, stops_long c.args.stops.now.good.code)

pub overflow_add-j : goal.overflow_add-j
overflow_add-j c = omega (arith, inside c.loop-left.j c.loop-left.invariant.0 c.loop-left.invariant.1)

pub loop-left-smaller : goal.loop-left-smaller
loop-left-smaller c = omega (arith, inside c.loop-left.j c.loop-left.invariant.0 c.loop-left.invariant.1)

pub loop-left-preserved : goal.loop-left-preserved
loop-left-preserved c =
    (byte_passed c.loop-left.j c.loop-left.invariant.0 c.loop-left.invariant.1 c.args.stops.now.known c.from.ensures (omega (arith, c.from.ensures, c.type_inv.buf c.loop-left.j)) c.from-ended.ensures c.if-left-ended.false, omega arith)

pub per_byte-requires : goal.per_byte-requires
per_byte-requires c = code_width c.args.stops.now.good.code c.requires.good

pub pass_symbols-requires : goal.pass_symbols-requires
pass_symbols-requires c = rw c.per_byte.ensures (passing_ending c.loop-left.invariant.0)

pub returns : goal.returns
returns c =
    c.pass_symbols.ensures
    ∙ ap (λ (n : ℕ). end_from c.args.stops.now.good.code c.args.buf.now (c.loop-left.j * n) c.loop-left.left) c.per_byte.ensures
    ∙ passing_rest c.loop-left.invariant.0
