-- `symbols::size::unused` meets its contract.
use mathlib.Core.Path.{◌≡◌, sym, ◌∙◌}
use Prim.Native.Nat.{◌%◌}
use native.Mathlib.Nat.{mod-lt, div-add-mod'}
use native.Mathlib.Omega.{arith}
use Rattle.symbols.specs.Paper.Symbols.{per}
use Rattle.symbols.specs.Laws.Sizes.{bytes_for_even, bytes_for_odd}
use Rattle.symbols.specs.Laws.Width.{per_pos}
use Rattle.symbols.proofs.size.unused.Goals as goal

pub overflow_sub-result : goal.overflow_sub-result
overflow_sub-result c = omega (arith, c.per_byte.ensures, c.place_in_byte-used.ensures, mod-lt c.args.h (per_pos c.requires))

pub returns-then-used-eq0 : goal.returns-then-used-eq0
returns-then-used-eq0 c =
    let k = c.args.k in
    let h = c.args.h in
    let none : h % per k ≡ 0 = sym c.place_in_byte-used.ensures ∙ c.if-used-eq0.true in
    rw (bytes_for_even c.requires h none) (omega (arith, div-add-mod' h (per k)))

pub returns-else-used-eq0 : goal.returns-else-used-eq0
returns-else-used-eq0 c =
    let k = c.args.k in
    let h = c.args.h in
    let some : (h % per k ≡ 0 → ⊥) = λ e. c.if-used-eq0.false (c.place_in_byte-used.ensures ∙ e) in
    rw (c.per_byte.ensures, c.place_in_byte-used.ensures, bytes_for_odd c.requires h some) (omega (arith, div-add-mod' h (per k)))
