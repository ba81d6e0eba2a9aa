-- `symbols::run::clear_unused` meets its contract.
use Rattle.std.proofs.Common.{◌≡◌, ◌+◌, ◌-◌, ◌*◌, ℕ, ap, ◌∙◌, arith}
use Rattle.ground.specs.Helpers.Moved.{cleared}
use Rattle.symbols.specs.Paper.Symbols.{per, bytes_for, symbols_of}
use Rattle.symbols.specs.Helpers.Widths.{Width}
use Rattle.symbols.specs.Laws.Rows.{ends_inside}
use Rattle.symbols.specs.Laws.Sizes.{bytes_for_enough, bytes_for_least}
use Rattle.symbols.specs.Laws.Width.{per_few}
use Rattle.symbols.proofs.run.clear_unused.Goals as goal

end : {k : ℕ} → Width k → (h : ℕ) {n : ℕ} → n ≡ bytes_for k h * per k - h → h + n ≡ bytes_for k h * per k
end w h e = omega (arith, bytes_for_enough w h)

pub overflow_add-h : goal.overflow_add-h
overflow_add-h c =
    let w = c.requires.0 in
    let h = c.args.h in
    omega (arith, end w h c.unused.ensures, bytes_for_least w h, per_few w)

pub clear-requires : goal.clear-requires
clear-requires c =
    let a = c.args in
    (c.requires.0, omega arith, omega (arith, end c.requires.0 a.h c.unused.ensures, ends_inside c.requires.0 a.buf.now a.h c.requires.1))

pub returns : goal.returns
returns c =
    let a = c.args in
    c.clear.ensures ∙ ap (cleared (symbols_of a.k a.buf.now) a.h) (end c.requires.0 a.h c.unused.ensures)
