-- `frames::lines::is_line` meets its contract: the bytes passed are digits, or not.
use Rattle.std.proofs.Common.{◌≡◌, ◌∙◌, sym, ap, ap₂, Bool, ◌&&◌, ℕ, ◌-◌, eqb, length, take, get_or, ◌<◌, length-take, get_or-take, arith}
use Rattle.frames.specs.Paper.Frames.{is_digit}
use Rattle.frames.specs.Helpers.Lines.{all_digits}
use Rattle.frames.specs.Laws.Lines.{digits_none, digits_more, line_even, line_odd}
use Rattle.frames.proofs.lines.is_line.Goals as goal

pub returns-then-line-eq0 : goal.returns-then-line-eq0
returns-then-line-eq0 c = sym (line_even c.args.line.now c.if-line-eq0.true)

pub loop-c-init : goal.loop-c-init
loop-c-init c = sym (digits_none c.args.line.now)

pub loop-c-preserved : goal.loop-c-preserved
loop-c-preserved c =
    let line = c.args.line.now in
    let i = c.loop-c.c-index in
    let inside : i < length line - 1 = omega (arith, length-take (length line - 1) line) in
    ap₂ (λ (a b : Bool). a && b) c.loop-c.invariant (c.is_digit-good.ensures ∙ ap is_digit (get_or-take (length line - 1) line i 0 inside))
    ∙ sym (digits_more line i (omega arith))

pub returns : goal.returns
returns c =
    let line = c.args.line.now in
    let end = length line - 1 in
    let odd = line_odd line end (omega (arith, c.if-line-eq0.false)) (omega (arith, c.if-line-eq0.false)) in
    let all : c.loop-c.c-index ≡ end = omega (arith, length-take end line) in
    ap (λ (b : Bool). b && eqb (get_or line end 0) 10) (c.loop-c.invariant ∙ ap (λ (n : ℕ). all_digits (take n line)) all) ∙ sym odd
