-- `jump::windows::mark_free` meets its contract.
use Rattle.std.proofs.Common.{◌≡◌, ℕ, ◌+◌, ◌-◌, sym, ap, ◌∙◌, arith}
use Rattle.jump.specs.Helpers.Windows.{byte_from, number_from}
use Rattle.jump.specs.Laws.Sought.{sought_width, sought_below}
use Rattle.jump.specs.Laws.Table.{number_under, byte_number, upto_marked}
use Rattle.jump.proofs.windows.mark_free.Goals as goal
use Rattle.jump.proofs.windows.mark_free.Goals.{then-v-eq1, else-v-eq1}

pub per_byte-per-requires : goal.per_byte-per-requires
per_byte-per-requires c = sought_width c.args.sought.now

pub step_of-step-requires : goal.step_of-step-requires
step_of-step-requires c =
    (sought_width c.args.sought.now, omega (arith, c.per_byte-per.ensures, c.requires.0, c.args.sought.now.fits.few))

pub mark-requires : goal.mark-requires
mark-requires c =
    let s = c.args.sought.now in
    let n : ℕ = c.per_byte-per.result - s.v.free + c.args.i in (
      s.fits.near,
      omega (arith, c.from-head.ensures, c.number_from.ensures, c.step_of-step.ensures.0, number_under (sought_width s) (sought_below s) 0 n),
      c.step_of-step.ensures.1,
    )

pub returns : goal.returns
returns c =
    let s = c.args.sought.now in
    let k : ℕ = s.good.code.k in
    let row = s.symbols.now in
    let n : ℕ = c.per_byte-per.result - s.v.free + c.args.i in
    let second : s.v.back ≡ 1 → c.if-v-eq1.z ≡ byte_from k row n
    = λ q.
    elim c.if-v-eq1.branch [
      | then-v-eq1 w ↦ w.z-is ∙ w.number_from-z.ensures ∙ ap (number_from k row n) c.per_byte-per.ensures ∙ sym (byte_number k row n)
      | else-v-eq1 w ↦ absurd (w.if-v-eq1.false q)
    ] in
    upto_marked (sought_width s) c.requires.1 n s.fits.near s.fits.some (sought_below s) s.fits.few c.requires.0
    (omega (arith, c.per_byte-per.ensures, s.fits.few))
    c.step_of-step.ensures.0
    (c.from-head.ensures ∙ c.number_from.ensures)
    c.step_of-step.ensures.1
    second
    c.mark.ensures
