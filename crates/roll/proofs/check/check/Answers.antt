-- `roll::check::check` meets its contract.
use Rattle.std.proofs.Common.{◌≡◌, sym, ap, ◌∙◌, List, ℕ, ◌+◌, ◌-◌, ◌*◌, Ok, arith}
use Rattle.std.proofs.lemmas.Result.{err_from_is_err_and}
use Rattle.ground.specs.Paper.Runs.{run}
use Rattle.ground.specs.Paper.Rows.{all_zero}
use Rattle.stopper.specs.Laws.Table.{code_width}
use Rattle.symbols.specs.Paper.Symbols.{per, bytes_for, symbols_of}
use Rattle.symbols.specs.Helpers.Widths.{Width}
use Rattle.symbols.specs.Laws.Width.{per_few}
use Rattle.symbols.specs.Laws.Sizes.{bytes_for_enough, bytes_for_least}
use Rattle.symbols.specs.Laws.Rows.{ends_inside}
use Rattle.reading.specs.Helpers.Codewords.{Reads}
use Rattle.sound.specs.Paper.Roll.{reading_from, unused_of}
use Rattle.sound.specs.declared.records.Roll.{Roll}
use Rattle.roll.specs.Paper.Operations.{check_says}
use Rattle.roll.specs.Helpers.Refused.{Fitting}
use Rattle.roll.specs.Laws.Operations.{fits_reads, check_6, check_7, check_last}
use Rattle.roll.proofs.check.check.Goals as goal

module _ (r : Roll) (buf : List ℕ) (f : Fitting r buf (Ok tt)) where
  -- symbols up to symbol h may be read
  reads : Reads r.table.code r.table.sigma buf r.h 0
  reads = fits_reads r buf (sym f.says) 0 (omega arith)

  width : Width r.table.code.k
  width = code_width r.table.code reads.good

  -- the unused symbols end with the last byte
  module _ {unused : ℕ} (e : unused ≡ bytes_for r.table.code.k r.h * per r.table.code.k - r.h) where
    end_is : r.h + unused ≡ bytes_for r.table.code.k r.h * per r.table.code.k
    end_is = omega (arith, e, bytes_for_enough width r.h)

    zero_is : all_zero (run (symbols_of r.table.code.k buf) r.h (r.h + unused)) ≡ all_zero (unused_of r buf)
    zero_is = ap (λ (to : ℕ). all_zero (run (symbols_of r.table.code.k buf) r.h to)) end_is

pub returns-in_err-fits : goal.returns-in_err-fits
unfolding check_says
returns-in_err-fits c =
    let p = err_from_is_err_and c.from_residual.result c.from_residual.ensures.1 in
    rw (p.1, p.2) (record { says = rw (sym c.in_err-fits.ensures.says) })

pub overflow_cast-packed : goal.overflow_cast-packed
overflow_cast-packed c = omega (arith, (reads c.args.roll c.args.buf.now c.in_ok-fits.ensures).few)

pub invariant_of-packed : goal.invariant_of-packed
invariant_of-packed c = record { good = (reads c.args.roll c.args.buf.now c.in_ok-fits.ensures).good }

pub invariant_of-packed-2 : goal.invariant_of-packed-2
invariant_of-packed-2 c = record { few = (reads c.args.roll c.args.buf.now c.in_ok-fits.ensures).few }

pub invariant_of-packed-3 : goal.invariant_of-packed-3
invariant_of-packed-3 c = let p = reads c.args.roll c.args.buf.now c.in_ok-fits.ensures in record { held = p.held; small = p.small }

pub returns-in_err-count : goal.returns-in_err-count
unfolding reading_from
returns-in_err-count c =
    let p = err_from_is_err_and c.from_residual-in_err-count.result c.from_residual-in_err-count.ensures.1 in
    rw (p.1, p.2) (record { says = sym (check_6 c.args.roll c.args.buf.now (sym c.in_ok-fits.ensures.says) c.in_err-count.ensures) })

pub returns-then-count-roll : goal.returns-then-count-roll
unfolding reading_from
returns-then-count-roll c = record { says = sym (check_7 _ _ (sym c.in_ok-fits.ensures.says) c.in_ok-count.ensures c.if-count-roll.true) }

pub unused-requires : goal.unused-requires
unused-requires c = width c.args.roll c.args.buf.now c.in_ok-fits.ensures

pub overflow_add-h : goal.overflow_add-h
overflow_add-h c =
    let r = c.args.roll in
    let f = c.in_ok-fits.ensures in
    let w = width r c.args.buf.now f in
    omega (arith, end_is r c.args.buf.now f c.unused.ensures, bytes_for_least w r.h, per_few w, (reads r c.args.buf.now f).small)

pub all_zero-requires : goal.all_zero-requires
all_zero-requires c =
    let r = c.args.roll in
    let buf = c.args.buf.now in
    let f = c.in_ok-fits.ensures in
    let w = width r buf f in
    (w, omega arith, omega (arith, end_is r buf f c.unused.ensures, ends_inside w buf r.h (reads r buf f).held))

pub returns-then-not-all_zero : goal.returns-then-not-all_zero
unfolding reading_from
returns-then-not-all_zero c =
    let r = c.args.roll in
    let buf = c.args.buf.now in
    let f = c.in_ok-fits.ensures in
    record { says = sym (check_last r buf (sym f.says) c.in_ok-count.ensures c.if-count-roll.false ∙ rw (sym (c.all_zero.ensures ∙ zero_is r buf f c.unused.ensures) ∙ c.if-not-all_zero.true)) }

pub returns : goal.returns
unfolding reading_from
returns c =
    let r = c.args.roll in
    let buf = c.args.buf.now in
    let f = c.in_ok-fits.ensures in
    record { says = sym (check_last r buf (sym f.says) c.in_ok-count.ensures c.if-count-roll.false ∙ rw (sym (c.all_zero.ensures ∙ zero_is r buf f c.unused.ensures) ∙ c.if-not-all_zero.false)) }
