-- `jump::scanning::pass` meets its contract.
use Rattle.std.proofs.Common.{◌+◌, ◌-◌, sym, arith}
use Rattle.jump.specs.Helpers.Windows.{none, also}
use Rattle.jump.specs.Laws.Windows.{skipped_then, skipped_ahead}
use Rattle.jump.proofs.scanning.pass.Goals as goal

pub loop-e-init : goal.loop-e-init
loop-e-init c = (omega arith, c.requires.6, none)

pub loop-e-preserved-then-at_first-at_second-eq0 : goal.loop-e-preserved-then-at_first-at_second-eq0
loop-e-preserved-then-at_first-at_second-eq0 c =
    let m = c.args.places in
    let e = c.loop-e.e in
    let none_there = c.if-at_first-at_second-eq0.true in (
      omega (arith, c.loop-e.invariant.0),
      omega (arith, c.loop-e-test.true),
      also
          (also
          (also
          (also c.loop-e.invariant.2 (e + m) (omega (arith, c.place_at-at_first.ensures.0, none_there)))
          (e + m + m)
          (omega (arith, c.place_at-at_second.ensures.0, none_there)))
          (e + m + m + m)
          (omega (arith, c.place_at-at_third.ensures.0, none_there)))
          (e + m + m + m + m)
          (omega (arith, c.place_at-at_fourth.ensures.0, none_there)),
    )

pub loop-e-preserved : goal.loop-e-preserved
loop-e-preserved c =
    let m = c.args.places in
    let e = c.loop-e.e in
    let first = c.ahead_of-ahead.ensures in
    let second = c.ahead_of-from_second.ensures in
    let third = c.ahead_of-from_third.ensures in (
      omega (arith, c.loop-e.invariant.0),
      omega (arith, first.2, second.2, third.2, c.loop-e-test.true),
      skipped_then
          c.loop-e.invariant.2
          (skipped_ahead e _ _ _ (sym c.place_at-at_first.ensures.0)
          (skipped_ahead (e + m) _ _ _ (sym c.place_at-at_second.ensures.0)
          (skipped_ahead (e + m + m) _ _ _ (sym c.place_at-at_third.ensures.0)
          (also none (e + m + m + m + (m - c.place_at-at_fourth.result)) (omega (arith, c.place_at-at_fourth.ensures.0)))
          third.0
          third.1)
          second.0
          second.1)
          first.0
          first.1),
    )
