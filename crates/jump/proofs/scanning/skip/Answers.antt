-- `jump::scanning::skip` meets its contract.
use Rattle.std.proofs.Common.{arith}
use Rattle.jump.specs.Helpers.Windows.{none, also}
use Rattle.jump.proofs.scanning.skip.Goals as goal
use Rattle.jump.proofs.scanning.skip.Goals.{then-back-eq1, else-back-eq1}

pub loop-e-init : goal.loop-e-init
loop-e-init c =
    elim c.if-back-eq1.branch [
      | then-back-eq1 w ↦ let r = w.pass-e.ensures in rw (w.e-is, w.if-back-eq1.true) (r.0, omega (arith, r.1), r.2)
      | else-back-eq1 w ↦ rw w.e-is (omega arith, c.requires.7, none)
    ]

pub loop-e-preserved-then-place-eq0 : goal.loop-e-preserved-then-place-eq0
loop-e-preserved-then-place-eq0 c = (
  omega (arith, c.loop-e.invariant.0),
  omega (arith, c.loop-e-test.true),
  also c.loop-e.invariant.2 _ (omega (arith, c.place_at-place.ensures.0, c.if-place-eq0.true)),
)

pub loop-e-preserved : goal.loop-e-preserved
loop-e-preserved c = (
  omega (arith, c.loop-e.invariant.0),
  omega (arith, c.loop-e-test.true),
  also c.loop-e.invariant.2 _ (omega (arith, c.place_at-place.ensures.0)),
)
