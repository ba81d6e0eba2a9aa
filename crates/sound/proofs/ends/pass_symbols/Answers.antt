-- `sound::ends::pass_symbols` meets its contract: from symbol q on so many codewords are left.
use Rattle.std.proofs.Common.{◌∙◌, arith}
use Rattle.stopper.specs.Laws.Table.{code_width}
use Rattle.sound.specs.Laws.Stops.{passing_first, passing_last, passing_upto, passing_inside, passing_stopper, passing_continuer}
use Rattle.sound.proofs.ends.pass_symbols.Goals as goal
use Rattle.sound.proofs.ends.pass_symbols.Goals.{then-from-s, else-from-s}

-- one symbol
pub loop-left-preserved : goal.loop-left-preserved
loop-left-preserved c =
    let y = c.from.ensures ∙ c.get.ensures in
    let s = c.stoppers_at-s.ensures in
    elim c.if-from-s.branch [
      | then-from-s w ↦ rw w.left-is (passing_stopper c.loop-left.invariant c.loop-left-test.true (omega (arith, w.if-from-s.true)))
      | else-from-s w ↦ rw w.left-is (passing_continuer c.loop-left.invariant c.loop-left-test.true (omega (arith, w.if-from-s.false)))
    ]

pub get-requires : goal.get-requires
get-requires c =
    (code_width c.args.code c.requires.good, passing_inside c.loop-left.invariant c.loop-left-test.true)

pub overflow_add-q : goal.overflow_add-q
overflow_add-q c = let p = loop-left-preserved c in omega (arith, passing_upto p, p.counts)

pub loop-left-init : goal.loop-left-init
loop-left-init c = passing_first c.requires

pub loop-left-smaller : goal.loop-left-smaller
loop-left-smaller c = omega (arith, passing_upto (loop-left-preserved c))

pub returns : goal.returns
returns c = passing_last c.loop-left.invariant (omega arith)
