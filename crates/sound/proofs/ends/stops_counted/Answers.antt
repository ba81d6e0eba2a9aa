-- `sound::ends::stops_counted` meets its contract: the bytes below b are counted.
use Rattle.std.proofs.Common.{ℕ, List, set, ap, ◌∙◌}
use Rattle.ground.specs.Paper.Rows.{zeros}
use Rattle.sound.specs.Helpers.Ends.{stops_by_byte}
use Rattle.sound.specs.Laws.Stops.{filled_none, filled_more, filled_all}
use Rattle.sound.proofs.ends.stops_counted.Invariants.{entry}
use Rattle.sound.proofs.ends.stops_counted.Goals as goal

pub loop-b-init : goal.loop-b-init
unfolding zeros
loop-b-init c = filled_none (entry c.args.good.code) 256

pub loop-b-preserved : goal.loop-b-preserved
loop-b-preserved c =
    ap (λ (r : List ℕ). set r c.loop-b.b c.stops_of_four.result) c.loop-b.invariant
    ∙ filled_more (entry c.args.good.code) 256 c.loop-b.b c.stops_of_four.result c.loop-b-test.true c.stops_of_four.ensures.0

pub returns : goal.returns
unfolding stops_by_byte
returns c = c.loop-b.invariant ∙ filled_all (entry c.args.good.code) 256 c.loop-b.b c.loop-b-test.false
