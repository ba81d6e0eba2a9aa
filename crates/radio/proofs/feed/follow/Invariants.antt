use Rattle.std.proofs.Common.{◌≡◌, ◌-◌, ◌≤◌, length}
use Rattle.radio.specs.Paper.Operations.{pattern_in}
use Rattle.radio.specs.Helpers.Following.{row, Along}
use Rattle.radio.proofs.feed.follow.Given as goal

abbrev pub invariant-loop-i : goal.invariant-loop-i
invariant-loop-i l =
    let s = l.fn.searcher in
    let t = s.judge.roll.table in
    (l.i ≤ l.upto) × (length l.text ≡ 256)
    × Along t.code t.sigma t.places l.h l.p (pattern_in s) s.ends (row s l.piece) l.initial.slice l.slice l.named.ends l.r l.count l.first l.named.hits l.i

abbrev pub decreases-loop-i : goal.decreases-loop-i
decreases-loop-i l = l.upto - l.i
