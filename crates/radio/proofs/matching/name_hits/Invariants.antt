use Rattle.std.proofs.Common.{◌+◌, ◌^◌, ◌≤◌, ◌<◌, take}
use Rattle.radio.specs.Helpers.Naming.{NamedIn}
use Rattle.radio.proofs.matching.name_hits.Given as goal

abbrev pub invariant-loop-i : goal.invariant-loop-i
invariant-loop-i l =
    (l.on < l.whole) × (l.on < 2 ^ (l.count + l.i)) × (l.at ≤ l.initial.at + l.i)
    × NamedIn l.matcher.pattern.now (take l.i l.text) l.count l.initial.on l.initial.slice l.initial.at (record { ends = l.on; hits = l.at }) l.slice
