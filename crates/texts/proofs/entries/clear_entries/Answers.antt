-- `texts::entries::clear_entries` meets its contract: a part filled with 0, or no part.
use Rattle.std.proofs.Common.{◌≡◌, ◌+◌, ◌-◌, sym, add-zero, arith}
use Rattle.ground.specs.Paper.Rows.{zeros}
use Rattle.ground.specs.Laws.Runs.{part_filled, over_none}
use Rattle.texts.proofs.entries.clear_entries.Goals as goal

pub returns-then-from-to : goal.returns-then-from-to
returns-then-from-to c =
    let a = c.args in
    let end : a.from + (a.to - a.from) ≡ a.to = omega arith in
    rw end (part_filled a.dir.now c.fill.new.self a.from a.to (omega arith) c.requires (c.fill.ensures.after (λ y e. e)))

pub returns-else-from-to : goal.returns-else-from-to
unfolding zeros
returns-else-from-to c =
    let a = c.args in
    let none : a.to - a.from ≡ 0 = omega arith in
    rw (none, add-zero) (sym (over_none a.dir.now a.from))
