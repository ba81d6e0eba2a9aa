-- `jump::scanning::is_hit` meets its contract.
use Rattle.std.proofs.Common.{arith}
use Rattle.jump.specs.Laws.Hits.{stands_room}
use Rattle.jump.proofs.scanning.is_hit.Goals as goal

pub returns-then-searched-a : goal.returns-then-searched-a
returns-then-searched-a c =
    let s = c.args.searched.now in
    ((λ x. absurd x), (λ x. omega (arith, c.if-searched-a.true, stands_room s.good.code s.buf.now s.h c.args.symbols.now s.inside c.args.a c.requires x.0)))
