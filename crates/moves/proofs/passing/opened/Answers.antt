-- `moves::passing::opened` meets its contract: a continuer opens nothing.
use Rattle.std.proofs.Common.{◌≡◌, suc, ◌-◌, sym, ◌∙◌, arith}
use Rattle.stopper.specs.Laws.Table.{one_number, code_width}
use Rattle.symbols.specs.Paper.Symbols.{symbols_of}
use Rattle.moves.specs.Helpers.States.{open_from}
use Rattle.moves.specs.Laws.States.{open_last_stop, open_last_more}
use Rattle.moves.proofs.passing.opened.Goals as goal

pub get-requires : goal.get-requires
get-requires c = (code_width c.args.good.code c.args.good.good, omega arith)

pub returns-then-get-good : goal.returns-then-get-good
returns-then-get-good c =
    let code = c.args.good.code in
    let all = symbols_of code.k c.args.buf.now in
    let p = c.loop-p.p in
    let e : suc (p - 1) ≡ p = omega arith in
    let s = open_last_stop code all (p - 1) (omega arith) (omega (arith, c.get.ensures, one_number code 0)) in
    omega (arith, c.loop-p.invariant, rw e at s)

pub loop-p-preserved : goal.loop-p-preserved
loop-p-preserved c =
    let code = c.args.good.code in
    let all = symbols_of code.k c.args.buf.now in
    let p = c.loop-p.p in
    let e : suc (p - 1) ≡ p = omega arith in
    let m = open_last_more code all (p - 1) (omega arith) (omega (arith, c.get.ensures, one_number code 0)) in
    c.loop-p.invariant ∙ (rw e at m)

pub returns : goal.returns
unfolding open_from
returns c =
    let z : c.loop-p.p ≡ 0 = omega arith in
    sym (rw z at c.loop-p.invariant)
