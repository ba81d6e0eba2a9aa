-- `judge::judging::hear_run` meets its contract.
use Rattle.std.proofs.Common.{◌≡◌, List, ℕ, ◌+◌, sym, ap, ◌∙◌, arith}
use Rattle.ground.specs.Paper.Runs.{run}
use Rattle.stopper.specs.Laws.Table.{code_width}
use Rattle.symbols.specs.Paper.Symbols.{symbols_of}
use Rattle.judge.specs.Paper.Judge.{hears, hears_all}
use Rattle.judge.specs.Laws.Judge.{bad_all, hears_steady, hears_run, hears_none}
use Rattle.judge.specs.declared.records.Progress.{Progress}
use Rattle.judge.proofs.judging.hear_run.Goals as goal

pub get-requires : goal.get-requires
get-requires c = (code_width c.args.ranks.good.code c.args.ranks.good.good, omega arith)

pub loop-i-preserved : goal.loop-i-preserved
loop-i-preserved c =
    let a = c.args in
    let code = a.ranks.good.code in
    let sigma = a.ranks.sigma in
    let row : List ℕ = symbols_of code.k a.piece.now in
    let (steady, same) = c.loop-i.invariant in (
      rw c.hear-on.ensures (hears_steady code sigma a.h a.ranks.good.good a.ranks.few c.loop-i.on _ steady),
      same
          ∙ hears_run code sigma a.h c.loop-i.on row c.loop-i.i a.to c.loop-i-test.true c.requires.2
          ∙ ap (λ (p : Progress). hears_all code sigma a.h p (run row (c.loop-i.i + 1) a.to)) (ap (hears code sigma a.h c.loop-i.on) (sym c.get.ensures) ∙ sym c.hear-on.ensures),
    )

pub returns-after-loop-i : goal.returns-after-loop-i
returns-after-loop-i c =
    let a = c.args in
    let code = a.ranks.good.code in
    let sigma = a.ranks.sigma in
    let all : c.loop-i.i ≡ a.to = omega arith in
    sym (c.loop-i.invariant.1 ∙ rw all (hears_none code sigma a.h c.loop-i.on (symbols_of code.k a.piece.now) a.to))

pub returns-then-on-ne0 : goal.returns-then-on-ne0
returns-then-on-ne0 c =
    let a = c.args in
    let code = a.ranks.good.code in
    let sigma = a.ranks.sigma in
    sym (c.loop-i.invariant.1 ∙ bad_all code sigma a.h c.loop-i.on (run (symbols_of code.k a.piece.now) c.loop-i.i a.to) c.if-on-ne0.true)
