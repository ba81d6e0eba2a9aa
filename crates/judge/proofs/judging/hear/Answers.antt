-- `judge::judging::hear` meets its contract.
use Rattle.std.proofs.Common.{sym, ap, ◌∙◌}
use Rattle.stopper.specs.Helpers.State.{stepped}
use Rattle.stopper.specs.declared.reading.Reader.{Reader}
use Rattle.judge.specs.Paper.Judge.{heard_as}
use Rattle.judge.specs.Laws.Judge.{hears_bad, hears_unused, hears_symbol}
use Rattle.judge.proofs.judging.hear.Goals as goal

pub returns-then-p-ne0 : goal.returns-then-p-ne0
returns-then-p-ne0 c =
    let a = c.args in
    let code = a.ranks.good.code in
    let sigma = a.ranks.sigma in
    sym (hears_bad code sigma a.h a.p a.symbol c.if-p-ne0.true)

pub returns-then-h-p : goal.returns-then-h-p
returns-then-h-p c =
    let a = c.args in
    let code = a.ranks.good.code in
    let sigma = a.ranks.sigma in
    c.stained_by.ensures ∙ sym (hears_unused code sigma a.h a.p a.symbol c.if-p-ne0.false c.if-h-p.true)

pub returns : goal.returns
returns c =
    let a = c.args in
    let code = a.ranks.good.code in
    let sigma = a.ranks.sigma in
    c.heard.ensures
    ∙ ap (heard_as a.h a.p) (c.read_symbol.ensures ∙ ap (λ (x : Reader). stepped code sigma x a.symbol) c.reader_of.ensures)
    ∙ sym (hears_symbol code sigma a.h a.p a.symbol c.if-p-ne0.false c.if-h-p.false)
