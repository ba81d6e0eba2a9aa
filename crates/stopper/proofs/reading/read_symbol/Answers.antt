-- `stopper::reading::read_symbol` meets its contract: each way through it is a case of `stepped`.
use Rattle.std.proofs.Common.{refl, sym, ap, ◌∙◌, arith}
use Rattle.stopper.specs.Paper.Table.{base}
use Rattle.stopper.specs.Helpers.State.{past_at, stepped}
use Rattle.stopper.specs.Laws.State.{Sizes, sizes, step_past_stop, step_bad, step_rank, step_past_on, step_reach, step_on}
use Rattle.stopper.specs.declared.reading.Reader.{Reader}
use Rattle.stopper.specs.declared.reading.Step.{Step}
use Rattle.stopper.specs.declared.reading.Step.TheVariants.{Open}
use Rattle.stopper.proofs.reading.read_symbol.Goals as goal

-- before a rank is worked out, and before the next state is
rank_small : (c : goal.Then-y-s) → Sizes (base c.args.ranks.good.code) c.stoppers_at-s.result c.args.r
rank_small c = sizes c.args.ranks.good.code c.args.ranks.good.good c.args.r c.requires _ c.stoppers_at-s.ensures _ refl

next_small : (c : goal.After-base_of) → Sizes c.base_of.result c.stoppers_at-s.result c.args.r
next_small c = sizes c.args.ranks.good.code c.args.ranks.good.good c.args.r c.requires _ c.stoppers_at-s.ensures _ c.base_of.ensures

pub overflow_mul-rank : goal.overflow_mul-rank
overflow_mul-rank c = let z = rank_small c in omega arith

pub overflow_add-rank : goal.overflow_add-rank
overflow_add-rank c = let z = rank_small c in omega arith

pub overflow_add-rank-then-y-s : goal.overflow_add-rank-then-y-s
overflow_add-rank-then-y-s c = let z = rank_small c in omega arith

pub overflow_sub-c : goal.overflow_sub-c
overflow_sub-c c = let z = next_small c in omega arith

pub overflow_mul-next : goal.overflow_mul-next
overflow_mul-next c = let z = next_small c in omega arith

pub overflow_add-next : goal.overflow_add-next
overflow_add-next c = let z = next_small c in omega arith

pub overflow_add-least-2 : goal.overflow_add-least-2
overflow_add-least-2 c = let z = next_small c in omega arith

pub overflow_mul-result : goal.overflow_mul-result
overflow_mul-result c =
    let z = sizes c.args.ranks.good.code c.args.ranks.good.good c.args.r c.requires _ c.stoppers_at-s.ensures _ c.base_of.ensures in
    omega arith

-- each way is that of the symbol's value
pub returns-then-r : goal.returns-then-r
returns-then-r c =
    let a = c.args in
    sym (step_past_stop a.ranks.good.code a.ranks.sigma a.r c.from-y.result _ c.stoppers_at-s.ensures c.if-y-s.true c.if-r.true) ∙ ap (stepped a.ranks.good.code a.ranks.sigma a.r) c.from-y.ensures

pub returns-then-sigma-rank : goal.returns-then-sigma-rank
returns-then-sigma-rank c =
    let a = c.args in
    sym (step_bad a.ranks.good.code a.ranks.sigma a.r c.from-y.result _ c.stoppers_at-s.ensures c.if-y-s.true c.if-r.false c.if-sigma-rank.true) ∙ ap (stepped a.ranks.good.code a.ranks.sigma a.r) c.from-y.ensures

pub returns-then-y-s : goal.returns-then-y-s
returns-then-y-s c =
    let a = c.args in
    sym (step_rank a.ranks.good.code a.ranks.sigma a.r c.from-y.result _ c.stoppers_at-s.ensures c.if-y-s.true c.if-r.false c.if-sigma-rank.false) ∙ ap (stepped a.ranks.good.code a.ranks.sigma a.r) c.from-y.ensures

pub returns-then-r-2 : goal.returns-then-r-2
returns-then-r-2 c =
    let a = c.args in
    ap {B = Step} (λ (x : Reader). Open x) (c.past_at.ensures ∙ ap past_at c.next_place-place.ensures)
    ∙ sym (step_past_on a.ranks.good.code a.ranks.sigma a.r c.from-y.result _ c.stoppers_at-s.ensures c.if-y-s.false c.if-r-2.true)
    ∙ ap (stepped a.ranks.good.code a.ranks.sigma a.r) c.from-y.ensures

pub returns-then-sigma-least : goal.returns-then-sigma-least
returns-then-sigma-least c =
    let a = c.args in
    ap {B = Step} (λ (x : Reader). Open x) (c.past_at-then-sigma-least.ensures ∙ ap past_at c.next_place-place.ensures)
    ∙ sym (step_reach a.ranks.good.code a.ranks.sigma a.r c.from-y.result _ c.stoppers_at-s.ensures _ c.base_of.ensures c.if-y-s.false c.if-r-2.false c.if-sigma-least.true)
    ∙ ap (stepped a.ranks.good.code a.ranks.sigma a.r) c.from-y.ensures

pub returns : goal.returns
returns c =
    let a = c.args in
    rw c.next_place-place.ensures
    (sym (step_on a.ranks.good.code a.ranks.sigma a.r c.from-y.result _ c.stoppers_at-s.ensures _ c.base_of.ensures c.if-y-s.false c.if-r-2.false c.if-sigma-least.false)
    ∙ ap (stepped a.ranks.good.code a.ranks.sigma a.r) c.from-y.ensures)
