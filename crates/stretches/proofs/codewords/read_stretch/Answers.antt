-- `stretches::codewords::read_stretch` meets its contract.
use Rattle.std.proofs.Common.{◌≡◌, ℕ, get_or, sym, ap, ◌∙◌, arith, length-set, drop-cons}
use Rattle.stopper.specs.Helpers.State.{stepped}
use Rattle.stopper.specs.Laws.Table.{code_width}
use Rattle.stopper.specs.declared.code.Code.{Code}
use Rattle.stopper.specs.declared.reading.Reader.{Reader}
use Rattle.stopper.specs.declared.reading.Step.{Step}
use Rattle.symbols.specs.Paper.Symbols.{symbols_of}
use Rattle.judge.specs.Laws.Small.{rank_below}
use Rattle.stretches.specs.Laws.Codewords.{run_one, take_first, through_ended, through_open, silent_bad, silent_past}
use Rattle.stretches.proofs.codewords.read_stretch.Goals as goal

-- what the next symbol y does, from state r on
step_is : (c : Code) (σ : ℕ) (r : Reader) {y x : ℕ} {a b : Step} → a ≡ stepped c σ r y → y ≡ x → a ≡ b → stepped c σ r x ≡ b
step_is c σ r e f g = sym (e ∙ ap (stepped c σ r) f) ∙ g

pub get-requires : goal.get-requires
get-requires c =
    let good = c.args.alphabet.now.ranks.good in (code_width good.code good.good, omega (arith, c.requires.order, c.requires.inside))

pub bounds-alphabet-rank : goal.bounds-alphabet-rank
bounds-alphabet-rank c =
    let a = c.args in
    let ranks = a.alphabet.now.ranks in
    let code = ranks.good.code in
    omega (arith, rank_below code ranks.good.good ranks.sigma ranks.few a.r _ (step_is code ranks.sigma a.r c.read_symbol.ensures c.get.ensures c.in-Rank.is))

-- one ends
pub returns-in-Rank : goal.returns-in-Rank
returns-in-Rank c =
    let a = c.args in
    let ranks = a.alphabet.now.ranks in
    let code = ranks.good.code in
    let places = a.alphabet.now.places.now in
    let row = symbols_of code.k a.piece.now in
    let is = step_is code ranks.sigma a.r c.read_symbol.ensures c.get.ensures c.in-Rank.is in
    record {
      long = length-set _ _ _ ∙ c.pass.ensures.long;
      on = omega arith;
      within = omega arith;
      few = omega arith;
      through = rw (run_one row a.at (omega arith), take_first c.pass.new.text (get_or places c.in-Rank.rank 0) (omega arith), c.opening-in-Rank.ensures)
          (through_ended code ranks.good.good ranks.sigma a.r _ places is);
      silent = tt;
    }

-- it stays open
pub returns-in-Open-2 : goal.returns-in-Open-2
returns-in-Open-2 c =
    let a = c.args in
    let ranks = a.alphabet.now.ranks in
    let code = ranks.good.code in
    let places = a.alphabet.now.places.now in
    let is = step_is code ranks.sigma a.r c.read_symbol.ensures c.get.ensures c.in-Open.is in
    record {
      long = c.pass.ensures.long;
      on = omega arith;
      within = omega arith;
      few = omega arith;
      through = rw (run_one (symbols_of code.k a.piece.now) a.at (omega arith)) (through_open code ranks.good.good ranks.sigma a.r _ places ranks.few is c.if-on.false);
      silent = tt;
    }

-- the codeword reaches σ
pub returns-in-Open : goal.returns-in-Open
returns-in-Open c =
    let a = c.args in
    let ranks = a.alphabet.now.ranks in
    let code = ranks.good.code in
    let row = symbols_of code.k a.piece.now in
    let is = step_is code ranks.sigma a.r c.read_symbol.ensures c.get.ensures c.in-Open.is in
    record { long = c.pass.ensures.long; on = tt; within = tt; few = tt; through = tt; silent = rw (drop-cons row a.at 0 (omega arith)) (silent_past code ranks.good.good ranks.sigma a.r _ is c.if-on.true _) }

-- a bad one
pub returns-in-Bad : goal.returns-in-Bad
returns-in-Bad c =
    let a = c.args in
    let ranks = a.alphabet.now.ranks in
    let code = ranks.good.code in
    let row = symbols_of code.k a.piece.now in
    let is = step_is code ranks.sigma a.r c.read_symbol.ensures c.get.ensures c.in-Bad.is in
    record { long = c.pass.ensures.long; on = tt; within = tt; few = tt; through = tt; silent = rw (drop-cons row a.at 0 (omega arith)) (silent_bad code ranks.good.good ranks.sigma a.r _ is _) }
