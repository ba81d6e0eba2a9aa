-- `judge::judging::judge_piece` meets its contract.
use Rattle.std.proofs.Common.{◌≡◌, List, ℕ, ◌-◌, ◌*◌, length, sym, ap, ◌∙◌, arith, le_of_eq, take_all}
use Rattle.ground.specs.Paper.Runs.{run}
use Rattle.stopper.specs.Laws.Table.{code_width, table_code, table_few}
use Rattle.symbols.specs.Paper.Symbols.{per, symbols_of}
use Rattle.symbols.specs.Laws.Rows.{symbols_length}
use Rattle.judge.specs.Paper.Judge.{judge_after}
use Rattle.judge.proofs.judging.judge_piece.Goals as goal

-- all symbols of the piece
all : (k : ℕ) (piece : List ℕ) {n : ℕ} → n ≡ per k → length piece * n ≡ length (symbols_of k piece)
all k piece e = ap (λ (n : ℕ). length piece * n) e ∙ sym (symbols_length k piece)

pub per_byte-requires : goal.per_byte-requires
per_byte-requires c = let t = c.args.judge.roll.table in code_width t.code (table_code t c.requires.table)

pub invariant_of-ranks-2 : goal.invariant_of-ranks-2
invariant_of-ranks-2 c = record { few = table_few c.args.judge.roll.table c.requires.table }

pub invariant_of-ranks : goal.invariant_of-ranks
invariant_of-ranks c = record { good = table_code c.args.judge.roll.table c.requires.table }

pub hear_run-progress-requires : goal.hear_run-progress-requires
hear_run-progress-requires c =
    (c.requires.steady, omega arith, le_of_eq (all c.args.judge.roll.table.code.k c.args.piece.now c.per_byte.ensures))

pub returns : goal.returns
unfolding judge_after
returns c =
    let k = c.args.judge.roll.table.code.k in
    let row : List ℕ = symbols_of k c.args.piece.now in
    let e : run row 0 (length row) ≡ row = take_all (length row - 0) row (omega arith) in
    rw (c.hear_run-progress.ensures, all k c.args.piece.now c.per_byte.ensures, e)
