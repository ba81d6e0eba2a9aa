-- `writing::decimal::numbers_out` meets its contract: the lines of the numbers passed are put.
use Rattle.std.proofs.Common.{◌≡◌, ℕ, ◌+◌, ◌≤◌, ◌<◌, List, ◌∷◌, ◌++◌, length, drop, get_or, arith}
use Rattle.ground.specs.Paper.Runs.{over}
use Rattle.writing.specs.Paper.Written.{decimal, number_lines}
use Rattle.writing.specs.Laws.Written.{Going, going_as, going_room, going_next, going_more, going_byte, going_all, numbers_done, numbers_more}
use Rattle.writing.proofs.decimal.numbers_out.Goals as goal

-- number i, before and behind its digits
module _ (numbers : List ℕ) (i : ℕ) {old : List ℕ} {at : ℕ} {out : List ℕ} {p : ℕ} (fits : at + length (number_lines numbers) ≤ length old) (more : i < length numbers)
    (g : Going (number_lines numbers) old at out p (number_lines (drop i numbers))) where
  before : Going (number_lines numbers) old at out p (decimal (get_or numbers i 0) ++ (10 ∷ number_lines (drop (i + 1) numbers)))
  before = going_as (numbers_more numbers i more) g

  room : p + length (decimal (get_or numbers i 0)) ≤ length out
  room = going_next fits (decimal (get_or numbers i 0)) (10 ∷ number_lines (drop (i + 1) numbers)) before

  behind : {out' : List ℕ} {q : ℕ} → let d = decimal (get_or numbers i 0) in q ≡ p + length d → out' ≡ over out p d (p + length d)
      → Going (number_lines numbers) old at out' q (10 ∷ number_lines (drop (i + 1) numbers))
  behind e r = going_more fits (decimal (get_or numbers i 0)) before r e

pub decimal_out-p-requires : goal.decimal_out-p-requires
decimal_out-p-requires c = rw c.from.ensures (room c.args.numbers.now c.loop-n.n-index c.requires c.loop-n-test.true c.loop-n.invariant)

pub bounds-out-p : goal.bounds-out-p
bounds-out-p c =
    let d = rw c.from.ensures at c.decimal_out-p.ensures in
    omega (arith, going_room c.requires (behind c.args.numbers.now c.loop-n.n-index c.requires c.loop-n-test.true c.loop-n.invariant d.next d.out))

pub loop-n-preserved : goal.loop-n-preserved
loop-n-preserved c =
    let d = rw c.from.ensures at c.decimal_out-p.ensures in
    going_byte c.requires (behind c.args.numbers.now c.loop-n.n-index c.requires c.loop-n-test.true c.loop-n.invariant d.next d.out)

pub returns : goal.returns
returns c =
    let g = going_all c.requires (going_as (numbers_done c.args.numbers.now c.loop-n.n-index c.loop-n-test.false) c.loop-n.invariant) in
    record { next = g.0; out = g.1 }
