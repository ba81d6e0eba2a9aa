-- `sound::ends::from_byte` meets its contract: from symbol q on so many codewords are left.
use Rattle.std.proofs.Common.{◌≡◌, ◌∙◌, ℕ, ◌+◌, ◌-◌, ◌≤◌, ◌<◌, List, get_or, arith}
use Rattle.stopper.specs.Paper.Table.{stoppers}
use Rattle.stopper.specs.Laws.Table.{code_width}
use Rattle.stopper.specs.declared.code.Code.{Code}
use Rattle.symbols.specs.Paper.Symbols.{symbols_of}
use Rattle.sound.specs.Helpers.Ends.{Passing}
use Rattle.sound.specs.Laws.Stops.{passing_first, passing_few, passing_inside, back_stopper, back_continuer}
use Rattle.sound.proofs.ends.from_byte.Goals as goal

-- the symbol before: a stopper, or a continuer
module _ {code : Code} {buf : List ℕ} {p count q left : ℕ} (a : Passing code buf p count q left) (some : 0 < left) (h : 0 < q) {s y : ℕ} (s_is : s ≡ stoppers code 0)
    (y_is : y ≡ get_or (symbols_of code.k buf) (q - 1) 0) where
  stopper_before : y < s → Passing code buf p count (q - 1) (left + 1)
  stopper_before l = back_stopper a (q - 1) (omega arith) some (omega arith)

  continuer_before : s ≤ y → Passing code buf p count (q - 1) left
  continuer_before l = back_continuer a (q - 1) (omega arith) some (omega arith)

pub place_in_byte-requires : goal.place_in_byte-requires
place_in_byte-requires c = code_width c.args.code c.requires.0.good

pub loop-q-init : goal.loop-q-init
loop-q-init c = (omega arith, passing_first c.requires.0, c.requires.1)

pub get-requires : goal.get-requires
get-requires c =
    (code_width c.args.code c.requires.0.good, omega (arith, passing_inside c.loop-q.invariant.1 c.loop-q.invariant.2))

pub overflow_add-left : goal.overflow_add-left
overflow_add-left c =
    let a = stopper_before c.loop-q.invariant.1 c.loop-q.invariant.2 (omega arith) c.stoppers_at-s.ensures (c.from.ensures ∙ c.get.ensures) c.if-from-s.true in
    omega (arith, passing_few a, a.counts)

pub loop-q-preserved-then-from-s : goal.loop-q-preserved-then-from-s
loop-q-preserved-then-from-s c =
    (omega arith, stopper_before c.loop-q.invariant.1 c.loop-q.invariant.2 (omega arith) c.stoppers_at-s.ensures (c.from.ensures ∙ c.get.ensures) c.if-from-s.true, omega arith)

pub loop-q-preserved : goal.loop-q-preserved
loop-q-preserved c =
    (omega arith, continuer_before c.loop-q.invariant.1 c.loop-q.invariant.2 (omega arith) c.stoppers_at-s.ensures (c.from.ensures ∙ c.get.ensures) c.if-from-s.false, c.loop-q.invariant.2)
