-- `sound::ends::end_at` meets its contract: symbol q is a continuer or a stopper of the open codeword.
use Rattle.std.proofs.Common.{◌≡◌, refl, ap, ◌∙◌, ℕ, suc, ◌+◌, ◌≤◌, ◌<◌, List, length, get_or, drop, arith}
use Rattle.stopper.specs.Paper.Table.{stoppers}
use Rattle.stopper.specs.Helpers.State.{nearer}
use Rattle.stopper.specs.Laws.Table.{code_width}
use Rattle.stopper.specs.Laws.State.{near_next, stoppers_near}
use Rattle.stopper.specs.declared.code.Code.{Code}
use Rattle.symbols.specs.Paper.Symbols.{symbols_of}
use Rattle.sound.specs.Helpers.Ends.{end_of, end_from}
use Rattle.sound.specs.Laws.Ends.{stops_inside, goes_on_lem, ends_here}
use Rattle.sound.proofs.ends.end_at.Invariants.{Open}
use Rattle.sound.proofs.ends.end_at.Goals as goal

module _ {code : Code} {buf : List ℕ} {p q place : ℕ} (o : Open code buf p q place) where
  inside : q < length (symbols_of code.k buf)
  inside = stops_inside (stoppers code) o.i (symbols_of code.k buf) q o.some

  -- the stoppers of the place, and the symbol
  module _ {s y : ℕ} (s_is : s ≡ stoppers code place) (y_is : y ≡ get_or (symbols_of code.k buf) q 0) where
    stoppers_are : s ≡ stoppers code o.i
    stoppers_are = s_is ∙ ap (stoppers code) o.at ∙ stoppers_near code o.i

    goes_on : s ≤ y → {next : ℕ} → next ≡ nearer place → Open code buf p (q + 1) next
    goes_on h next_is =
        let w = goes_on_lem (stoppers code) o.i (symbols_of code.k buf) q o.some (omega (arith, stoppers_are)) in
        record {
          i = suc o.i;
          at = next_is ∙ ap nearer o.at ∙ near_next o.i;
          some = w.0;
          ends = omega (arith, w.1, o.ends);
        }

    here : y < s → end_of (stoppers code) 1 o.i (drop q (symbols_of code.k buf)) ≡ 1
    here h = ends_here (stoppers code) o.i (symbols_of code.k buf) q o.some (omega (arith, stoppers_are))

pub get-requires : goal.get-requires
get-requires c = (code_width c.args.code c.requires.good, inside c.loop-code.invariant)

pub loop-code-preserved : goal.loop-code-preserved
loop-code-preserved c =
    goes_on c.loop-code.invariant c.stoppers_at.ensures (c.from.ensures ∙ c.get.ensures) c.loop-code-test.true c.next_place-place.ensures

pub overflow_add-q : goal.overflow_add-q
unfolding end_from
overflow_add-q c =
    omega (arith, (goes_on c.loop-code.invariant c.stoppers_at.ensures (c.from.ensures ∙ c.get.ensures) c.loop-code-test.true refl).ends, c.requires.counts)

pub loop-code-smaller : goal.loop-code-smaller
loop-code-smaller c = omega (arith, inside c.loop-code.invariant)

pub overflow_add-result : goal.overflow_add-result
unfolding end_from
overflow_add-result c =
    omega (arith, here c.loop-code.invariant c.stoppers_at.ensures (c.from.ensures ∙ c.get.ensures) c.loop-code-test.false, c.loop-code.invariant.ends, c.requires.counts)

pub returns : goal.returns
unfolding end_from
returns c =
    omega (arith, here c.loop-code.invariant c.stoppers_at.ensures (c.from.ensures ∙ c.get.ensures) c.loop-code-test.false, c.loop-code.invariant.ends)
