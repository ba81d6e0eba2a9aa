-- `frames::read_frames::check_lines` meets its contract: the lines passed are right, and what is said of the others is said of all.
use Rattle.std.proofs.Common.{◌≡◌, refl, sym, ◌∙◌, true, false, eqb, List, ℕ, suc, ◌+◌, ◌-◌, ◌*◌, ◌≤◌, ◌<◌, length, take, drop, length-drop, take_all, le_of_eq, arith}
use Rattle.ground.specs.Paper.Refusals.{refused, accepted}
use Rattle.ground.specs.Laws.Tests.{true_yes}
use Rattle.frames.specs.Paper.Frames.{later_for, bytes_next, line_of, is_later, right_line, right_before}
use Rattle.frames.specs.Paper.Operations.{lines_say}
use Rattle.frames.specs.Laws.Later.{right_short, right_is, all_none, before_none, before_wrong, all_wrong, all_next, before_next}
use Rattle.frames.specs.Laws.Operations.{lines_15, lines_yes}
use Rattle.frames.proofs.read_frames.check_lines.Invariants.{Passed}
use Rattle.frames.proofs.read_frames.check_lines.Goals as goal
use Rattle.frames.proofs.read_frames.check_lines.Goals.{then-rest-long-via-then-rest-long, then-rest-long-via-else-rest-long+then-not-is_later}

module _ {rest text : List ℕ} {bytes left number : ℕ} (i : Passed rest bytes text left number) where
  -- no bytes are left
  too_many : left ≡ 0 → eqb (length text) 0 ≡ false → refused 15 number ≡ lines_say bytes rest
  too_many e more = sym (lines_15 bytes rest (i.all ∙ rw e (all_none text ∙ more)) (i.before ∙ rw e (omega (arith, before_none text))))

  over : left ≡ 0 → eqb (length text) 0 ≡ true → accepted tt ≡ lines_say bytes rest
  over e none = sym (lines_yes bytes rest (i.all ∙ rw e (all_none text ∙ none)))

  -- some are: the next line
  module _ (h : 0 < left) where
    wrong : right_line left (line_of text) ≡ false → refused 15 number ≡ lines_say bytes rest
    wrong e = let z = before_wrong left text h e in sym (lines_15 bytes rest (i.all ∙ all_wrong text left 0 h e) (i.before ∙ omega arith))

    module _ {next : ℕ} (n : next ≡ bytes_next left) where
      short : length text < 2 * next + 3 → refused 15 number ≡ lines_say bytes rest
      short l = wrong (right_short left text (rw n at l))

      module _ (l : 2 * next + 3 ≤ length text) where
        other : is_later (take (2 * next + 3) text) ≡ false → refused 15 number ≡ lines_say bytes rest
        other e = wrong (right_is left text (rw n at l) ∙ rw n at e)

        passed : is_later (take (2 * next + 3) text) ≡ true → Passed rest bytes (take (length text - (2 * next + 3)) (drop (2 * next + 3) text)) (left - next) (number + 1)
        passed e =
            let t = true_yes _ (rw n at e) in
            let k = rw n at l in
            let o : 0 + (2 * bytes_next left + 3) ≡ 2 * bytes_next left + 3 = omega arith in
            let all = i.all ∙ rw o at (all_next text left 0 h k t) in
            let z = rw o at (before_next text left 0 h k t) in
            let before : suc (right_before (later_for bytes) bytes rest) ≡ number + 1 + right_before (later_for (left - bytes_next left)) (left - bytes_next left) (drop (2 * bytes_next left + 3) text) = omega (arith, i.before, z) in
            rw (take_all (length text - (2 * next + 3)) (drop (2 * next + 3) text) (le_of_eq (length-drop (2 * next + 3) text)))
            (record { inside = omega (arith, i.inside, l, length-drop (2 * next + 3) text); all = rw n all; before = rw n before })

pub loop-left-init : goal.loop-left-init
loop-left-init c = record { inside = omega arith; all = refl; before = omega arith }

pub returns-then-rest-long : goal.returns-then-rest-long
returns-then-rest-long c =
    let i = c.loop-left.invariant in
    let h = c.loop-left-test.true in
    let n = c.bytes_next-next.ensures in
    elim c.then-rest-long.branch [
      | then-rest-long-via-then-rest-long w ↦ short i h n w.if-rest-long.true
      | then-rest-long-via-else-rest-long+then-not-is_later w ↦ other i h n w.if-rest-long.false (sym w.is_later.ensures ∙ w.if-not-is_later.true)
    ]

pub overflow_add-number : goal.overflow_add-number
overflow_add-number c = omega (arith, c.loop-left.invariant.inside, c.if-rest-long.false)

pub loop-left-preserved : goal.loop-left-preserved
loop-left-preserved c = passed c.loop-left.invariant c.loop-left-test.true c.bytes_next-next.ensures c.if-rest-long.false (sym c.is_later.ensures ∙ c.if-not-is_later.false)

pub returns-then-is_empty : goal.returns-then-is_empty
returns-then-is_empty c = over c.loop-left.invariant (omega (arith, c.loop-left-test.false)) (sym c.is_empty.ensures ∙ c.if-is_empty.true)

pub returns-else-is_empty : goal.returns-else-is_empty
returns-else-is_empty c = too_many c.loop-left.invariant (omega (arith, c.loop-left-test.false)) (sym c.is_empty.ensures ∙ c.if-is_empty.false)
