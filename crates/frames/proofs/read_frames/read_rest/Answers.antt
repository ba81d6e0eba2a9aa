-- `frames::read_frames::read_rest` meets its contract: each refusal is asked before the first store.
use Rattle.std.proofs.Common.{◌≡◌, sym, ap, subst, ◌∙◌, List, ◌++◌, ℕ, ◌≤◌, T, length, take, drop, length-take-le, Ok}
use Rattle.std.proofs.lemmas.Result.{err_from_is_err_and}
use Rattle.ground.specs.Paper.Refusals.{Outcome, accepted}
use Rattle.ground.specs.Laws.Refusals.{Accepted}
use Rattle.stopper.specs.Paper.Table.{good_table}
use Rattle.stopper.specs.Laws.Table.{table_code}
use Rattle.symbols.specs.Helpers.Widths.{Width}
use Rattle.symbols.specs.Laws.Sizes.{room_bytes}
use Rattle.sound.specs.declared.records.Roll.{Roll}
use Rattle.judge.specs.Paper.Judge.{judge_for, judge_after, verdict_says}
use Rattle.judge.specs.Laws.Judged.{verdict_is}
use Rattle.roll.specs.Helpers.Refused.{Fitting}
use Rattle.roll.specs.Laws.Accepting.{fits_is}
use Rattle.frames.specs.Paper.Frames.{later_for, bytes_used, all_right, packed_from}
use Rattle.frames.specs.Paper.Operations.{lines_say, packed_after, rest_says}
use Rattle.frames.specs.Laws.Later.{packed_length}
use Rattle.frames.specs.Laws.Operations.{lines_right, rest_refused, rest_yes, rest_15, rest_fits, rest_bytes}
use Rattle.frames.proofs.read_frames.read_rest.Goals as goal

module _ (r : Roll) (rest : List ℕ) {bytes : ℕ} (n : bytes ≡ bytes_used r) where
  -- what the lines say
  said : {o : Outcome (Unit {0})} → o ≡ lines_say bytes rest → lines_say (bytes_used r) rest ≡ o
  said l = ap (λ (m : ℕ). lines_say m rest) (sym n) ∙ sym l

  module _ (l : accepted tt ≡ lines_say bytes rest) where
    right : Accepted (lines_say (bytes_used r) rest)
    right = said l

    all : T (all_right (later_for (bytes_used r)) (bytes_used r) rest)
    all = lines_right (bytes_used r) rest right

    size : length (packed_after r rest) ≡ bytes_used r
    unfolding packed_after
    size = packed_length (bytes_used r) rest all

    -- the table is good, and there is room
    module _ (buf : List ℕ) (f : Fitting r buf (Ok tt)) where
      table : T (good_table r.table)
      table = ((fits_is r buf).1 (sym f.says)).0

      room : Width r.table.code.k → bytes ≤ length buf
      room w = subst (λ (m : ℕ). m ≤ length buf) (sym n) (room_bytes w r.h (length buf) ((fits_is r buf).1 (sym f.says)).1)

      -- the judge's verdict is check's
      judged_is : {o : Outcome (Unit {0})} → o ≡ verdict_says (judge_after (judge_for r) (packed_after r rest)) → rest_says r rest buf ≡ o
      judged_is v = rest_bytes r rest buf right (sym f.says) ∙ sym (v ∙ verdict_is r (table_code r.table table) (packed_after r rest) (λ _. size))

      -- what is lent has room for all bytes, and no more
      lent : Width r.table.code.k → length (take bytes buf) ≡ bytes_used r
      lent w = length-take-le bytes buf (room w) ∙ n

      store : Width r.table.code.k → T (all_right (later_for (length (take bytes buf))) (length (take bytes buf)) rest)
      store w = rw (lent w) all

      stored : Width r.table.code.k → {out : List ℕ} → out ≡ packed_from (later_for (length (take bytes buf))) rest
          → out ++ drop bytes buf ≡ packed_after r rest ++ drop (length (packed_after r rest)) buf
      unfolding packed_after
      stored w p = rw (p, lent w, n) (ap (λ (m : ℕ). packed_from (later_for (bytes_used r)) rest ++ drop m buf) (sym size))

pub returns-in_err-check_lines : goal.returns-in_err-check_lines
returns-in_err-check_lines c =
    let p = err_from_is_err_and c.from_residual.result c.from_residual.ensures.1 in
    let r = c.args.roll in
    let rest = c.args.rest.now in
    rw (p.1, p.2) (rest_refused (rest_15 r rest c.args.buf.now (said r rest c.bytes_for-bytes.ensures c.in_err-check_lines.ensures)))

pub returns-in_err-fits : goal.returns-in_err-fits
returns-in_err-fits c =
    let p = err_from_is_err_and c.from_residual-in_err-fits.result c.from_residual-in_err-fits.ensures.1 in
    let r = c.args.roll in
    let rest = c.args.rest.now in
    rw (p.1, p.2) (rest_refused (rest_fits r rest c.args.buf.now (right r rest c.bytes_for-bytes.ensures c.in_ok-check_lines.ensures) (sym c.in_err-fits.ensures.says)))

pub judge_lines-requires : goal.judge_lines-requires
judge_lines-requires c =
    let r = c.args.roll in
    let rest = c.args.rest.now in
    let n = c.bytes_for-bytes.ensures in
    let l = c.in_ok-check_lines.ensures in
    (table r rest n l c.args.buf.now c.in_ok-fits.ensures, all r rest n l)

pub returns-in_err-judge_lines : goal.returns-in_err-judge_lines
returns-in_err-judge_lines c =
    let p = err_from_is_err_and c.from_residual-in_err-judge_lines.result c.from_residual-in_err-judge_lines.ensures.1 in
    let r = c.args.roll in
    let rest = c.args.rest.now in
    rw (p.1, p.2) (rest_refused (judged_is r rest c.bytes_for-bytes.ensures c.in_ok-check_lines.ensures c.args.buf.now c.in_ok-fits.ensures c.in_err-judge_lines.ensures))

pub slice_bounds-store_lines-end : goal.slice_bounds-store_lines-end
slice_bounds-store_lines-end c = room c.args.roll c.args.rest.now c.bytes_for-bytes.ensures c.in_ok-check_lines.ensures c.args.buf.now c.in_ok-fits.ensures c.requires

pub slice_bounds-store_lines-end-2 : goal.slice_bounds-store_lines-end-2
slice_bounds-store_lines-end-2 c =
    sym (length-take-le _ _ (room c.args.roll c.args.rest.now c.bytes_for-bytes.ensures c.in_ok-check_lines.ensures c.args.buf.now c.in_ok-fits.ensures c.requires))

pub store_lines-requires : goal.store_lines-requires
store_lines-requires c = store c.args.roll c.args.rest.now c.bytes_for-bytes.ensures c.in_ok-check_lines.ensures c.args.buf.now c.in_ok-fits.ensures c.requires

pub returns : goal.returns
returns c =
    let r = c.args.roll in
    let rest = c.args.rest.now in
    let n = c.bytes_for-bytes.ensures in
    let l = c.in_ok-check_lines.ensures in
    let buf = c.args.buf.now in
    let f = c.in_ok-fits.ensures in
    rest_yes (judged_is r rest n l buf f c.in_ok-judge_lines.ensures) (stored r rest n l buf f c.requires c.store_lines.ensures)
