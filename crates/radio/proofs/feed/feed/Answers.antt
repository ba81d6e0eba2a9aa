-- `radio::feed::feed` meets its contract.
use Rattle.std.proofs.Common.{◌≡◌, sym, ap, ◌∙◌, List, ℕ, ◌+◌, ◌-◌, ◌*◌, ◌^◌, ◌≤◌, ◌<◌, length, drop, le_of_eq, arith}
use native.Mathlib.Nat.{mul-le-mul_right}
use borrow.Author.Tests.{eq-eqb, ne_eqb}
use lib.ListN.{length-drop}
use lib.Seq.{take_all}
use Rattle.ground.specs.Paper.Runs.{run}
use Rattle.ground.specs.Laws.Answers.{says_as}
use Rattle.ground.specs.Laws.Limit.{limit_fits}
use Rattle.ground.specs.declared.refusal.Refusal.TheVariants.{ShortHits}
use Rattle.stopper.specs.Laws.Table.{code_width, table_code, table_few}
use Rattle.symbols.specs.Paper.Symbols.{per, bytes_for}
use Rattle.symbols.specs.Helpers.Widths.{Width}
use Rattle.symbols.specs.Laws.Width.{per_few}
use Rattle.symbols.specs.Laws.Sizes.{bytes_for_mono, bytes_for_least}
use Rattle.symbols.specs.Laws.Rows.{symbols_length}
use Rattle.judge.specs.Paper.Judge.{hears_all}
use Rattle.judge.specs.Helpers.Steady.{Steady}
use Rattle.judge.specs.Laws.Judge.{all_steady}
use Rattle.judge.specs.declared.records.Progress.{Progress}
use Rattle.radio.specs.Paper.Operations.{code_in}
use Rattle.radio.specs.Helpers.Following.{Ready, Went, row}
use Rattle.radio.specs.Laws.Operations.{kept_ready, feed_refused, feed_kept, feed_6, feed_5, feed_14, feed_accepted, feed_read}
use Rattle.radio.specs.declared.records.Searcher.{Searcher}
use Rattle.radio.specs.declared.feed.Followed.{Followed}
use Rattle.radio.proofs.feed.feed.Goals as goal
use Rattle.radio.proofs.feed.feed.Goals.{then-progress-ne0, else-progress-ne0}

module _ (s : Searcher) (piece : List ℕ) where
  abbrev k : ℕ
  k = (code_in s).k

  -- the symbols of the piece
  module _ {n : ℕ} (e : n ≡ per k) where
    all_is : length piece * n ≡ length piece * per k
    all_is = ap (λ (n : ℕ). length piece * n) e

    symbols : length piece * n ≡ length (row s piece)
    symbols = all_is ∙ sym (symbols_length k piece)

  module _ (r : Ready s) where
    width : Width k
    width = code_width (code_in s) (table_code _ r.table)

    -- bytes before are no more than there are
    mono : bytes_for k s.judge.progress.read ≤ bytes_for k s.judge.roll.h
    mono = bytes_for_mono width s.judge.progress.read s.judge.roll.h r.steady.read

    -- and the piece fits
    fits : {whole past : ℕ} → whole ≡ bytes_for k s.judge.roll.h → past ≡ bytes_for k s.judge.progress.read → length piece ≤ whole - past
        → bytes_for k s.judge.progress.read + length piece ≤ bytes_for k s.judge.roll.h
    fits x y z = omega (arith, mono)

    small : bytes_for k s.judge.progress.read + length piece ≤ bytes_for k s.judge.roll.h → length piece * per k < 2 ^ 32
    small f =
        omega (
          arith,
          mul-le-mul_right {m = length piece} {n = bytes_for k s.judge.roll.h} (per k) (omega arith),
          bytes_for_least width s.judge.roll.h,
          per_few width,
          r.limited,
          limit_fits,
        )

    steady : {slice after : List ℕ} {w : Followed} → Went s piece slice w after → Steady s.judge.roll.h w.progress
    steady w =
        rw w.progress (all_steady (code_in s) _ s.judge.roll.h (table_code _ r.table) (table_few _ r.table) s.judge.progress _ r.steady)

  -- the rest of the piece judged
  rest : (w : Followed) {all : ℕ} → all ≡ length (row s piece) → let heard : List ℕ → Progress = hears_all (code_in s) s.judge.roll.table.sigma s.judge.roll.h w.progress in
      heard (run (row s piece) w.at all) ≡ heard (drop w.at (row s piece))
  rest w e =
      let q : List ℕ = row s piece in
      let d : run q w.at (length q) ≡ drop w.at q = take_all (length q - w.at) (drop w.at q) (le_of_eq (length-drop w.at q)) in
      ap (hears_all (code_in s) s.judge.roll.table.sigma s.judge.roll.h w.progress) (ap (run q w.at) e ∙ d)

pub returns-in-Err : goal.returns-in-Err
returns-in-Err c =
    let a = c.args in
    feed_refused _ (feed_kept a.searcher a.piece.now a.slice.now (says_as c.kept.ensures.says c.in-Err.is)) c.refused.ensures

pub returns-then-so_far-ne0 : goal.returns-then-so_far-ne0
returns-then-so_far-ne0 c =
    let a = c.args in
    feed_refused _ (feed_6 a.searcher a.piece.now a.slice.now (says_as c.kept.ensures.says c.in_default.is) c.if-so_far-ne0.true) c.refused-then-so_far-ne0.ensures

pub bytes_for-requires : goal.bytes_for-requires
bytes_for-requires c =
    let a = c.args in
    width a.searcher a.piece.now (kept_ready a.searcher (says_as c.kept.ensures.says c.in_default.is) c.if-so_far-ne0.false)

pub bytes_for-requires-2 : goal.bytes_for-requires-2
bytes_for-requires-2 c =
    let a = c.args in
    width a.searcher a.piece.now (kept_ready a.searcher (says_as c.kept.ensures.says c.in_default.is) c.if-so_far-ne0.false)

pub overflow_sub-bytes_for : goal.overflow_sub-bytes_for
overflow_sub-bytes_for c =
    let a = c.args in
    let r = kept_ready a.searcher (says_as c.kept.ensures.says c.in_default.is) c.if-so_far-ne0.false in
    rw (c.bytes_for.ensures, c.bytes_for-2.ensures) (mono a.searcher a.piece.now r)

pub returns-then-bytes_for-piece : goal.returns-then-bytes_for-piece
returns-then-bytes_for-piece c =
    let a = c.args in
    let e = says_as c.kept.ensures.says c.in_default.is in
    let b = c.if-so_far-ne0.false in
    let m = mono a.searcher a.piece.now (kept_ready a.searcher e b) in
    feed_refused _
    (feed_5 a.searcher a.piece.now a.slice.now e b (omega (arith, m, c.if-bytes_for-piece.true, c.bytes_for-2.ensures, c.bytes_for.ensures)))
    c.refused-then-bytes_for-piece.ensures

pub per_byte-requires : goal.per_byte-requires
per_byte-requires c =
    let a = c.args in
    width a.searcher a.piece.now (kept_ready a.searcher (says_as c.kept.ensures.says c.in_default.is) c.if-so_far-ne0.false)

pub overflow_mul-all : goal.overflow_mul-all
overflow_mul-all c =
    let a = c.args in
    let r = kept_ready a.searcher (says_as c.kept.ensures.says c.in_default.is) c.if-so_far-ne0.false in
    let f = fits a.searcher a.piece.now r c.bytes_for.ensures c.bytes_for-2.ensures c.if-bytes_for-piece.false in
    omega (arith, all_is a.searcher a.piece.now c.per_byte.ensures, small a.searcher a.piece.now r f)

pub returns-then-slice-all : goal.returns-then-slice-all
returns-then-slice-all c =
    let a = c.args in
    let e = says_as c.kept.ensures.says c.in_default.is in
    let b = c.if-so_far-ne0.false in
    let f = fits a.searcher a.piece.now (kept_ready a.searcher e b) c.bytes_for.ensures c.bytes_for-2.ensures c.if-bytes_for-piece.false in
    let n = all_is a.searcher a.piece.now c.per_byte.ensures in
    feed_refused (ShortHits (length a.piece.now * per (code_in a.searcher).k))
    (feed_14 a.searcher a.piece.now a.slice.now e b f (omega (arith, n, c.if-slice-all.true)))
    (rw (← n) c.refused-then-slice-all.ensures)

pub follow-went-requires : goal.follow-went-requires
follow-went-requires c =
    let a = c.args in
    record {
      ready = kept_ready a.searcher (says_as c.kept.ensures.says c.in_default.is) c.if-so_far-ne0.false;
      symbols = symbols a.searcher a.piece.now c.per_byte.ensures;
      room = c.if-slice-all.false;
    }

pub invariant_of-ranks : goal.invariant_of-ranks
invariant_of-ranks c = record { good = table_code _ (kept_ready c.args.searcher (says_as c.kept.ensures.says c.in_default.is) c.if-so_far-ne0.false).table }

pub invariant_of-ranks-2 : goal.invariant_of-ranks-2
invariant_of-ranks-2 c = record { few = table_few _ (kept_ready c.args.searcher (says_as c.kept.ensures.says c.in_default.is) c.if-so_far-ne0.false).table }

pub hear_run-progress-requires : goal.hear_run-progress-requires
hear_run-progress-requires c =
    let a = c.args in
    let r = kept_ready a.searcher (says_as c.kept.ensures.says c.in_default.is) c.if-so_far-ne0.false in
    let w = c.follow-went.ensures in
    let n = symbols a.searcher a.piece.now c.per_byte.ensures in
    (steady a.searcher a.piece.now r w, omega (arith, w.at, n), le_of_eq n)

pub returns : goal.returns
returns c =
    let a = c.args in
    let s = a.searcher in
    let e = says_as c.kept.ensures.says c.in_default.is in
    let b = c.if-so_far-ne0.false in
    let f = fits s a.piece.now (kept_ready s e b) c.bytes_for.ensures c.bytes_for-2.ensures c.if-bytes_for-piece.false in
    let n = all_is s a.piece.now c.per_byte.ensures in
    feed_read s a.piece.now a.slice.now c.follow-went.ensures
    (feed_accepted s a.piece.now a.slice.now e b f (omega (arith, n, c.if-slice-all.false)))
    (c.hear_run-progress.ensures ∙ rest s a.piece.now c.follow-went.result (symbols s a.piece.now c.per_byte.ensures))
    c.if-progress-ne0.answer
    (elim c.if-progress-ne0.branch [
      | then-progress-ne0 w ↦ rw (w.answer-is, ne_eqb _ _ w.if-progress-ne0.true)
      | else-progress-ne0 w ↦ rw (w.answer-is, eq-eqb _ _ w.if-progress-ne0.false)
    ])
