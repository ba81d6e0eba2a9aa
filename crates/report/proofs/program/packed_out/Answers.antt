-- `report::program::packed_out` meets its contract: the text's own table, its packing, and all the hits.
use Rattle.std.proofs.Common.{◌≡◌, refl, sym, ap, ap₂, subst, ◌∙◌, List, ℕ, ◌≤◌, T, length, take, Ok, Err, Result, length-take-le, arith}
use Rattle.std.proofs.lemmas.Result.{err_from_is_err_and}
use Rattle.std.proofs.lemmas.List.{length-replicate}
use lib.ListN.{replicate}
use Rattle.ground.specs.Paper.Rows.{zeros}
use Rattle.ground.specs.Laws.Answers.{ok_accepted}
use Rattle.ground.specs.declared.refusal.Refusal.{Refusal}
use Rattle.stopper.specs.declared.table.Table.{Table}
use Rattle.choosing.specs.Paper.Choosing.{counts_of}
use Rattle.choosing.specs.Paper.Operations.{Counting, Choosing}
use Rattle.choosing.specs.declared.choose.Choice.{Choice}
use Rattle.symbols.specs.Paper.Symbols.{bytes_for}
use Rattle.texts.specs.Paper.Hits.{hits, good_pattern}
use Rattle.sound.specs.Paper.Roll.{record_of}
use Rattle.sound.specs.declared.records.Roll.{Roll}
use Rattle.roll.specs.Paper.Operations.{Packing, Searching}
use Rattle.report.specs.Paper.Report.{own_table, lines_of, lines_for}
use Rattle.report.specs.Laws.Answering.{counts_are, count_unrefused, own_choice, choose_unrefused, lines_are, record_is, bytes_are, bytes_few, hits_few, total_is, hits_are, answer_few, packed_refused, packed_yes}
use Rattle.report.proofs.program.packed_out.Goals as goal

-- ---- packed under the text's own table

module _ (text : List ℕ) (short : length text ≤ 16384) {a : Result (Unit {0}) Refusal} {counts : List ℕ} (t : Counting text (replicate {A = ℕ} 256 0) a counts) where
  counted : counts ≡ counts_of text
  counted = counts_are text short (length-replicate {A = ℕ} 256 0) t

  packing : {c : Choice} {r : Result Roll Refusal} {buf : List ℕ} → Choosing 2 counts (Ok c) → Packing c.table text (replicate {A = ℕ} 16384 0) r buf
      → Packing (own_table text) text (zeros 16384) r buf
  unfolding zeros
  packing {c} {r} {buf} h k = subst (λ (x : Table). Packing x text (zeros 16384) r buf) (own_choice text short counted h) k

-- ---- what is lent to be written

module _ (pattern text : List ℕ) (short : length text ≤ 16384) (good : T (good_pattern pattern)) {q : Roll} {buf : List ℕ}
    (k : Packing (own_table text) text (zeros 16384) (Ok q) buf) where
  bytes_fit : {taken : ℕ} → taken ≡ bytes_for 2 q.h → length buf ≡ length (replicate {A = ℕ} 16384 0) → taken ≤ length buf
  bytes_fit e l = omega (arith, e, l, length-replicate {A = ℕ} 16384 0, bytes_few pattern text short good k)

  total_found : {a : Result ℕ Refusal} {list : List ℕ} → Searching q buf pattern (replicate {A = ℕ} 16384 0) a list → a ≡ Ok (length (hits pattern text))
  total_found s = total_is pattern text short good k (length-replicate {A = ℕ} 16384 0) s

  search_unrefused : {e : Refusal} {list : List ℕ} → Searching q buf pattern (replicate {A = ℕ} 16384 0) (Err e) list → ⊥
  search_unrefused s = let p = total_found s in let z : ◌≡◌ {A = ℕ} 0 1 = cc in omega arith

  module _ {n : ℕ} {list : List ℕ} (s : Searching q buf pattern (replicate {A = ℕ} 16384 0) (Ok n) list) where
    total_hits : n ≡ length (hits pattern text)
    total_hits = let p = total_found s in cc

    hits_fit : length list ≡ length (replicate {A = ℕ} 16384 0) → n ≤ length list
    hits_fit l = omega (arith, l, length-replicate {A = ℕ} 16384 0, total_hits, hits_few pattern text short good k)

    lines : {taken : ℕ} → taken ≡ bytes_for 2 q.h → lines_of q.table.code.s q.h (take taken buf) (take n list) ≡ lines_for pattern text
    lines {taken} e =
        let t = own_table text in
        ap (λ (x : Roll). lines_of x.table.code.s x.h (take taken buf) (take n list)) (record_is pattern text short good k)
        ∙ ap₂ (λ (x y : List ℕ). lines_of t.code.s (record_of t text).h x y)
        (ap (λ (m : ℕ). take m buf) e ∙ bytes_are pattern text short good k)
        (ap (λ (m : ℕ). take m list) total_hits ∙ hits_are pattern text short good k (length-replicate {A = ℕ} 16384 0) s)

-- ---- the refusals: packing's alone

pub returns-in_err-count : goal.returns-in_err-count
returns-in_err-count c = absurd (count_unrefused c.args.text.now c.requires.1 (length-replicate {A = ℕ} 256 0) c.in_err-count.ensures)

pub returns-in_err-choice : goal.returns-in_err-choice
returns-in_err-choice c =
    let text = c.args.text.now in
    absurd (choose_unrefused text c.requires.1 (counted text c.requires.1 c.count.ensures) c.in_err-choice.ensures)

pub returns-in_err-roll : goal.returns-in_err-roll
returns-in_err-roll c =
    let text = c.args.text.now in
    let p = err_from_is_err_and c.from_residual-in_err-roll.result c.from_residual-in_err-roll.ensures.1 in
    rw (p.1, p.2) (packed_refused c.args.pattern.now text (packing text c.requires.1 c.count.ensures c.in_ok-choice.ensures c.in_err-roll.ensures))

pub returns-in_err-total : goal.returns-in_err-total
returns-in_err-total c =
    let text = c.args.text.now in
    let k = packing text c.requires.1 c.count.ensures c.in_ok-choice.ensures c.in_ok-roll.ensures in
    absurd (search_unrefused c.args.pattern.now text c.requires.1 c.requires.0 k c.in_err-total.ensures)

-- ---- the lines

pub slice_bounds-buf-end : goal.slice_bounds-buf-end
slice_bounds-buf-end c =
    let text = c.args.text.now in
    let k = packing text c.requires.1 c.count.ensures c.in_ok-choice.ensures c.in_ok-roll.ensures in
    bytes_fit c.args.pattern.now text c.requires.1 c.requires.0 k c.bytes_for-taken.ensures c.pack.auto.buf

pub slice_bounds-lines_out-end : goal.slice_bounds-lines_out-end
slice_bounds-lines_out-end c =
    let text = c.args.text.now in
    let k = packing text c.requires.1 c.count.ensures c.in_ok-choice.ensures c.in_ok-roll.ensures in
    sym (length-take-le _ _ (bytes_fit c.args.pattern.now text c.requires.1 c.requires.0 k c.bytes_for-taken.ensures c.pack.auto.buf))

pub slice_bounds-hits-end : goal.slice_bounds-hits-end
slice_bounds-hits-end c =
    let text = c.args.text.now in
    let k = packing text c.requires.1 c.count.ensures c.in_ok-choice.ensures c.in_ok-roll.ensures in
    hits_fit c.args.pattern.now text c.requires.1 c.requires.0 k c.in_ok-total.ensures c.search.auto.slice

pub slice_bounds-lines_out-end-2 : goal.slice_bounds-lines_out-end-2
slice_bounds-lines_out-end-2 c =
    let text = c.args.text.now in
    let k = packing text c.requires.1 c.count.ensures c.in_ok-choice.ensures c.in_ok-roll.ensures in
    sym (length-take-le _ _ (hits_fit c.args.pattern.now text c.requires.1 c.requires.0 k c.in_ok-total.ensures c.search.auto.slice))

pub lines_out-requires : goal.lines_out-requires
lines_out-requires c =
    let text = c.args.text.now in
    let pattern = c.args.pattern.now in
    let k = packing text c.requires.1 c.count.ensures c.in_ok-choice.ensures c.in_ok-roll.ensures in
    rw (lines pattern text c.requires.1 c.requires.0 k c.in_ok-total.ensures c.bytes_for-taken.ensures ∙ sym (lines_are pattern text c.requires.1 c.requires.0 k))
    (omega (arith, answer_few pattern text c.requires.1 c.requires.0 k, c.requires.2))

pub returns : goal.returns
returns c =
    let text = c.args.text.now in
    let pattern = c.args.pattern.now in
    let k = packing text c.requires.1 c.count.ensures c.in_ok-choice.ensures c.in_ok-roll.ensures in
    let e = lines pattern text c.requires.1 c.requires.0 k c.in_ok-total.ensures c.bytes_for-taken.ensures in
    packed_yes pattern text (ok_accepted _ k.says refl).0 (c.lines_out.ensures.length ∙ ap length e) (rw e at c.lines_out.ensures.out)
