-- `report::program::lines_out` meets its contract: the lines are put part by part.
use Rattle.std.proofs.Common.{◌≡◌, ap, [], ◌∷◌, ◌+◌, ◌≤◌, length, arith}
use Rattle.writing.specs.Paper.Written.{decimal, hex_lines, number_lines}
use Rattle.writing.specs.Laws.Written.{going_none, going_as, going_more, going_whole}
use Rattle.report.specs.Paper.Report.{best_word, symbols_word, hits_word, lines_of}
use Rattle.report.specs.Laws.Written.{lines_parts}
use Rattle.report.proofs.program.lines_out.Goals as goal

pub returns-clause-out : goal.returns-clause-out
unfolding best_word symbols_word hits_word
returns-clause-out c =
    let a = c.args in
    let lines = lines_of a.s a.h a.bytes.now a.hits.now in
    let room : 0 + length lines ≤ length a.out.now = omega (arith, c.requires) in
    let s : decimal c.from.result ≡ decimal a.s = ap decimal c.from.ensures in
    let h : decimal c.from-2.result ≡ decimal a.h = ap decimal c.from-2.ensures in
    let none = going_as (lines_parts a.s a.h a.bytes.now a.hits.now) (going_none lines a.out.now 0) in
    let best = going_more room best_word none c.text_out-p.ensures.out c.text_out-p.ensures.next in
    let best_s = going_more room (decimal a.s) best (rw s at c.decimal_out-p.ensures.out) (rw s at c.decimal_out-p.ensures.next) in
    let symbols = going_more room symbols_word best_s c.text_out-p-2.ensures.out c.text_out-p-2.ensures.next in
    let symbols_h = going_more room (decimal a.h) symbols (rw h at c.decimal_out-p-2.ensures.out) (rw h at c.decimal_out-p-2.ensures.next) in
    let first = going_more room (10 ∷ []) symbols_h c.text_out-p-3.ensures.out c.text_out-p-3.ensures.next in
    let bytes = going_more room (hex_lines a.bytes.now) first c.hex_out-p.ensures.out c.hex_out-p.ensures.next in
    let found = going_more room (number_lines a.hits.now) bytes c.numbers_out-p.ensures.out c.numbers_out-p.ensures.next in
    let hits = going_more room hits_word found c.text_out-p-4.ensures.out c.text_out-p-4.ensures.next in
    let hits_n = going_more room (decimal (length a.hits.now)) hits c.decimal_out-p-3.ensures.out c.decimal_out-p-3.ensures.next in
    let all = going_more room (10 ∷ []) hits_n c.text_out.ensures.out c.text_out.ensures.next in
    (going_whole room all).1
