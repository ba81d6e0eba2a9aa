-- `report::program::refused_out` meets its contract: the line is put part by part.
use Rattle.std.proofs.Common.{◌≡◌, ap, ◌∙◌, [], ◌∷◌, ◌+◌, ◌≤◌, length, arith}
use Rattle.ground.specs.Paper.Answers.{number_of, value_of}
use Rattle.writing.specs.Paper.Written.{decimal}
use Rattle.writing.specs.Laws.Written.{going_none, going_as, going_more, going_whole}
use Rattle.report.specs.Paper.Report.{refused_word}
use Rattle.report.specs.Helpers.Answers.{line_for}
use Rattle.report.specs.Laws.Written.{refused_few, refused_parts}
use Rattle.report.proofs.program.refused_out.Goals as goal

pub returns : goal.returns
unfolding refused_word
returns c =
    let out = c.args.out.now in
    let number = number_of c.args.refusal in
    let value = value_of c.args.refusal in
    let line = line_for c.args.refusal in
    let room : 0 + length line ≤ length out = omega (arith, c.requires, refused_few number value) in
    let n : decimal c.from.result ≡ decimal number = ap decimal (c.from.ensures ∙ c.number.ensures) in
    let v : decimal c.value.result ≡ decimal value = ap decimal c.value.ensures in
    let none = going_as (refused_parts number value) (going_none line out 0) in
    let word = going_more room refused_word none c.text_out-p.ensures.out c.text_out-p.ensures.next in
    let word_n = going_more room (decimal number) word (rw n at c.decimal_out-p.ensures.out) (rw n at c.decimal_out-p.ensures.next) in
    let blank = going_more room (32 ∷ []) word_n c.text_out-p-2.ensures.out c.text_out-p-2.ensures.next in
    let blank_v = going_more room (decimal value) blank (rw v at c.decimal_out-p-2.ensures.out) (rw v at c.decimal_out-p-2.ensures.next) in
    let all = going_whole room (going_more room (10 ∷ []) blank_v c.text_out.ensures.out c.text_out.ensures.next) in
    record { length = all.0; out = all.1 }
