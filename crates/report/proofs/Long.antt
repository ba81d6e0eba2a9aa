-- How long the program's lines are, part by part.
use Rattle.std.proofs.Common.{◌≡◌, List, ℕ, ◌+◌, length, length-append, arith}
use Rattle.writing.specs.Paper.Written.{decimal, hex_lines, number_lines}
use Rattle.report.specs.Paper.Report.{best_word, symbols_word, hits_word, best_line, hits_line, lines_of}

pub lines_long : (s h : ℕ) (bytes found : List ℕ)
    → length (lines_of s h bytes found)
    ≡ 20 + length (decimal s) + length (decimal h) + length (hex_lines bytes) + length (number_lines found) + length (decimal (length found)) + 1
unfolding lines_of best_line hits_line best_word symbols_word hits_word
lines_long s h bytes found = simp length-append (omega arith)
