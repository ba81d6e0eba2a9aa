-- The program's lines: how long they are, and their parts.
use Rattle.std.specs.Prelude.{◌≡◌, refl, List, [], ◌∷◌, ◌++◌, ℕ, ◌≤◌, length}
use Rattle.std.proofs.Common.{append_assoc, arith, length-append}
use Rattle.writing.specs.Paper.Written.{decimal, hex_lines, number_lines}
use Rattle.writing.specs.Laws.Written.{decimal_most}
use Rattle.report.specs.Paper.Report.{best_word, symbols_word, hits_word, refused_word, best_line, hits_line, refused_line, lines_of}

pub refused_few : (number value : ℕ) → length (refused_line number value) ≤ 50
unfolding refused_line refused_word
refused_few number value = simp length-append (omega (arith, decimal_most number, decimal_most value))

-- ---- the lines, part by part

pub refused_parts : (number value : ℕ) → refused_line number value ≡ refused_word ++ (decimal number ++ (32 ∷ (decimal value ++ (10 ∷ []))))
unfolding refused_line
refused_parts number value = refl

pub lines_parts : (s h : ℕ) (bytes found : List ℕ)
    → lines_of s h bytes found
    ≡ best_word
    ++ (decimal s ++ (symbols_word ++ (decimal h ++ (10 ∷ (hex_lines bytes ++ (number_lines found ++ (hits_word ++ (decimal (length found) ++ (10 ∷ [])))))))))
unfolding lines_of best_line hits_line
lines_parts s h bytes found = simp append_assoc
