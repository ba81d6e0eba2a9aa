-- What the program's definition forbids, each on a named input.
use Rattle.std.specs.Prelude.{◌≡◌, refl, false, List, [], ◌∷◌, ◌++◌, ℕ, length, drop, get_or, replicate}
use Rattle.std.proofs.Common.{sym, ap, ◌∙◌, arith}
use Rattle.texts.specs.Paper.Hits.{good_pattern}
use Rattle.worked.specs.Program.{example, example_lines, computed}
use Rattle.writing.specs.Paper.Written.{decimal_in, decimal, hex_lines, hex_from}
use Rattle.report.specs.Paper.Report.{given_pattern, refused_word, refused_line, report_of}
use Rattle.report.specs.Laws.Answer.{report_11}

-- ---- the paper's example, byte by byte

example_answer : report_of example ≡ example_lines
unfolding example example_lines computed
example_answer = refl

at : {out : List ℕ} (i : ℕ) → report_of example ≡ out → get_or out i 0 ≡ get_or example_lines i 0
at i e = ap (λ (l : List ℕ). get_or l i 0) (sym e ∙ example_answer)

-- choosing with k = 4: s would be 15
pub report_not_wide : {out : List ℕ} → report_of example ≡ out → get_or out 5 0 ≡ 49 → ⊥
unfolding example_lines
report_not_wide e w = let a = at 5 e in omega arith

-- choosing's total in the place of h: it is 53, so its first digit would be 5, which is byte 53
pub report_not_total : {out : List ℕ} → report_of example ≡ out → get_or out 15 0 ≡ 53 → ⊥
unfolding example_lines
report_not_total e w = let a = at 15 e in omega arith

-- upper-case hexadecimal: 182A
pub report_not_upper : {out : List ℕ} → report_of example ≡ out → get_or out 21 0 ≡ 65 → ⊥
unfolding example_lines
report_not_upper e w = let a = at 21 e in omega arith

-- hits from 1: the first would be 1
pub report_not_from_1 : {out : List ℕ} → report_of example ≡ out → get_or out 29 0 ≡ 49 → ⊥
unfolding example_lines
report_not_from_1 e w = let a = at 29 e in omega arith

-- a leading zero: 07
pub report_not_leading : {out : List ℕ} → report_of example ≡ out → get_or out 31 0 ≡ 48 → ⊥
unfolding example_lines
report_not_leading e w = let a = at 31 e in omega arith

-- a last line that is not ended
pub report_not_unended : {out : List ℕ} → report_of example ≡ out → length out ≡ 39 → ⊥
unfolding example_lines
report_not_unended e w = let a = ap length (sym e ∙ example_answer) in omega arith

-- ---- lines of hexadecimal

-- 31 bytes a line
pub hex_not_31 : get_or (hex_lines (replicate 32 0)) 62 0 ≡ 10 → ⊥
unfolding hex_from
hex_not_31 e = omega arith

-- 33 bytes a line
pub hex_not_33 : get_or (hex_lines (replicate 33 0)) 64 0 ≡ 48 → ⊥
unfolding hex_from
hex_not_33 e = omega arith

-- an empty line behind 32 bytes
pub hex_not_empty : get_or (hex_lines (replicate 32 0)) 65 0 ≡ 10 → ⊥
unfolding hex_from
hex_not_empty e = omega arith

-- an empty line for no bytes
pub hex_not_blank : hex_lines [] ≡ 10 ∷ [] → ⊥
unfolding hex_from
hex_not_blank e = let z : ◌≡◌ {A = ℕ} 0 1 = cc in omega arith

-- ---- the order of the refusals

-- 11 and 4 are told apart by their first digit
eleven_not_4 : (value : ℕ) → refused_line 11 0 ≡ refused_line 4 value → ⊥
unfolding refused_line refused_word decimal decimal_in
eleven_not_4 value e = let a = ap (λ (l : List ℕ). get_or l 8 0) e in omega arith

-- a bad pattern is never 4, whatever the text: it is 11
pub report_11_first : (input : List ℕ) (value : ℕ) → good_pattern (given_pattern input) ≡ false → report_of input ≡ refused_line 4 value → ⊥
report_11_first input value g e = eleven_not_4 value (sym (report_11 input g) ∙ e)

-- 4 before 11: 65 times a, then a text of 16,385 bytes
pub report_not_4_first : report_of (replicate 65 97 ++ (10 ∷ replicate 16385 0)) ≡ refused_line 4 16384 → ⊥
unfolding given_pattern good_pattern
report_not_4_first e = report_11_first (replicate 65 97 ++ (10 ∷ replicate 16385 0)) 16384 refl e

-- without a byte 10 the input is the pattern, and not the text
pub report_not_text : report_of (97 ∷ 98 ∷ 99 ∷ []) ≡ refused_line 11 0 → ⊥
unfolding computed
report_not_text e = let a = ap (λ (l : List ℕ). get_or l 0 0) e in omega arith

-- ---- hits

-- going on behind a hit: aa in aaa hits 0 and 1, and no `hits` follows the first
pub report_not_skipping : {out : List ℕ} → report_of (97 ∷ 97 ∷ 10 ∷ 97 ∷ 97 ∷ 97 ∷ []) ≡ out → get_or out 22 0 ≡ 104 → ⊥
unfolding computed
report_not_skipping e w = let a = ap (λ (l : List ℕ). get_or l 22 0) e in omega arith

-- a match of symbols inside a codeword: b in abracadabra hits 1 and 8, and not 4
pub report_not_inside : {out : List ℕ} → report_of (98 ∷ 10 ∷ drop 5 example) ≡ out → get_or out 31 0 ≡ 52 → ⊥
unfolding example computed
report_not_inside e w = let a = ap (λ (l : List ℕ). get_or l 31 0) e in omega arith
