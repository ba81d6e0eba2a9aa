-- What the program answers, as the paper says it: from the bytes that came in to the bytes that go out.
use Rattle.std.specs.Prelude.{cond, not, List, [], ◌∷◌, ◌++◌, ℕ, ltb, eqb, length}
use Rattle.ground.specs.Paper.Refusals.{Row, Outcome, accepted, refused, refuse, judged, ◌then◌}
use Rattle.ground.specs.Paper.Rows.{zeros}
use Rattle.stopper.specs.declared.table.Table.{Table}
use Rattle.choosing.specs.Paper.Choosing.{counts_of, counted, chosen_table}
use Rattle.symbols.specs.Paper.Symbols.{bytes_of}
use Rattle.texts.specs.Paper.Hits.{hits, good_pattern}
use Rattle.sound.specs.Paper.Roll.{symbols_for, record_of}
use Rattle.roll.specs.Paper.Operations.{pack_says}
use Rattle.writing.specs.Paper.Written.{number_lines, hex_lines, decimal}

-- ---- what came in

-- up to the first byte 10 is the pattern
unfoldable pub given_pattern : List ℕ → List ℕ
given_pattern [] = []
given_pattern (b ∷ input) = let more : List ℕ = b ∷ given_pattern input in cond (eqb b 10) [] more

-- all after it is the text; without a byte 10 it is empty
unfoldable pub given_text : List ℕ → List ℕ
given_text [] = []
given_text (b ∷ input) = let later : List ℕ = given_text input in cond (eqb b 10) input later

-- ---- numbers and bytes, written

-- ---- the lines, each ended by byte 10

-- the words `best `, ` symbols `, `hits ` and `refused `, blanks included
unfoldable pub best_word : List ℕ
best_word = 98 ∷ 101 ∷ 115 ∷ 116 ∷ 32 ∷ []

unfoldable pub symbols_word : List ℕ
symbols_word = 32 ∷ 115 ∷ 121 ∷ 109 ∷ 98 ∷ 111 ∷ 108 ∷ 115 ∷ 32 ∷ []

unfoldable pub hits_word : List ℕ
hits_word = 104 ∷ 105 ∷ 116 ∷ 115 ∷ 32 ∷ []

unfoldable pub refused_word : List ℕ
refused_word = 114 ∷ 101 ∷ 102 ∷ 117 ∷ 115 ∷ 101 ∷ 100 ∷ 32 ∷ []

-- best S symbols T
unfoldable pub best_line : ℕ → ℕ → List ℕ
best_line s h = best_word ++ (decimal s ++ (symbols_word ++ (decimal h ++ (10 ∷ []))))

-- hits N
unfoldable pub hits_line : ℕ → List ℕ
hits_line n = hits_word ++ (decimal n ++ (10 ∷ []))

-- refused NUMBER VALUE
unfoldable pub refused_line : ℕ → ℕ → List ℕ
refused_line number value = refused_word ++ (decimal number ++ (32 ∷ (decimal value ++ (10 ∷ []))))

-- s, h, the packed bytes, the hits
unfoldable pub lines_of : ℕ → ℕ → List ℕ → List ℕ → List ℕ
lines_of s h bytes found = best_line s h ++ (hex_lines bytes ++ (number_lines found ++ hits_line (length found)))

-- ---- the answer

-- chosen with k = 2 for the text's own counts
abbrev pub own_table : List ℕ → Table
own_table text = chosen_table 2 (counted (counts_of text))

-- 11 first, then a text over 16,384 bytes
abbrev pub report_rows : List ℕ → List Row
report_rows input =
    refuse 11 0 (not (good_pattern (given_pattern input)))
    ∷ refuse 4 16384 (ltb 16384 (length (given_text input)))
    ∷ []

abbrev pub lines_for : List ℕ → List ℕ → List ℕ
lines_for pattern text =
    let t : Table = own_table text in
    lines_of t.code.s (record_of t text).h (bytes_of 2 (symbols_for t text)) (hits pattern text)

-- packing's refusals, into 16,384 bytes, then the lines
abbrev pub packed_says : List ℕ → List ℕ → Outcome (List ℕ)
packed_says pattern text = pack_says (own_table text) text (zeros 16384) then accepted (lines_for pattern text)

abbrev pub answered : Outcome (List ℕ) → List ℕ
answered (accepted lines) = lines
answered (refused number value) = refused_line number value

unfoldable pub report_of : List ℕ → List ℕ
report_of input = answered (judged (report_rows input) (tt {0}) then packed_says (given_pattern input) (given_text input))

-- ---- what helpers answer
