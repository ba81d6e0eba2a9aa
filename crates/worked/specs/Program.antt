-- The paper's example and two small inputs, computed over the definitions: cases of one table under one claim.
use Rattle.std.specs.Prelude.{Bool, true, ◌&&◌, List, [], ◌∷◌, ℕ, T}
use Rattle.writing.specs.Paper.Written.{decimal_in, decimal, hex_from, number_lines}
use Rattle.report.specs.Paper.Report.{given_pattern, given_text, best_word, symbols_word, hits_word, refused_word, best_line, hits_line, refused_line, lines_of, report_of}
use Rattle.worked.specs.Cases.{same}
use Rattle.worked.specs.Cases as paper

-- an input and the whole output
record Case : Type 0 where
  input : List ℕ
  output : List ℕ

every : List Case → Bool
every [] = true
every (c ∷ cases) = same (report_of c.input) c.output && every cases

-- abra, byte 10, abracadabra
unfoldable pub example : List ℕ
example = 97 ∷ 98 ∷ 114 ∷ 97 ∷ 10 ∷ 97 ∷ 98 ∷ 114 ∷ 97 ∷ 99 ∷ 97 ∷ 100 ∷ 97 ∷ 98 ∷ 114 ∷ 97 ∷ []

-- best 2 symbols 19, 182a4ac180, 0, 7, hits 2
unfoldable pub example_lines : List ℕ
example_lines = 98 ∷ 101 ∷ 115 ∷ 116 ∷ 32 ∷ 50 ∷ 32 ∷ 115 ∷ 121 ∷ 109 ∷ 98 ∷ 111 ∷ 108 ∷ 115 ∷ 32 ∷ 49 ∷ 57 ∷ 10 ∷ 49 ∷ 56 ∷ 50 ∷ 97 ∷ 52 ∷ 97 ∷ 99 ∷ 49 ∷ 56 ∷ 48 ∷ 10 ∷ 48 ∷ 10 ∷ 55 ∷ 10 ∷ 104 ∷ 105 ∷ 116 ∷ 115 ∷ 32 ∷ 50 ∷ 10 ∷ []

cases : List Case
cases =
    -- the paper's example
    record { input = example; output = example_lines }
    -- no input
    ∷ record { input = []; output = 114 ∷ 101 ∷ 102 ∷ 117 ∷ 115 ∷ 101 ∷ 100 ∷ 32 ∷ 49 ∷ 49 ∷ 32 ∷ 48 ∷ 10 ∷ [] }
    -- the pattern abc, no byte 10
    ∷ record { input = 97 ∷ 98 ∷ 99 ∷ []; output = 98 ∷ 101 ∷ 115 ∷ 116 ∷ 32 ∷ 50 ∷ 32 ∷ 115 ∷ 121 ∷ 109 ∷ 98 ∷ 111 ∷ 108 ∷ 115 ∷ 32 ∷ 48 ∷ 10 ∷ 104 ∷ 105 ∷ 116 ∷ 115 ∷ 32 ∷ 48 ∷ 10 ∷ [] }
    ∷ []

-- all that the cases compute with, named once
unfoldable pub computed : Unit {0}
unfolding paper.computed given_pattern given_text decimal_in decimal hex_from number_lines best_word symbols_word hits_word refused_word best_line hits_line refused_line lines_of report_of
computed = tt

worked : T (every cases)
unfolding every cases example example_lines same computed
worked = tt
