use Rattle.std.proofs.Common.{◌≡◌, ℕ, ◌+◌, ◌≤◌, List, length, drop}
use Rattle.stopper.specs.declared.code.Code.{Code}
use Rattle.texts.specs.Paper.Hits.{stands, listed}
use Rattle.texts.specs.Helpers.Passing.{passing}
use Rattle.reading.specs.Paper.Reading.{row_upto}
use Rattle.sound.specs.Helpers.Ends.{end_from}
use Rattle.find.specs.Helpers.Finding.{stands_behind}
use Rattle.find.proofs.finding.list_hits.Given as goal

-- the numbers below i of codewords at whose start the symbols stand
abbrev pub found : Code → List ℕ → ℕ → List ℕ → ℕ → List ℕ
found code buf h symbols i = passing (stands_behind code buf h symbols) i

-- codeword i starts at symbol p, and the hits before it are counted and listed
pub record Before (code : Code) (buf : List ℕ) (h : ℕ) (symbols old : List ℕ) (i p total : ℕ) (slice : List ℕ) : Type 0 where
  pub starts : p ≡ end_from code buf 0 i
  pub few : total ≤ i
  pub count : total ≡ length (found code buf h symbols i)
  pub list : slice ≡ listed (found code buf h symbols i) old

abbrev pub invariant-loop-i : goal.invariant-loop-i
invariant-loop-i l = Before l.code l.sound.buf.now l.h l.symbols l.initial.slice l.i l.p l.total l.slice

-- the symbols below j stand there, so all do exactly if the rest do
abbrev pub invariant-loop-j : goal.invariant-loop-j
invariant-loop-j l =
    (l.p + l.j ≤ l.h) × (stands l.symbols (drop l.p (row_upto l.code l.h l.sound.buf.now)) ≡ stands (drop l.j l.symbols) (drop (l.p + l.j) (row_upto l.code l.h l.sound.buf.now)))
