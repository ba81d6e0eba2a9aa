-- What reading asks of a buffer, and what it answers.
use Rattle.std.specs.Prelude.{◌≡◌, List, ℕ, zero, suc, ◌+◌, ◌≤◌, T, length, drop, Option, Some, None, Result, Ok, Err}
use Rattle.ground.specs.Helpers.Bound.{limit_bound}
use Rattle.stopper.specs.Paper.Table.{base, stoppers, good_code}
use Rattle.stopper.specs.Paper.Reading.{Reading, done, bad}
use Rattle.stopper.specs.Helpers.First.{First, whole, broken, first_word}
use Rattle.stopper.specs.declared.code.Code.{Code}
use Rattle.symbols.specs.Paper.Symbols.{symbols_of}
use Rattle.ground.specs.declared.refusal.Refusal.{Refusal}
use Rattle.ground.specs.declared.refusal.Refusal.TheVariants.{BadCodeword}
use Rattle.reading.specs.Paper.Reading.{row_upto}
use Rattle.reading.specs.declared.packed.Packed.{Packed}
use Rattle.reading.specs.declared.codewords.Word.{Word}
use Rattle.reading.specs.declared.codewords.BadWord.{BadWord}

-- a place up to symbol h of a buffer that holds so many (the limit is at most 2 ^ 24, so h is)
pub record Reads (c : Code) (σ : ℕ) (buf : List ℕ) (h p : ℕ) : Type 0 where
  pub good : T (good_code c)
  pub few : σ ≤ 256
  pub held : h ≤ length (symbols_of c.k buf)
  pub small : h ≤ limit_bound
  pub upto : p ≤ h

-- the code does not say why a codeword is bad: it stops once σ is reached, before it can know
unfoldable pub found_in : ℕ → First → Option Word
found_in p (whole rank n) = Some (record { rank = rank; next = p + n })
found_in p (broken f) = None

-- the symbols that are read
abbrev pub row_of : Packed → List ℕ
row_of s = row_upto s.ranks.good.code s.h s.buf.now

-- the codeword that starts at symbol p of a row
unfoldable pub found_at : Code → ℕ → List ℕ → ℕ → Option Word
found_at c σ row p = found_in p (first_word (base c) (stoppers c) σ (drop p row))

-- after `count` codewords from symbol p on
abbrev pub pass_step : (ℕ → Result ℕ BadWord) → ℕ → Option Word → Result ℕ BadWord
pass_step later p (Some word) = later word.next
pass_step later p None = Err (record { first = p })

unfoldable pub passed_from : Code → ℕ → List ℕ → ℕ → ℕ → Result ℕ BadWord
passed_from c σ row p zero = Ok p
passed_from c σ row p (suc count) = pass_step (λ next. passed_from c σ row next count) p (found_at c σ row p)

-- how many codewords were read, or where the first bad one begins
unfoldable pub scanned : Reading → Result ℕ BadWord
scanned (done rs) = Ok (length rs)
scanned (bad f p rs) = Err (record { first = p })

-- the refusal that a bad codeword is
abbrev pub refused_at : BadWord → Refusal → Type 0
refused_at b e = e ≡ BadCodeword b.first
