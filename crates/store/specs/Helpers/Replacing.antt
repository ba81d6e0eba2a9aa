-- A run of symbols replaced where it lies: what is asked for it, and what it leaves.
use Rattle.std.specs.Prelude.{◌≡◌, cond, ◌&&◌, List, ℕ, ◌+◌, ◌-◌, ◌*◌, ◌≤◌, T, eqb, length, take}
use Rattle.ground.specs.Helpers.Bound.{limit_bound}
use Rattle.ground.specs.Paper.Runs.{over, run, in_place}
use Rattle.ground.specs.Paper.Rows.{all_zero}
use Rattle.symbols.specs.Paper.Symbols.{per, bytes_for, room, symbols_of, bytes_of}
use Rattle.texts.specs.Paper.Directory.{entries, start_at}
use Rattle.sound.specs.Paper.Lengths.{lengths_of, Right}
use Rattle.sound.specs.Helpers.Held.{Held}
use Rattle.sound.specs.declared.records.Roll.{Roll}
use Rattle.store.specs.Helpers.Words.{row_of, Laid}
use Rattle.store.specs.Helpers.Measured.{Spelled}
use Rattle.store.specs.declared.replace.Run.{Run}

-- ---- what helpers do: the symbols up to symbol h, with others in place of those from p up to q

unfoldable pub replaced_row : ℕ → List ℕ → ℕ → ℕ → ℕ → List ℕ → List ℕ
replaced_row k buf h p q new = over (take h (symbols_of k buf)) p new q

-- packed in place of them, those others being a text's
abbrev pub replaced_bytes : ℕ → List ℕ → List ℕ → List ℕ → List ℕ → ℕ → Run → List ℕ
replaced_bytes k lengths words text buf h run = in_place (bytes_for k h) (bytes_of k (replaced_row k buf h run.first run.last (row_of lengths words text))) buf

-- what is asked for it: the text's symbols are `taken`, all is within the buffer (and the limit, which is at most 2 ^ 24), and the unused
-- symbols of the last byte are 0
pub record Replaces (k : ℕ) (lengths words text : List ℕ) (taken : ℕ) (buf : List ℕ) (h : ℕ) (x : Run) : Type 0 where
  pub laid : Laid k lengths words text buf x.first
  pub count : taken ≡ length (row_of lengths words text)
  pub ordered : x.first ≤ x.last
  pub inside : x.last ≤ h
  pub held : h ≤ length (symbols_of k buf)
  pub fits : x.first + taken + (h - x.last) ≤ length (symbols_of k buf)
  pub small : h ≤ limit_bound
  pub few : x.first + taken + (h - x.last) ≤ limit_bound
  pub clean : T (all_zero (run (symbols_of k buf) h (bytes_for k h * per k)))

-- up to which character entries change: with as many characters and symbols as before, those behind the run stay
unfoldable pub changed_upto : Run → ℕ → ℕ → ℕ → ℕ
changed_upto x long taken count = cond (eqb long (x.end - x.start) && eqb taken (x.last - x.first)) x.end count

-- a run of a sound roll with a right directory
pub record Located (r : Roll) (buf dir : List ℕ) (run : Run) : Type 0 where
  pub held : Held r buf
  pub right : Right r buf dir
  pub ordered : run.start ≤ run.end
  pub inside : run.end ≤ r.n
  pub from : run.first ≡ start_at (lengths_of r buf) run.start
  pub upto : run.last ≡ start_at (lengths_of r buf) run.end

-- and a text that may stand in its place
pub record Replaceable (r : Roll) (lengths words buf dir : List ℕ) (run : Run) (text : List ℕ) (taken : ℕ) : Type 0 where
  pub located : Located r buf dir run
  pub spelled : Spelled r.table lengths words text taken
  pub fits : run.first + taken + (r.h - run.last) ≤ room r.table.code.k (length buf)
  pub listed : entries (run.start + length text + (r.n - run.end)) ≤ length dir
