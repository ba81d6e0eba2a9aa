-- The symbols of a piece followed as long as a codeword may still end well.
use Rattle.std.specs.Prelude.{◌≡◌, false, List, [], ◌++◌, ℕ, ◌+◌, ◌^◌, ◌≤◌, ◌<◌, T, length, take, drop}
use Rattle.ground.specs.Paper.Limit.{limit}
use Rattle.stopper.specs.Paper.Table.{good_table}
use Rattle.stopper.specs.Helpers.State.{Small}
use Rattle.stopper.specs.declared.code.Code.{Code}
use Rattle.stopper.specs.declared.reading.Reader.{Reader}
use Rattle.symbols.specs.Paper.Symbols.{symbols_of}
use Rattle.texts.specs.Paper.Hits.{good_pattern, most_pattern}
use Rattle.judge.specs.Paper.Judge.{progress, hears_all, ranks_heard}
use Rattle.judge.specs.Helpers.Steady.{Steady}
use Rattle.judge.specs.declared.records.Progress.{Progress}
use Rattle.stretches.specs.Helpers.Codewords.{characters_in, bad_at}
use Rattle.radio.specs.Paper.Matching.{whole_bit, matches_all, named}
use Rattle.radio.specs.Paper.Operations.{code_in, pattern_in}
use Rattle.radio.specs.declared.records.Searcher.{Searcher}
use Rattle.radio.specs.declared.feed.Followed.{Followed}

-- a searcher that is good and within its bounds, and has met no bad codeword
pub record Ready (s : Searcher) : Type 0 where
  pub table : T (good_table s.judge.roll.table)
  pub limited : s.judge.roll.h ≤ limit
  pub long : s.length ≤ most_pattern
  pub pattern : T (good_pattern (pattern_in s))
  pub steady : Steady s.judge.roll.h s.judge.progress
  pub past : s.judge.progress.past ≤ 1
  pub going : s.judge.progress.bad ≡ 0
  pub ended : s.ends < 2 ^ s.judge.progress.count
  pub ends : s.ends < whole_bit (pattern_in s)

-- a piece of `all` symbols, and an entry for each
pub record Follows (s : Searcher) (piece : List ℕ) (all : ℕ) (slice : List ℕ) : Type 0 where
  pub ready : Ready s
  pub symbols : all ≡ length (symbols_of (code_in s).k piece)
  pub room : all ≤ length slice

-- the symbols of a piece; and after symbols w from the searcher on: how far the roll is read, the characters whose codewords ended, the hits named
abbrev pub row : Searcher → List ℕ → List ℕ
row s piece = symbols_of (code_in s).k piece

abbrev pub heard_upto : Searcher → List ℕ → Progress
heard_upto s w = hears_all (code_in s) s.judge.roll.table.sigma s.judge.roll.h s.judge.progress w

abbrev pub characters_upto : Searcher → List ℕ → List ℕ
characters_upto s w = characters_in (code_in s) s.judge.roll.table.sigma s.judge.roll.table.places s.judge.roll.h s.judge.progress w

abbrev pub named_upto : Searcher → List ℕ → List ℕ
named_upto s w = named (pattern_in s) s.ends s.judge.progress.count (characters_upto s w)

-- followed up to symbol `at`; no codeword ends well behind it
pub record Went (s : Searcher) (piece slice : List ℕ) (r : Followed) (after : List ℕ) : Type 0 where
  pub at : r.at ≤ length (row s piece)
  pub progress : r.progress ≡ heard_upto s (take r.at (row s piece))
  pub ends : r.ends ≡ matches_all (pattern_in s) s.ends (characters_upto s (take r.at (row s piece)))
  pub hits : r.hits ≡ length (named_upto s (take r.at (row s piece)))
  pub leaves : after ≡ named_upto s (take r.at (row s piece)) ++ drop r.hits slice
  pub silent : ranks_heard (code_in s) s.judge.roll.table.sigma s.judge.roll.h r.progress (drop r.at (row s piece)) ≡ []

-- ---- on the way

abbrev pub followed_none : Progress → ℕ → Followed
followed_none p bits = record { progress = p; ends = bits; at = 0; hits = 0 }

-- i symbols of a row followed from the progress p and the beginnings `bits` on: no codeword was bad, and none has reached σ
pub record Along (c : Code) (σ : ℕ) (places : List ℕ) (h : ℕ) (p : Progress) (pattern : List ℕ) (bits : ℕ) (row slice after : List ℕ) (ends : ℕ) (r : Reader)
    (count first hits i : ℕ) : Type 0 where
  pub upto : p.read + i ≤ h
  pub inside : i ≤ length row
  pub going : r.past ≡ false
  pub small : Small r
  pub counted : count ≤ first
  pub started : first ≤ p.read + i
  pub heard : hears_all c σ h p (take i row) ≡ progress (p.read + i) count first r (bad_at h (p.read + i) first) p.stained
  pub few : length (characters_in c σ places h p (take i row)) ≤ i
  pub counts : count ≡ p.count + length (characters_in c σ places h p (take i row))
  pub matched : ends ≡ matches_all pattern bits (characters_in c σ places h p (take i row))
  pub listed : hits ≡ length (named pattern bits p.count (characters_in c σ places h p (take i row)))
  pub leaves : after ≡ named pattern bits p.count (characters_in c σ places h p (take i row)) ++ drop hits slice
  pub low : ends < whole_bit pattern
  pub ended : ends < 2 ^ count
