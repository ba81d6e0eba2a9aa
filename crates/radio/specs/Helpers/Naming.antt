-- Hits named among characters.
use Rattle.std.specs.Prelude.{◌≡◌, List, ℕ, ◌+◌, ◌^◌, ◌≤◌, ◌<◌, length}
use Rattle.ground.specs.Paper.Runs.{over}
use Rattle.radio.specs.Paper.Matching.{matches_all, named}
use Rattle.radio.specs.declared.matching.Named.{Named}

-- a text behind `count` characters, what was named before it, no beginning then being the whole pattern, and an entry for each character behind the hits so far
pub record Names (whole : ℕ) (text : List ℕ) (count : ℕ) (before : Named) (slice : List ℕ) : Type 0 where
  pub low : before.ends < whole
  pub ended : before.ends < 2 ^ count
  pub fits : count + length text < 2 ^ 32
  pub room : before.hits + length text ≤ length slice

pub record NamedIn (pattern text : List ℕ) (count bits : ℕ) (slice : List ℕ) (from : ℕ) (r : Named) (after : List ℕ) : Type 0 where
  pub ends : r.ends ≡ matches_all pattern bits text
  pub hits : r.hits ≡ from + length (named pattern bits count text)
  pub leaves : after ≡ over slice from (named pattern bits count text) r.hits
