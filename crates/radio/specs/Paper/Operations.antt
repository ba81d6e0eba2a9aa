-- The three operations of a roll that comes in: start, feed, finish. The refusals of each, and its promise.
use Rattle.std.specs.Prelude.{◌≡◌, Bool, not, ◌&&◌, List, [], ◌∷◌, ◌++◌, map, ℕ, ◌+◌, ◌*◌, ◌^◌, ltb, leb, eqb, length, take, drop, get_or, Result}
use Rattle.ground.specs.Paper.Limit.{limit}
use Rattle.ground.specs.Paper.Refusals.{Row, refuse, Outcome, accepted, judged, ◌then◌, kept}
use Rattle.ground.specs.Paper.Answers.{outcome_of}
use Rattle.ground.specs.Paper.Rows.{padded}
use Rattle.ground.specs.declared.refusal.Refusal.{Refusal}
use Rattle.stopper.specs.Paper.Table.{good_table}
use Rattle.stopper.specs.declared.code.Code.{Code}
use Rattle.symbols.specs.Paper.Symbols.{per, bytes_for, symbols_of}
use Rattle.texts.specs.Paper.Hits.{good_pattern, most_pattern}
use Rattle.sound.specs.declared.records.Roll.{Roll}
use Rattle.judge.specs.Paper.Judge.{judge_for, judge_after, judge_bounds, ranks_heard, verdict_says}
use Rattle.radio.specs.Paper.Matching.{whole_bit, matches_all, named}
use Rattle.judge.specs.declared.records.Progress.{Progress}
use Rattle.radio.specs.declared.records.Searcher.{Searcher}
use Rattle.radio.specs.declared.feed.Fed.{Fed}

-- ---- start: 1, 5 (h over the limit), 11

abbrev pub start_rows : Roll → List ℕ → List Row
start_rows r pattern =
    refuse 1 0 (not (good_table r.table))
    ∷ refuse 5 r.h (ltb limit r.h)
    ∷ refuse 11 0 (not (good_pattern pattern))
    ∷ []

unfoldable pub start_says : Roll → List ℕ → Outcome (Unit {0})
start_says r pattern = judged (start_rows r pattern) tt

-- the searcher of a roll before its first byte, for a pattern
abbrev pub searcher_for : Roll → List ℕ → Searcher
searcher_for r pattern = record { judge = judge_for r; pattern = padded most_pattern pattern; length = length pattern; ends = 0 }

-- where a searcher stands beside a refusal: one with an empty pattern, which is refused in its turn
abbrev pub start_searcher : Roll → List ℕ → Searcher
start_searcher r pattern = kept (start_says r pattern) (searcher_for r []) (searcher_for r pattern)

pub record Starting (r : Roll) (pattern : List ℕ) (s : Result Searcher Refusal) : Type 0 where
  pub says : outcome_of s ≡ (start_says r pattern then accepted (start_searcher r pattern))

-- ---- any searcher: what start asks, 1, 5, 11; and 1 if its reading state, its counts or its beginnings are out of their bounds

abbrev pub pattern_in : Searcher → List ℕ
pattern_in s = take s.length s.pattern

-- a beginning that ended has no more characters than were read, and is not the whole pattern
unfoldable pub in_bounds : Searcher → Bool
in_bounds s = judge_bounds s.judge && (ltb s.ends (2 ^ s.judge.progress.count) && ltb s.ends (whole_bit (pattern_in s)))

abbrev pub kept_rows : Searcher → List Row
kept_rows s =
    let r : Roll = s.judge.roll in
    refuse 1 0 (not (good_table r.table))
    ∷ refuse 5 r.h (ltb limit r.h)
    ∷ refuse 11 0 (not (leb s.length most_pattern && good_pattern (pattern_in s)))
    ∷ refuse 1 0 (not (in_bounds s))
    ∷ []

unfoldable pub kept_says : Searcher → Outcome (Unit {0})
kept_says s = judged (kept_rows s) tt

-- ---- feed: those, an earlier 6, 5, 14; only then is the piece read. At a bad codeword 6, and the hits before it are written

abbrev pub code_in : Searcher → Code
code_in s = s.judge.roll.table.code

abbrev pub feed_rows : Searcher → List ℕ → List ℕ → List Row
feed_rows s piece slice =
    let p : Progress = s.judge.progress in
    let k : ℕ = (code_in s).k in
    let h : ℕ = s.judge.roll.h in
    refuse 6 p.first (not (eqb p.bad 0))
    ∷ refuse 5 h (ltb (bytes_for k h) (bytes_for k p.read + length piece))
    ∷ refuse 14 (length piece * per k) (ltb (length slice) (length piece * per k))
    ∷ []

-- whether the piece is read
unfoldable pub feed_reads : Searcher → List ℕ → List ℕ → Outcome (Unit {0})
feed_reads s piece slice = kept_says s then judged (feed_rows s piece slice) tt

-- the characters whose codewords end in a piece
unfoldable pub characters_heard : Searcher → List ℕ → List ℕ
characters_heard s piece =
    let r : Roll = s.judge.roll in
    map (λ rank. get_or r.table.places rank 0) (ranks_heard (code_in s) r.table.sigma r.h s.judge.progress (symbols_of (code_in s).k piece))

-- the searcher after a piece that was read, and the hits that it names
unfoldable pub searcher_after : Searcher → List ℕ → Searcher
searcher_after s piece =
    record { judge = judge_after s.judge piece; pattern = s.pattern; length = s.length; ends = matches_all (pattern_in s) s.ends (characters_heard s piece) }

unfoldable pub hits_named : Searcher → List ℕ → List ℕ
hits_named s piece = named (pattern_in s) s.ends s.judge.progress.count (characters_heard s piece)

-- a bad codeword in it
abbrev pub bad_rows : Searcher → List Row
bad_rows s = refuse 6 s.judge.progress.first (not (eqb s.judge.progress.bad 0)) ∷ []

unfoldable pub feed_says : Searcher → List ℕ → List ℕ → Outcome (Unit {0})
feed_says s piece slice = feed_reads s piece slice then judged (bad_rows (searcher_after s piece)) tt

abbrev pub feed_searcher : Searcher → List ℕ → List ℕ → Searcher
feed_searcher s piece slice = kept (feed_reads s piece slice) s (searcher_after s piece)

abbrev pub feed_hits : Searcher → List ℕ → List ℕ → List ℕ
feed_hits s piece slice = kept (feed_reads s piece slice) [] (hits_named s piece)

-- the hits, and later entries unchanged
abbrev pub feed_leaves : Searcher → List ℕ → List ℕ → List ℕ
feed_leaves s piece slice = feed_hits s piece slice ++ drop (length (feed_hits s piece slice)) slice

pub record Feeding (s : Searcher) (piece slice : List ℕ) (r : Fed) (after : List ℕ) : Type 0 where
  pub says : outcome_of r.answer ≡ feed_says s piece slice
  pub hits : r.hits ≡ length (feed_hits s piece slice)
  pub searcher : r.searcher ≡ feed_searcher s piece slice
  pub leaves : after ≡ feed_leaves s piece slice

-- ---- finish: those, 6, 7, 8

unfoldable pub finish_says : Searcher → Outcome (Unit {0})
finish_says s = kept_says s then verdict_says s.judge

pub record Finishing (s : Searcher) (answer : Result (Unit {0}) Refusal) : Type 0 where
  pub says : outcome_of answer ≡ finish_says s
