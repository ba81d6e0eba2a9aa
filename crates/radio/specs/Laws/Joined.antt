-- A searcher after one piece and then another is as after both joined, and so are the hits.
use Rattle.std.specs.Prelude.{◌≡◌, ◌≢◌, T}
use Rattle.std.proofs.Math.Path.{refl, ap, ap₂}
use Rattle.std.proofs.Common.{sym, ◌∙◌}
use mathlib.Core.List.{List, [], ◌++◌, map, map-append}
use Prim.Native.Nat.{ℕ, ◌+◌, ◌<◌}
use Rattle.std.proofs.Math.ListN.{length, get_or}
use Rattle.std.proofs.lemmas.List.{length-map}
use Rattle.ground.specs.Laws.Rows.{take_padded}
use Rattle.stopper.specs.Paper.Table.{good_code}
use Rattle.stopper.specs.Laws.Table.{code_width}
use Rattle.symbols.specs.Paper.Symbols.{symbols_of}
use Rattle.symbols.specs.Laws.Rows.{symbols_none, symbols_append}
use Rattle.texts.specs.Paper.Hits.{hits, most_pattern}
use Rattle.reading.specs.Paper.Reading.{ranks_read}
use Rattle.sound.specs.Paper.Roll.{reading, text_of}
use Rattle.sound.specs.declared.records.Roll.{Roll}
use Rattle.judge.specs.Paper.Judge.{hears_all, ranks_heard, judge_after}
use Rattle.radio.specs.Paper.Matching.{matches_all, named}
use Rattle.radio.specs.Paper.Operations.{searcher_for, pattern_in, code_in, characters_heard, searcher_after, hits_named}
use Rattle.judge.specs.Laws.Judge.{ranks_append, bad_all, bad_silent, count_all}
use Rattle.radio.specs.Laws.Matching.{matches_append, named_append}
use Rattle.radio.specs.Laws.Named.{named_hits}
use Rattle.judge.specs.Laws.Judged.{judge_append, judge_ranks}
use Rattle.judge.specs.declared.records.Judge.{Judge}
use Rattle.radio.specs.declared.records.Searcher.{Searcher}

module _ (s : Searcher) where
  abbrev σ : ℕ
  σ = s.judge.roll.table.sigma

  abbrev h : ℕ
  h = s.judge.roll.h

  abbrev row : List ℕ → List ℕ
  row piece = symbols_of (code_in s).k piece

  pub after_roll : (piece : List ℕ) → (searcher_after s piece).judge.roll ≡ s.judge.roll
  unfolding searcher_after judge_after
  after_roll piece = refl

  -- the codewords read are those of the characters
  pub after_count : (piece : List ℕ) → (searcher_after s piece).judge.progress.count ≡ s.judge.progress.count + length (characters_heard s piece)
  unfolding searcher_after judge_after characters_heard
  after_count piece = count_all (code_in s) σ h s.judge.progress (row piece) ∙ ap (λ (n : ℕ). s.judge.progress.count + n) (sym (length-map (ranks_heard (code_in s) σ h s.judge.progress (row piece)) (λ rank. get_or s.judge.roll.table.places rank 0)))

  -- ---- an empty piece

  characters_none : characters_heard s [] ≡ []
  unfolding characters_heard ranks_heard
  characters_none = rw symbols_none

  pub after_none : searcher_after s [] ≡ s
  unfolding searcher_after judge_after hears_all matches_all
  after_none = rw (characters_none, symbols_none)

  pub hits_none : hits_named s [] ≡ []
  unfolding hits_named named
  hits_none = rw characters_none

  -- ---- behind a bad codeword

  module _ (piece : List ℕ) (b : s.judge.progress.bad ≢ 0) where
    characters_bad : characters_heard s piece ≡ []
    unfolding characters_heard
    characters_bad = rw (bad_silent (code_in s) σ h s.judge.progress (row piece) b)

    pub after_bad : searcher_after s piece ≡ s
    unfolding searcher_after judge_after matches_all
    after_bad = rw (characters_bad, bad_all (code_in s) σ h s.judge.progress (row piece) b)

    pub hits_bad : hits_named s piece ≡ []
    unfolding hits_named named
    hits_bad = rw characters_bad

  -- ---- two pieces

  module _ (g : T (good_code (code_in s))) (a b : List ℕ) where
    characters_append : characters_heard s (a ++ b) ≡ characters_heard s a ++ characters_heard (searcher_after s a) b
    unfolding characters_heard searcher_after judge_after
    characters_append =
        rw (symbols_append (code_width (code_in s) g) a b, ranks_append (code_in s) σ h s.judge.progress (row a) (row b), map-append)

    pub after_append : searcher_after s (a ++ b) ≡ searcher_after (searcher_after s a) b
    unfolding searcher_after
    after_append =
        ap₂ (λ (j : Judge) (e : ℕ). record { judge = j; pattern = s.pattern; length = s.length; ends = e }) (judge_append s.judge g a b)
        (ap (matches_all (pattern_in s) s.ends) characters_append ∙ matches_append (pattern_in s) s.ends (characters_heard s a) (characters_heard (searcher_after s a) b))

    pub hits_append : hits_named s (a ++ b) ≡ hits_named s a ++ hits_named (searcher_after s a) b
    unfolding hits_named searcher_after
    hits_append =
        let p : List ℕ = pattern_in s in
        let m : ℕ = s.judge.progress.count in
        let x : List ℕ = characters_heard s a in
        let y : List ℕ = characters_heard (searcher_after s a) b in
        ap (named p s.ends m) characters_append ∙ named_append p s.ends m x y
        ∙ ap (λ (n : ℕ). named p s.ends m x ++ named p (matches_all p s.ends x) n y) (sym (after_count a))

-- ---- from the first byte on: the hits are those in the text read so far

pub hits_so_far : (r : Roll) (pattern : List ℕ) → T (good_code r.table.code) → 0 < length pattern → (bytes : List ℕ)
    → hits_named (searcher_for r pattern) bytes ≡ hits pattern (text_of r bytes)
unfolding hits_named characters_heard text_of
hits_so_far r pattern g some bytes =
    rw (take_padded most_pattern pattern, judge_ranks r g bytes) (named_hits pattern (map (λ rank. get_or r.table.places rank 0) (ranks_read (reading r bytes))) some)
