-- The pattern's symbols; and that searching by symbols finds the hits.
use Rattle.std.specs.Prelude.{◌≡◌, ◌≢◌, T, drop}
use Rattle.std.proofs.Common.{sym, ◌∙◌, arith, eq-eqb, ne_eqb}
use Rattle.std.proofs.Math.Path.{ap}
use mathlib.Core.List.{List, [], ◌∷◌}
use Prim.Native.Nat.{ℕ, ◌<◌}
use Rattle.std.proofs.Math.ListN.{length, length-map}
use Rattle.stopper.specs.Paper.Table.{good_code, characters, rank_in}
use Rattle.stopper.specs.Laws.Table.{length_place}
use Rattle.stopper.specs.declared.code.Code.{Code}
use Rattle.texts.specs.Paper.Characters.{first_foreign}
use Rattle.texts.specs.Paper.Hits.{stands, hits, good_pattern}
use Rattle.texts.specs.Helpers.Passing.{passing}
use Rattle.texts.specs.Laws.Characters.{foreign_within, foreign_known}
use Rattle.texts.specs.Laws.Hits.{foreign_hits}
use Rattle.texts.specs.Laws.Patterns.{pattern_least}
use Rattle.texts.specs.Laws.Finding.{passing_same, passing_all}
use Rattle.reading.specs.Paper.Reading.{row_upto, ranks_read}
use Rattle.sound.specs.Paper.Roll.{text_row, symbols_for, reading, text_of, Sound}
use Rattle.sound.specs.Helpers.Held.{Held}
use Rattle.sound.specs.Laws.Texts.{length_cons}
use Rattle.sound.specs.Laws.Sound.{sound_code}
use Rattle.sound.specs.Laws.Ends.{sound_end}
use Rattle.sound.specs.Laws.Holding.{sound_known, sound_ranked}
use Rattle.sound.specs.declared.records.Roll.{Roll}
use Rattle.find.specs.Helpers.Finding.{pattern_row, stands_at, stands_behind, word_hits}
use Rattle.find.specs.Laws.Hits.{stands_start, hit_rank}

-- ---- the pattern's symbols

module _ (c : Code) (l p : List ℕ) where
  pub pattern_known : first_foreign l p ≡ length p → pattern_row c l p ≡ text_row c l p
  unfolding pattern_row
  pattern_known e = rw (eq-eqb _ _ e)

  pub pattern_foreign : first_foreign l p < length p → pattern_row c l p ≡ []
  unfolding pattern_row
  pattern_foreign h = rw (ne_eqb (first_foreign l p) (length p) (λ e. omega arith))

-- none of them: a character is not in the table
module _ (c : Code) (g : T (good_code c)) (l p : List ℕ) (k : T (good_pattern p)) where
  pattern_some : 0 < length (text_row c l p)
  pattern_some = go p (pattern_least p k)
    where
      go : (p : List ℕ) → 0 < length p → 0 < length (text_row c l p)
      go [] h = absurd (omega arith)
      go (b ∷ p) h = omega (arith, length_cons c l b p, length_place c g (rank_in l b))

  pub none_foreign : length (pattern_row c l p) ≡ 0 → first_foreign l p < length p
  none_foreign e =
      let n : first_foreign l p ≢ length p = λ q. omega (arith, ap length (pattern_known c l p q), pattern_some) in
      omega (arith, foreign_within l p, n)

pub some_known : (c : Code) (l p : List ℕ) → length (pattern_row c l p) ≢ 0 → first_foreign l p ≡ length p
some_known c l p n =
    let h : first_foreign l p < length p → ⊥ = λ h. n (ap length (pattern_foreign c l p h)) in
    omega (arith, foreign_within l p, h)

-- where the first i codewords end codeword i starts
pub words_behind : {r : Roll} {buf : List ℕ} → Sound r buf → (symbols : List ℕ)
    → passing (stands_behind r.table.code buf r.h symbols) r.n ≡ word_hits r buf symbols
unfolding word_hits
words_behind {r} {buf} s symbols =
    passing_same r.n
    (λ i h. ap (λ (p : ℕ). stands symbols (drop p (row_upto r.table.code r.h buf))) (sound_end s i (omega arith)) ∙ sym (stands_start s symbols i))
    ∙ ap (passing (stands_at r.table.code (ranks_read (reading r buf)) symbols)) (sym s.count)

module _ {r : Roll} {buf : List ℕ} (held : Held r buf) (p : List ℕ) where
  pub word_hits_lem : first_foreign (characters r.table) p ≡ length p → word_hits r buf (symbols_for r.table p) ≡ hits p (text_of r buf)
  unfolding word_hits
  word_hits_lem e =
      let l : List ℕ = characters r.table in
      let t : List ℕ = text_of r buf in
      passing_same _ (λ i _. hit_rank held (foreign_known l p e) i)
      ∙ ap (passing (λ j. stands p (drop j t))) (ap length (sound_ranked held) ∙ length-map t (rank_in l))
      ∙ passing_all p t

  pub no_hits : first_foreign (characters r.table) p < length p → hits p (text_of r buf) ≡ []
  no_hits h = foreign_hits (characters r.table) p h (sound_known held)

  -- by the pattern's symbols: none of them, or the codewords at whose start they stand
  abbrev symbols : List ℕ
  symbols = pattern_row r.table.code (characters r.table) p

  pub row_none : T (good_pattern p) → length symbols ≡ 0 → hits p (text_of r buf) ≡ []
  row_none g e = no_hits (none_foreign r.table.code (sound_code held.sound) (characters r.table) p g e)

  pub row_hits : first_foreign (characters r.table) p ≡ length p → word_hits r buf symbols ≡ hits p (text_of r buf)
  row_hits k = ap (word_hits r buf) (pattern_known r.table.code (characters r.table) p k) ∙ word_hits_lem k
