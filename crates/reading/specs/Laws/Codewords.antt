-- The laws of codewords where they lie.
use Rattle.std.specs.Prelude.{◌≡◌, T, drop, Option, Some, None, Result, Ok, Err}
use Rattle.std.proofs.Math.Path.{refl, sym, ap, subst}
use Rattle.std.proofs.Common.{◌∙◌, lt_of_not-le, drop_of_length-le, get_or-drop}
use mathlib.Core.List.{List, []}
use Prim.Native.Nat.{ℕ, zero, suc, ◌+◌, ◌≤◌, ◌<◌}
use Rattle.std.proofs.Math.Nat.{add-zero}
use Rattle.std.proofs.Math.Decide.{dec_le}
use native.Mathlib.Omega.{arith}
use Rattle.std.proofs.Math.ListN.{length, get_or, length-drop}
use Rattle.std.proofs.Math.Seq.{drop-drop}
use Rattle.stopper.specs.Paper.Table.{base, stoppers, good_code}
use Rattle.stopper.specs.Paper.Reading.{Fault, bad, ahead, read_from}
use Rattle.stopper.specs.Helpers.First.{First, whole, broken, first_word}
use Rattle.stopper.specs.Laws.Table.{code_good}
use Rattle.stopper.specs.Laws.Reading.{first_whole, first_broken}
use Rattle.stopper.specs.declared.code.Code.{Code}
use Rattle.reading.specs.Paper.Reading.{row_reading, ranks_read, first_bad}
use Rattle.reading.specs.Helpers.Codewords.{Reads, found_in, found_at, pass_step, passed_from}
use Rattle.reading.specs.Laws.Reading.{ranks_ahead, bad_ahead}
use Rattle.reading.specs.declared.packed.Packed.{Packed}
use Rattle.reading.specs.declared.codewords.Word.{Word}
use Rattle.reading.specs.declared.codewords.BadWord.{BadWord}

-- what is read may be read from any of its symbols on
pub packed_reads : (s : Packed) (p : ℕ) → p ≤ s.h → Reads s.ranks.good.code s.ranks.sigma s.buf.now s.h p
packed_reads s p l = record { good = s.ranks.good.good; few = s.ranks.few; held = s.held; small = s.small; upto = l }

-- ---- a codeword found, or none

found_in_lem : (p : ℕ) (f : First) {w : Word} → Some w ≡ found_in p f → (n : ℕ) × (f ≡ whole w.rank n) × (w.next ≡ p + n)
unfolding found_in
found_in_lem p (whole r n) {w} e = let q : w ≡ record { rank = r; next = p + n } = cc in (n, ap (λ (x : Word). whole x.rank n) (sym q), ap (λ (x : Word). x.next) q)
found_in_lem p (broken f) e = let z : ◌≡◌ {A = ℕ} 0 1 = cc in absurd (omega arith)

none_in : (p : ℕ) (f : First) → None ≡ found_in p f → (e : Fault) × (f ≡ broken e)
unfolding found_in
none_in p (whole r n) e = let z : ◌≡◌ {A = ℕ} 0 1 = cc in absurd (omega arith)
none_in p (broken f) e = (f, refl)

-- a codeword of rank k from symbol p up to symbol q, and what reading from there on gives
pub record Stands (c : Code) (σ : ℕ) (row : List ℕ) (k p q : ℕ) : Type 0 where
  pub rank : k < σ
  pub some : p < q
  pub upto : q ≤ length row
  pub reads : row_reading c σ row p ≡ ahead k (row_reading c σ row q)

module _ (c : Code) (σ : ℕ) (row : List ℕ) (p : ℕ) where
  pub word_found : {k n : ℕ} → first_word (base c) (stoppers c) σ (drop p row) ≡ whole k n → Some (record { rank = k; next = p + n }) ≡ found_at c σ row p
  unfolding found_at found_in
  word_found e = rw e

  pub none_found : {f : Fault} → first_word (base c) (stoppers c) σ (drop p row) ≡ broken f → None ≡ found_at c σ row p
  unfolding found_at found_in
  none_found e = rw e

module _ (c : Code) (g : T (good_code c)) (σ : ℕ) (row : List ℕ) where
  pub found_word : {word : Word} {p : ℕ} → Some word ≡ found_at c σ row p → p ≤ length row → Stands c σ row word.rank p word.next
  unfolding found_at
  found_word {word} {p} e h =
      let f = found_in_lem p (first_word (base c) (stoppers c) σ (drop p row)) e in
      let w = first_whole (base c) (stoppers c) (code_good c g) σ p (drop p row) f.1 in
      let n = f.0 in
      rw f.2
      (record { rank = w.0; some = omega (arith, w.1); upto = omega (arith, w.2, length-drop p row); reads = rw drop-drop at w.3 })

  pub found_bad : {p : ℕ} → None ≡ found_at c σ row p → p < length row → (f : Fault) × (row_reading c σ row p ≡ bad f p [])
  unfolding found_at
  found_bad {p} e h =
      let (f, b) = none_in p (first_word (base c) (stoppers c) σ (drop p row)) e in
      (f, first_broken (base c) (stoppers c) (code_good c g) σ p (drop p row) b (omega (arith, length-drop p row)))

  -- ---- codewords passed over

  -- after `count` codewords from symbol p on, a reading is over: no more ranks, and a bad codeword at symbol q or the row's end there
  abbrev Over : ℕ → ℕ → ℕ → Type 0
  Over p count q = (drop count (ranks_read (row_reading c σ row p)) ≡ []) × (first_bad (length row) (row_reading c σ row p) ≡ q)

  found_over : {p : ℕ} → None ≡ found_at c σ row p → p ≤ length row → Over p 0 p
  unfolding read_from ranks_read first_bad
  found_over {p} e h =
      elim (dec_le (length row) p) [
        | yes k ↦ let n : length row ≡ p = omega arith in rw (drop_of_length-le row k) (refl, n)
        | no k ↦ let (f, b) = found_bad e (lt_of_not-le k) in rw b (refl, refl)
      ]

  -- or it goes on at symbol q
  unfoldable Went : ℕ → ℕ → Result ℕ BadWord → Type 0
  Went p count (Ok q) =
      (q ≤ length row) × (drop count (ranks_read (row_reading c σ row p)) ≡ ranks_read (row_reading c σ row q))
      × (first_bad (length row) (row_reading c σ row p) ≡ first_bad (length row) (row_reading c σ row q))
  Went p count (Err b) = Over p count b.first

  went_ahead : {k p q : ℕ} (count : ℕ) (v : Result ℕ BadWord) → Stands c σ row k p q → Went q count v → Went p (suc count) v
  unfolding Went
  went_ahead {k} count (Ok n) s (u, a, b) = (u, rw (s.reads, ranks_ahead k _) a, rw s.reads (bad_ahead (length row) k _ ∙ b))
  went_ahead {k} count (Err n) s (a, b) = (rw (s.reads, ranks_ahead k _) a, rw s.reads (bad_ahead (length row) k _ ∙ b))

  went : (p count : ℕ) → p ≤ length row → Went p count (passed_from c σ row p count)
  unfolding passed_from Went
  went p zero h = (h, refl, refl)
  went p (suc count) h = go (found_at c σ row p) refl (λ next. went next count)
    where
      go : (f : Option Word) → f ≡ found_at c σ row p → ((next : ℕ) → next ≤ length row → Went next count (passed_from c σ row next count))
          → Went p (suc count) (pass_step (λ next. passed_from c σ row next count) p f)
      go (Some word) w later = let s = found_word w h in went_ahead count (passed_from c σ row word.next count) s (later word.next s.upto)
      go None w later = let (a, b) = found_over w h in (rw a, b)

  module _ (p count : ℕ) (h : p ≤ length row) where
    pub passed_over : {b : BadWord} → Err b ≡ passed_from c σ row p count → Over p count b.first
    unfolding Went
    passed_over e = subst (Went p count) (sym e) (went p count h)

    module _ {q : ℕ} (e : Ok q ≡ passed_from c σ row p count) where
      passed_at : Went p count (Ok q)
      passed_at = subst (Went p count) (sym e) (went p count h)

      pub passed_upto : q ≤ length row
      unfolding Went
      passed_upto = passed_at.0

      pub passed_none : None ≡ found_at c σ row q → Over p count q
      unfolding Went
      passed_none f = let (u, a, b) = passed_at in let (x, y) = found_over f u in (a ∙ x, b ∙ y)

      pub passed_word : {word : Word} → Some word ≡ found_at c σ row q → (count < length (ranks_read (row_reading c σ row p))) × (get_or (ranks_read (row_reading c σ row p)) count 0 ≡ word.rank)
      unfolding Went
      passed_word {word} f =
          let (u, a, b) = passed_at in
          let rs = ranks_read (row_reading c σ row p) in
          let r = a ∙ ap ranks_read (found_word f u).reads ∙ ranks_ahead word.rank _ in
          (omega (arith, sym (length-drop count rs) ∙ ap length r), rw add-zero at (sym (get_or-drop count rs 0 0)) ∙ ap (λ (l : List ℕ). get_or l 0 0) r)
