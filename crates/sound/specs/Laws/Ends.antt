-- Where codewords end, by their stoppers alone: symbol by symbol, over codewords, and in a sound roll.
use Rattle.std.specs.Prelude.{◌≡◌, ltb, take, get_or}
use Rattle.std.proofs.Math.Path.{refl, sym, ap}
use Rattle.std.proofs.Common.{◌∙◌, zero-add, le_of_suc-le-suc, add-one, arith, length-append, length-drop, take-append-drop, drop_of_length-le, drop-cons}
use mathlib.Core.List.{List, [], ◌∷◌, ◌++◌, append_assoc}
use Prim.Native.Nat.{ℕ, zero, suc, ◌+◌, ◌≤◌, ◌<◌, zero-le}
use Rattle.std.proofs.Math.Decide.{dec_lt}
use Rattle.std.proofs.Math.Facts.{yes_ltb, no_ltb}
use Rattle.std.proofs.Math.ListN.{length, drop}
use Rattle.std.proofs.Math.Seq.{drop-append-le, take-add}
use Rattle.ground.specs.Laws.Tests.{cond_yes, cond_no}
use Rattle.stopper.specs.Paper.Code.{Good, IsCodeword, stop, more, codeword}
use Rattle.stopper.specs.Paper.Table.{base, stoppers}
use Rattle.stopper.specs.Paper.Reading.{write}
use Rattle.stopper.proofs.Laws.Code.{codeword_word}
use Rattle.stopper.specs.Laws.Table.{code_good}
use Rattle.stopper.specs.Laws.Reading.{write_append}
use Rattle.symbols.specs.Paper.Symbols.{symbols_of}
use Rattle.texts.specs.Paper.Directory.{sum, start_at}
use Rattle.reading.specs.Paper.Reading.{ranks_read}
use Rattle.sound.specs.Paper.Roll.{reading, Sound}
use Rattle.sound.specs.Paper.Lengths.{lengths_of}
use Rattle.sound.specs.Helpers.Ends.{stops, end_of, symbols_from, Ending, end_from}
use Rattle.sound.specs.Laws.Starts.{start_at_lem, start_upto, drop_start}
use Rattle.sound.specs.Laws.Sound.{sound_code, sound_reads, sound_row, sound_start}
use Rattle.sound.specs.declared.records.Roll.{Roll}

-- ---- a symbol: a stopper, or a continuer

module _ (s : ℕ → ℕ) (i y : ℕ) (ys : List ℕ) where
  pub stops_stop : y < s i → stops s i (y ∷ ys) ≡ suc (stops s 0 ys)
  unfolding stops
  stops_stop h = cond_yes (ltb y (s i)) _ _ (yes_ltb h)

  pub stops_more : s i ≤ y → stops s i (y ∷ ys) ≡ stops s (suc i) ys
  unfolding stops
  stops_more h = cond_no (ltb y (s i)) _ _ (no_ltb h)

  pub end_stop : (n : ℕ) → y < s i → end_of s (suc n) i (y ∷ ys) ≡ suc (end_of s n 0 ys)
  unfolding end_of
  end_stop n h = cond_yes (ltb y (s i)) _ _ (yes_ltb h)

  pub end_more : (n : ℕ) → s i ≤ y → end_of s (suc n) i (y ∷ ys) ≡ suc (end_of s (suc n) (suc i) ys)
  unfolding end_of
  end_more n h = cond_no (ltb y (s i)) _ _ (no_ltb h)

-- ---- from symbol q of a row on, where a codeword ends still

module _ (s : ℕ → ℕ) (i : ℕ) (row : List ℕ) (q : ℕ) (h : 0 < stops s i (drop q row)) where
  pub stops_inside : q < length row
  unfolding stops
  stops_inside =
      elim (dec_lt q (length row)) [
        | yes a ↦ a
        | no a ↦ let e : stops s i (drop q row) ≡ 0 = ap (stops s i) (drop_of_length-le row {i = q} (omega arith)) in absurd (omega arith)
      ]

  -- symbol q is a continuer
  pub goes_on_lem : s i ≤ get_or row q 0 → (0 < stops s (suc i) (drop (q + 1) row)) × (end_of s 1 i (drop q row) ≡ suc (end_of s 1 (suc i) (drop (q + 1) row)))
  goes_on_lem a =
      let e = drop-cons row q 0 stops_inside in
      rw add-one
      (omega (arith, ap (stops s i) e ∙ stops_more s i (get_or row q 0) (drop (suc q) row) a), ap (end_of s 1 i) e ∙ end_more s i (get_or row q 0) (drop (suc q) row) 0 a)

  -- symbol q is a stopper
  pub ends_here : get_or row q 0 < s i → end_of s 1 i (drop q row) ≡ 1
  unfolding end_of
  ends_here a = ap (end_of s 1 i) (drop-cons row q 0 stops_inside) ∙ end_stop s i (get_or row q 0) (drop (suc q) row) 0 a

-- ---- a codeword

module _ (m : ℕ) (s : ℕ → ℕ) (rest : List ℕ) where
  pub word_stops : {i : ℕ} {w : List ℕ} → IsCodeword m s i w → stops s i (w ++ rest) ≡ suc (stops s 0 rest)
  word_stops {i = i} (stop {y = y} h) = stops_stop s i y rest h
  word_stops {i = i} (more {y = y} {w = w} a b h) = stops_more s i y (w ++ rest) a ∙ word_stops h

  pub word_end : {i : ℕ} {w : List ℕ} → IsCodeword m s i w → (n : ℕ) → end_of s (suc n) i (w ++ rest) ≡ length w + end_of s n 0 rest
  word_end {i = i} (stop {y = y} h) n = end_stop s i y rest n h ∙ omega arith
  word_end {i = i} (more {y = y} {w = w} a b h) n = end_more s i y (w ++ rest) n a ∙ omega (arith, word_end h n)

-- ---- the codewords of ranks

module _ (m : ℕ) (s : ℕ → ℕ) (g : Good m s) (rest : List ℕ) where
  -- as many end as there are ranks
  pub write_count : (rs : List ℕ) → stops s 0 (write m s rs ++ rest) ≡ length rs + stops s 0 rest
  unfolding write
  write_count [] = sym (zero-add (stops s 0 rest))
  write_count (r ∷ rs) =
      rw (append_assoc (codeword m s r) (write m s rs) rest, word_stops m s (write m s rs ++ rest) (codeword_word m s g r)) (omega (arith, write_count rs))

  pub write_stops : (rs : List ℕ) (n : ℕ) → n ≤ length rs → n ≤ stops s 0 (write m s rs ++ rest)
  write_stops rs n h = omega (arith, write_count rs)

  pub write_end : (rs : List ℕ) (n : ℕ) → n ≤ length rs → end_of s n 0 (write m s rs ++ rest) ≡ length (write m s (take n rs))
  unfolding write end_of
  write_end rs zero h = refl
  write_end [] (suc n) h = absurd (omega arith)
  write_end (r ∷ rs) (suc n) h =
      rw (append_assoc (codeword m s r) (write m s rs) rest, length-append)
      (word_end m s (write m s rs ++ rest) (codeword_word m s g r) n
      ∙ ap (λ (l : ℕ). length (codeword m s r) + l) (write_end rs n (le_of_suc-le-suc h)))

-- ---- a sound roll

abbrev ranks : Roll → List ℕ → List ℕ
ranks r buf = ranks_read (reading r buf)

module _ {r : Roll} {buf : List ℕ} (s : Sound r buf) where
  -- the symbols of the buffer from codeword j on: the codewords from there on, and what lies behind symbol h
  sound_from : (j : ℕ) → symbols_from r.table.code buf (start_at (lengths_of r buf) j)
      ≡ write (base r.table.code) (stoppers r.table.code) (drop j (ranks r buf)) ++ drop r.h (symbols_of r.table.code.k buf)
  unfolding lengths_of
  sound_from j =
      let c = r.table.code in
      let p = start_at (lengths_of r buf) j in
      let all = symbols_of c.k buf in
      let words = write (base c) (stoppers c) (ranks r buf) in
      let e : all ≡ words ++ drop r.h all = sym (take-append-drop r.h all) ∙ ap (λ (l : List ℕ). l ++ drop r.h all) (sound_row s) in
      ap (drop p) e
      ∙ drop-append-le p words (drop r.h all) (start_upto c (ranks r buf) j)
      ∙ ap (λ (l : List ℕ). l ++ drop r.h all) (drop_start c (ranks r buf) j)

  -- so many codewords are left
  left : (j n : ℕ) → j + n ≤ r.n → n ≤ length (drop j (ranks r buf))
  left j n h = omega (arith, length-drop j (ranks r buf), s.count)

  pub sound_stops : (j n : ℕ) → j + n ≤ r.n → n ≤ stops (stoppers r.table.code) 0 (symbols_from r.table.code buf (start_at (lengths_of r buf) j))
  sound_stops j n h =
      let c = r.table.code in
      rw (sound_from j)
      (write_stops (base c) (stoppers c) (code_good c (sound_code s)) (drop r.h (symbols_of c.k buf)) (drop j (ranks r buf)) n (left j n h))

  pub sound_ends : (j n : ℕ) → j + n ≤ r.n → end_from r.table.code buf (start_at (lengths_of r buf) j) n ≡ start_at (lengths_of r buf) (j + n)
  unfolding end_from lengths_of
  sound_ends j n h =
      let c = r.table.code in
      let st = stoppers c in
      let rs = ranks r buf in
      ap (λ (l : ℕ). start_at (lengths_of r buf) j + l)
      (ap (end_of st n 0) (sound_from j)
      ∙ write_end (base c) st (code_good c (sound_code s)) (drop r.h (symbols_of c.k buf)) (drop j rs) n (left j n h))
      ∙ sym (rw (← start_at_lem c rs (j + n), ← start_at_lem c rs j, take-add j n rs, write_append, length-append))

  pub sound_ending : (j n : ℕ) → j + n ≤ r.n → Ending r.table.code buf (start_at (lengths_of r buf) j) n
  sound_ending j n h =
      record {
        good = sound_code s;
        enough = sound_stops j n h;
        counts = omega (arith, sound_ends j n h, sound_start s (j + n), (sound_reads s 0 zero-le).small);
      }

  -- from the first codeword on
  pub sound_first : (n : ℕ) → n ≤ r.n → Ending r.table.code buf 0 n
  unfolding start_at sum
  sound_first n h = sound_ending 0 n (omega arith)

  pub sound_end : (i : ℕ) → i ≤ r.n → end_from r.table.code buf 0 i ≡ start_at (lengths_of r buf) i
  unfolding start_at sum
  sound_end i h = sound_ends 0 i (omega arith) ∙ ap (start_at (lengths_of r buf)) (zero-add i)

  module _ (i : ℕ) (h : i < r.n) where
    pub sound_one : Ending r.table.code buf (end_from r.table.code buf 0 i) 1
    sound_one = rw (sound_end i (omega arith)) (sound_ending i 1 (omega arith))

    pub sound_next : end_from r.table.code buf (end_from r.table.code buf 0 i) 1 ≡ end_from r.table.code buf 0 (i + 1)
    sound_next =
        ap (λ (p : ℕ). end_from r.table.code buf p 1) (sound_end i (omega arith))
        ∙ sound_ends i 1 (omega arith)
        ∙ sym (sound_end (i + 1) (omega arith))
