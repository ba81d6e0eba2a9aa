-- Symbols followed along a row, a stretch at once, with the hits among its characters; and where nothing ends well any more.
use Rattle.std.specs.Prelude.{◌≡◌, refl, Bool, false, cond, List, [], ◌++◌, map, ℕ, ◌+◌, ◌-◌, ◌*◌, ◌^◌, ◌≤◌, ◌<◌, length, take, drop, get_or}
use Rattle.std.proofs.Common.{sym, ap, ap₂, ◌∙◌, le_refl, arith, length-append, drop_of_length-le, take-add, length-take-le}
use Rattle.std.proofs.lemmas.List.{map-append}
use Rattle.std.proofs.Math.Nat.{add-zero}
use Rattle.std.specs.Int.Bits.{bit_and}
use Rattle.ground.specs.Paper.Runs.{run, over}
use Rattle.ground.specs.Laws.Rows.{tab_at}
use Rattle.ground.specs.Laws.Runs.{over_after, run_length}
use Rattle.ground.specs.Laws.Tests.{by_value}
use Rattle.stopper.specs.Helpers.State.{Small}
use Rattle.stopper.specs.declared.code.Code.{Code}
use Rattle.stopper.specs.declared.reading.Reader.{Reader}
use Rattle.judge.specs.Paper.Judge.{reader_of, progress, hears_all, ranks_heard}
use Rattle.judge.specs.Laws.Judge.{hears_append, ranks_append, full_silent}
use Rattle.judge.specs.declared.records.Progress.{Progress}
use Rattle.stretches.specs.Helpers.Codewords.{characters_in, bad_at, Through, Silent}
use Rattle.stretches.specs.Laws.Symbol.{bad_not}
use Rattle.radio.specs.Paper.Matching.{advanced, whole_bit, matches_all, named}
use Rattle.radio.specs.Paper.Operations.{code_in, pattern_in}
use Rattle.radio.specs.Helpers.Masks.{mask_of, masks_of}
use Rattle.radio.specs.Helpers.Naming.{NamedIn}
use Rattle.radio.specs.Helpers.Following.{row, followed_none, Along, Went}
use Rattle.radio.specs.Laws.Matching.{all_low, all_count, matches_append, named_append, named_few, mask_grown}
use Rattle.radio.specs.declared.records.Searcher.{Searcher}
use Rattle.radio.specs.declared.matching.Named.{Named}

-- the record of a codeword that has not reached σ
pub progress_is : (read count first : ℕ) (r : Reader) (stained : ℕ) {a b : ℕ} → r.past ≡ false → a ≡ b
    → record { read = read; count = count; first = first; past = 0; place = r.place; shorter = r.shorter; rows = r.rows; value = r.value; bad = a; stained = stained }
    ≡ progress read count first r b stained
progress_is read count first r stained p e = rw (p, e)

-- ---- along a row

module _ (c : Code) (σ : ℕ) (places : List ℕ) (h : ℕ) (p : Progress) (pattern : List ℕ) (bits : ℕ) (row slice : List ℕ) where
  -- the characters of the first i symbols
  abbrev text : ℕ → List ℕ
  text i = characters_in c σ places h p (take i row)

  record_is : p.past ≡ 0 → p.bad ≡ 0 → p ≡ progress p.read p.count p.first (reader_of p) 0 p.stained
  record_is past bad =
      ap₂ (λ (x y : ℕ). record {
        read = p.read;
        count = p.count;
        first = p.first;
        past = x;
        place = p.place;
        shorter = p.shorter;
        rows = p.rows;
        value = p.value;
        bad = y;
        stained = p.stained;
      })
      (past ∙ rw past) bad

  -- before the first
  pub along_start : Small (reader_of p) → p.past ≡ 0 → p.bad ≡ 0 → p.count ≤ p.first → p.first ≤ p.read → p.read < h → bits < whole_bit pattern → bits < 2 ^ p.count
      → Along c σ places h p pattern bits row slice slice bits (reader_of p) p.count p.first 0 0
  unfolding hears_all ranks_heard matches_all named
  along_start z past bad a b l low ended =
      let e : p.read + 0 ≡ p.read = add-zero p.read in
      record {
        upto = omega arith;
        inside = omega arith;
        going = rw past;
        small = z;
        counted = a;
        started = omega arith;
        heard = rw (e, bad_not c σ h p.read p.first l) (record_is past bad);
        few = omega arith;
        counts = omega arith;
        matched = refl;
        listed = refl;
        leaves = refl;
        low = low;
        ended = ended;
      }

  -- no more hits than symbols
  pub hits_few : {after : List ℕ} {e : ℕ} {r : Reader} {count first hits i : ℕ} → Along c σ places h p pattern bits row slice after e r count first hits i → hits ≤ i
  hits_few {i = i} z = omega (arith, z.listed, named_few pattern bits p.count (text i), z.few)

  -- ---- a stretch at once

  module _ {after : List ℕ} {e : ℕ} {r : Reader} {count first hits i : ℕ} (z : Along c σ places h p pattern bits row slice after e r count first hits i) (l : p.read + i < h) where
    abbrev here : Progress
    here = progress (p.read + i) count first r 0 p.stained

    heard_here : hears_all c σ h p (take i row) ≡ here
    heard_here = z.heard ∙ ap (λ (bad : ℕ). progress (p.read + i) count first r bad p.stained) (bad_not c σ h (p.read + i) first l)

    module _ {to : ℕ} (on : i ≤ to) (upto : p.read + to ≤ h) (inside : to ≤ length row) (room : to ≤ length slice)
        {characters : List ℕ} {r' : Reader} {ended : Bool} (w : Through c σ places r (run row i to) characters r' ended) {x : Named} {after' : List ℕ}
        (m : NamedIn pattern characters count e after hits x after') where
      length_run : i + length (run row i to) ≡ to
      length_run = run_length row i to on inside

      row_on : take to row ≡ take i row ++ run row i to
      row_on = let n : i + (to - i) ≡ to = omega arith in ap (λ (k : ℕ). take k row) (sym n) ∙ take-add i (to - i) row

      text_on : text to ≡ text i ++ characters
      text_on =
          ap (characters_in c σ places h p) row_on
          ∙ ap (map (λ rank. get_or places rank 0)) (ranks_append c σ h p (take i row) (run row i to))
          ∙ map-append (λ rank. get_or places rank 0) (ranks_heard c σ h p (take i row)) _
          ∙ ap (λ (t : List ℕ). text i ++ t)
          (ap (λ (q : Progress). characters_in c σ places h q (run row i to)) heard_here ∙ w.told h (p.read + i) count first p.stained z.started l (omega (arith, length_run)))

      length_on : length (text to) ≡ length (text i) + length characters
      length_on = ap length text_on ∙ length-append (text i) characters

      named_on : named pattern bits p.count (text to) ≡ named pattern bits p.count (text i) ++ named pattern e count characters
      named_on =
          ap (named pattern bits p.count) text_on ∙ named_append pattern bits p.count (text i) characters
          ∙ ap₂ (λ (x n : ℕ). named pattern bits p.count (text i) ++ named pattern x n characters) (sym z.matched) (sym z.counts)

      hits_on : x.hits ≤ length slice
      hits_on = omega (arith, m.hits, z.listed, z.few, named_few pattern bits p.count (text i), named_few pattern e count characters, w.few, length_run)

      abbrev start : ℕ
      start = cond ended (p.read + to) first

      -- a codeword that ends with the last symbol, or the one that was open
      start_within : (count + length characters ≤ start) × (start ≤ p.read + to)
      start_within =
          by_value ended
          (λ e. rw e (omega (arith, z.counted, z.started, w.few, length_run), le_refl _))
          (λ e. rw e (omega (arith, z.counted, w.none e), omega (arith, z.started)))

      pub along_on : Along c σ places h p pattern bits row slice after' x.ends r' (count + length characters) start x.hits to
      along_on =
          let n : p.read + i + length (run row i to) ≡ p.read + to = omega (arith, length_run) in
          record {
            upto = upto;
            inside = inside;
            going = w.going;
            small = w.small;
            counted = start_within.0;
            started = start_within.1;
            heard = ap (hears_all c σ h p) row_on ∙ hears_append c σ h p (take i row) (run row i to) ∙ ap (λ (q : Progress). hears_all c σ h q (run row i to)) heard_here
                ∙ w.heard h (p.read + i) count first p.stained z.started l (omega (arith, length_run)) ∙ rw n;
            few = omega (arith, length_on, z.few, w.few, length_run);
            counts = omega (arith, length_on, z.counts);
            matched = m.ends ∙ ap (λ (x : ℕ). matches_all pattern x characters) z.matched ∙ sym (ap (matches_all pattern bits) text_on ∙ matches_append pattern bits (text i) characters);
            listed = rw (named_on, length-append) (omega (arith, m.hits, z.listed));
            leaves = m.leaves ∙ ap (λ (l : List ℕ). over l hits (named pattern e count characters) x.hits) z.leaves
                ∙ over_after slice 0 hits x.hits (named pattern bits p.count (text i)) (named pattern e count characters) (omega (arith, z.listed)) (omega (arith, m.hits)) hits_on
                ∙ ap (λ (l : List ℕ). l ++ drop x.hits slice) (sym named_on);
            low = rw m.ends (all_low pattern e characters z.low);
            ended = rw m.ends (all_count pattern e count characters z.ended);
          }

    -- and where no codeword ends well any more
    pub along_silent : Silent c σ r (drop i row) → ranks_heard c σ h (progress (p.read + i) count first r (bad_at h (p.read + i) first) p.stained) (drop i row) ≡ []
    along_silent q =
        ap (λ (bad : ℕ). ranks_heard c σ h (progress (p.read + i) count first r bad p.stained) (drop i row)) (bad_not c σ h (p.read + i) first l)
        ∙ q h (p.read + i) count first p.stained l

-- what is passed is so many characters long
pub characters_length : (text : List ℕ) (n : ℕ) → length text ≡ 256 → n ≤ 256 → length (take n text) ≡ n
characters_length text n e h = length-take-le n text (omega arith)

-- ---- masks

pub advanced_is : (pattern masks : List ℕ) (bits character : ℕ) → masks ≡ masks_of pattern → character < 256 → bit_and (2 * bits + 1) (get_or masks character 0) ≡ advanced pattern bits character
advanced_is pattern masks bits character e l =
    ap (bit_and (2 * bits + 1)) (ap (λ (m : List ℕ). get_or m character 0) e ∙ tab_at (mask_of pattern) 256 character l) ∙ mask_grown pattern bits character

-- ---- where it ends

module _ (s : Searcher) (piece slice : List ℕ) where
  abbrev from : Progress
  from = s.judge.progress

  abbrev ranks_from : Progress → List ℕ → List ℕ
  ranks_from p w = ranks_heard (code_in s) s.judge.roll.table.sigma s.judge.roll.h p w

  -- nothing is followed where no codeword can end well
  pub went_none : ranks_from from (row s piece) ≡ [] → Went s piece slice (followed_none from s.ends) slice
  unfolding hears_all ranks_heard matches_all named
  went_none e = record { at = omega arith; progress = refl; ends = refl; hits = refl; leaves = refl; silent = e }

  module _ {after : List ℕ} {bits : ℕ} {r : Reader} {count first hits i : ℕ}
      (z : Along (code_in s) s.judge.roll.table.sigma s.judge.roll.table.places s.judge.roll.h from (pattern_in s) s.ends (row s piece) slice after bits r count first hits i) where
    abbrev there : Progress
    there = progress (from.read + i) count first r (bad_at s.judge.roll.h (from.read + i) first) from.stained

    pub along_went : ranks_from there (drop i (row s piece)) ≡ [] → {q : Progress} → q ≡ there → Went s piece slice (record { progress = q; ends = bits; at = i; hits = hits }) after
    along_went e d =
        record { at = z.inside; progress = d ∙ sym z.heard; ends = z.matched; hits = z.listed; leaves = z.leaves; silent = rw d e }

    -- all symbols of the piece, or all of the roll
    pub silent_piece : length (row s piece) ≤ i → ranks_from there (drop i (row s piece)) ≡ []
    unfolding ranks_heard
    silent_piece h = rw (drop_of_length-le (row s piece) h)

    pub silent_roll : s.judge.roll.h ≤ from.read + i → ranks_from there (drop i (row s piece)) ≡ []
    silent_roll h = full_silent (code_in s) s.judge.roll.table.sigma s.judge.roll.h there (drop i (row s piece)) h
