-- A sound roll: its symbols are the codewords of its ranks, and each is found where it starts.
use Rattle.std.specs.Prelude.{◌≡◌, T, drop, get_or}
use Rattle.std.proofs.Common.{sym, ◌∙◌, arith, length-take-le}
use Rattle.std.proofs.Math.Path.{ap}
use mathlib.Core.List.{List}
use Prim.Native.Nat.{ℕ, suc, ◌≤◌, ◌<◌}
use Rattle.std.proofs.Math.ListN.{length}
use Rattle.std.proofs.lemmas.List.{length-map}
use Rattle.ground.specs.Helpers.Below.{Below}
use Rattle.ground.specs.Laws.Limit.{limit_fits}
use Rattle.ground.specs.Laws.Rows.{below_take, below_drop}
use Rattle.stopper.specs.Paper.Table.{base, stoppers, good_code, good_table}
use Rattle.stopper.specs.Paper.Reading.{Reading, done, read_from, write}
use Rattle.stopper.specs.Laws.Table.{table_code, table_few, code_good, code_width}
use Rattle.stopper.proofs.Laws.Reading.{read_write, write_read}
use Rattle.symbols.specs.Paper.Symbols.{room, symbols_of}
use Rattle.symbols.specs.Helpers.Widths.{Width}
use Rattle.symbols.specs.Laws.Sizes.{room_limit}
use Rattle.symbols.specs.Laws.Rows.{symbols_below, room_row}
use Rattle.texts.specs.Paper.Directory.{start_at}
use Rattle.reading.specs.Paper.Reading.{row_upto, ranks_read}
use Rattle.reading.specs.Helpers.Codewords.{Reads, found_at}
use Rattle.reading.specs.Laws.Reading.{whole_is}
use Rattle.std.specs.Prelude.{Some}
use Rattle.sound.specs.Paper.Roll.{reading_from, reading, text_of, Sound}
use Rattle.sound.specs.Paper.Lengths.{lengths_of}
use Rattle.sound.specs.Laws.Starts.{drop_start, found_rank, start_upto}
use Rattle.sound.specs.declared.records.Roll.{Roll}

-- ---- a sound roll

-- the symbols up to symbol h, and the ranks that they give
abbrev row : Roll → List ℕ → List ℕ
row r buf = row_upto r.table.code r.h buf

abbrev ranks : Roll → List ℕ → List ℕ
ranks r buf = ranks_read (reading r buf)

pub row_length : (r : Roll) (buf : List ℕ) → r.h ≤ room r.table.code.k (length buf) → length (row r buf) ≡ r.h
row_length r buf f = let k = r.table.code.k in length-take-le r.h (symbols_of k buf) (room_row k buf r.h f)

-- a good table and symbols that the buffer holds: a place up to symbol h may be read
pub table_reads : (r : Roll) (buf : List ℕ) → T (good_table r.table) → r.h ≤ room r.table.code.k (length buf)
    → (p : ℕ) → p ≤ r.h → Reads r.table.code r.table.sigma buf r.h p
table_reads r buf g f p h =
    record {
      good = table_code r.table g;
      few = table_few r.table g;
      held = room_row r.table.code.k buf r.h f;
      small = omega (arith, f, room_limit r.table.code.k (length buf), limit_fits);
      upto = h;
    }

pub text_length : {r : Roll} {buf : List ℕ} → Sound r buf → length (text_of r buf) ≡ r.n
unfolding text_of
text_length {r} {buf} s = length-map (ranks r buf) (λ rank. get_or r.table.places rank 0) ∙ s.count

module _ {r : Roll} {buf : List ℕ} (s : Sound r buf) where
  pub sound_code : T (good_code r.table.code)
  sound_code = table_code r.table s.table

  pub sound_width : Width r.table.code.k
  sound_width = code_width r.table.code sound_code

  pub sound_reads : (p : ℕ) → p ≤ r.h → Reads r.table.code r.table.sigma buf r.h p
  sound_reads = table_reads r buf s.table s.fits

  pub sound_length : length (row r buf) ≡ r.h
  sound_length = row_length r buf s.fits

  sound_written : Below r.table.sigma (ranks r buf) × (write (base r.table.code) (stoppers r.table.code) (ranks r buf) ≡ row r buf)
  unfolding reading_from
  sound_written =
      let c = r.table.code in
      write_read (base c) (stoppers c) (code_good c sound_code) r.table.sigma (below_take (symbols_below c.k buf) r.h) 0 (ranks r buf)
      (whole_is (reading r buf) s.reads)

  pub sound_below : Below r.table.sigma (ranks r buf)
  sound_below = sound_written.0

  -- the symbols up to symbol h are the codewords of the ranks
  pub sound_row : row r buf ≡ write (base r.table.code) (stoppers r.table.code) (ranks r buf)
  sound_row = sym sound_written.1

  -- codeword j, and where it starts
  pub sound_found : (j : ℕ) → j < r.n
      → found_at r.table.code r.table.sigma (row r buf) (start_at (lengths_of r buf) j) ≡ Some (record { rank = get_or (ranks r buf) j 0; next = start_at (lengths_of r buf) (suc j) })
  unfolding lengths_of
  sound_found j h = rw sound_row (found_rank r.table.code sound_code r.table.sigma sound_below j (omega (arith, s.count)))

  pub sound_start : (j : ℕ) → start_at (lengths_of r buf) j ≤ r.h
  unfolding lengths_of
  sound_start j = omega (arith, start_upto r.table.code (ranks r buf) j, ap length sound_row, sound_length)

  -- read from where codeword j starts
  pub sound_from : (j : ℕ) → reading_from r buf (start_at (lengths_of r buf) j) ≡ done (drop j (ranks r buf))
  unfolding reading_from lengths_of
  sound_from j =
      let c = r.table.code in
      let p = start_at (lengths_of r buf) j in
      let reads : List ℕ → Reading = read_from (base c) (stoppers c) r.table.sigma p 0 0 in
      ap (λ (w : List ℕ). reads (drop p w)) sound_row
      ∙ ap reads (drop_start c (ranks r buf) j)
      ∙ read_write (base c) (stoppers c) (code_good c sound_code) r.table.sigma p (below_drop sound_below j)
