-- A sound roll's lengths and starts are those of its text.
use Rattle.std.specs.Prelude.{◌≡◌, ℕ, take}
use Rattle.std.proofs.Math.Path.{sym, ap}
use Rattle.std.proofs.Common.{◌∙◌}
use mathlib.Core.List.{List, map, map-map}
use Rattle.std.proofs.Math.ListN.{length}
use Rattle.std.proofs.lemmas.List.{length-map}
use Rattle.ground.specs.Laws.Rows.{map_take}
use Rattle.stopper.specs.Paper.Table.{base, stoppers, characters, rank_in, length_of}
use Rattle.stopper.specs.Paper.Reading.{write}
use Rattle.stopper.specs.declared.code.Code.{Code}
use Rattle.stopper.specs.declared.table.Table.{Table}
use Rattle.texts.specs.Paper.Directory.{start_at}
use Rattle.reading.specs.Paper.Reading.{ranks_read}
use Rattle.sound.specs.Paper.Roll.{text_row, symbols_for, reading, text_of}
use Rattle.sound.specs.Paper.Lengths.{lengths_of, lengths_for}
use Rattle.sound.specs.Helpers.Held.{Held}
use Rattle.sound.specs.Laws.Starts.{start_at_lem}
use Rattle.sound.specs.Laws.Holding.{sound_ranked}
use Rattle.sound.specs.declared.records.Roll.{Roll}

pub lengths_length : (t : Table) (text : List ℕ) → length (lengths_for t text) ≡ length text
unfolding lengths_for
lengths_length t text = length-map text (λ b. length_of t.code (rank_in (characters t) b))

module _ {r : Roll} {buf : List ℕ} (held : Held r buf) where
  abbrev c : Code
  c = r.table.code

  abbrev l : List ℕ
  l = characters r.table

  abbrev ranks : List ℕ
  ranks = ranks_read (reading r buf)

  pub sound_lengths : lengths_of r buf ≡ lengths_for r.table (text_of r buf)
  unfolding lengths_of lengths_for
  sound_lengths = ap (map (length_of c)) (sound_ranked held) ∙ map-map (length_of c) (rank_in l) (text_of r buf)

  -- where codeword j starts: behind the symbols of the characters before it
  pub start_text : (j : ℕ) → start_at (lengths_of r buf) j ≡ length (symbols_for r.table (take j (text_of r buf)))
  unfolding lengths_of text_row
  start_text j =
      sym (start_at_lem c ranks j)
      ∙ ap (λ (x : List ℕ). length (write (base c) (stoppers c) x)) (ap (take j) (sound_ranked held) ∙ map_take (rank_in l) j (text_of r buf))
