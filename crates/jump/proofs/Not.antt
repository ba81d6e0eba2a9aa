-- What the promise forbids, on a named input that is long enough to jump in.
use mathlib.Core.Path.{ap}
use mathlib.Core.List.{List, [], ◌∷◌}
use Prim.Native.Nat.{ℕ}
use native.Mathlib.Omega.{arith}
use lib.ListN.{get_or}
use Rattle.ground.specs.Paper.Limit.{limit}
use Rattle.ground.specs.Paper.Rows.{tab, zeros, padded, all_zero, first_where}
use Rattle.std.specs.Prelude.{Result}
use Rattle.ground.specs.declared.refusal.Refusal.{Refusal}
use Rattle.stopper.specs.Paper.Code.{codeword, place, first, shorter, opens, spell, rank_of, rank_from, rank_at}
use Rattle.stopper.specs.Paper.Table.{stoppers, good_width, good_code, good_characters, good_table, has, repeats, table_of}
use Rattle.stopper.specs.Paper.Reading.{read_from, ahead}
use Rattle.symbols.specs.Paper.Symbols.{per, bytes_for, room, shift, symbol_at, symbols_of}
use Rattle.texts.specs.Paper.Hits.{stands, hits_from, hits, good_pattern}
use Rattle.reading.specs.Paper.Reading.{is_bad, ranks_read, first_bad}
use Rattle.sound.specs.Paper.Roll.{reading_from, text_of}
use Rattle.sound.specs.declared.records.Roll.{Roll}
use Rattle.roll.specs.Paper.Operations.{fit_says, check_says, search_says, Searching}

-- cabracad, with a b r c d: abracad, of nine symbols, stands at character 1, and starts at symbol 2
abbrev cabracad : Roll
cabracad = record { table = table_of (record { k = 2; s = 3 }) (97 ∷ 98 ∷ 114 ∷ 99 ∷ 100 ∷ []); n = 8; h = 11 }

abbrev abracad : List ℕ
abracad = 97 ∷ 98 ∷ 114 ∷ 97 ∷ 99 ∷ 97 ∷ 100 ∷ []

-- a hit numbered in symbols
pub search_jumping_not_numbered : {answer : Result ℕ Refusal} → Searching cabracad (193 ∷ 140 ∷ 52 ∷ []) abracad (9 ∷ []) answer (2 ∷ []) → ⊥
unfolding limit tab zeros padded first_where codeword place first shorter opens spell rank_of rank_from rank_at stoppers good_width good_code good_characters good_table has repeats read_from ahead per bytes_for room shift symbol_at symbols_of reading_from is_bad ranks_read first_bad text_of all_zero stands hits_from hits good_pattern fit_says check_says search_says
search_jumping_not_numbered p = let e = ap (λ (l : List ℕ). get_or l 0 0) p.leaves in omega arith
