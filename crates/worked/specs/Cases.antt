-- Worked on paper: cases of one table under one claim, which the check computes over the definitions that the promises cite. Every case
-- that the paper marks with a star, P1 to P11, is in the table.
use Rattle.std.specs.Prelude.{Bool, true, false, not, ◌&&◌, List, [], ◌∷◌, ◌++◌, map, ℕ, ◌^◌, T, eqb, replicate, drop}
use Rattle.ground.specs.Paper.Limit.{limit}
use Rattle.ground.specs.Paper.Refusals.{Outcome, accepted, refused}
use Rattle.ground.specs.Paper.Rows.{tab, zeros, padded, all_zero, first_where}
use Rattle.stopper.specs.Paper.Code.{codeword, place, first, shorter, opens, spell, rank_of, rank_from, rank_at}
use Rattle.stopper.specs.Paper.Table.{stoppers, good_width, good_code, good_characters, good_table, has, repeats, rank_in, length_of, word_of, table_of}
use Rattle.stopper.specs.Paper.Reading.{read_from, ahead, write}
use Rattle.stopper.specs.Paper.Operations.{codeword_says, character_says}
use Rattle.stopper.specs.declared.table.Table.{Table}
use Rattle.choosing.specs.Paper.Ranking.{key, insert, ranked_from, ranked}
use Rattle.choosing.specs.Paper.Choosing.{occurs, counts_of, twelve, at_least, counted, total_from, total, least, chosen, chosen_table}
use Rattle.choosing.specs.Paper.Operations.{count_says, count_leaves, choose_says, choose_table, choose_total}
use Rattle.symbols.specs.Paper.Symbols.{per, bytes_for, room, shift, symbol_at, symbols_of, number, byte_at, bytes_of}
use Rattle.texts.specs.Paper.Characters.{first_foreign}
use Rattle.texts.specs.Paper.Directory.{entries, sum, start_at, directory_of, first_wrong}
use Rattle.texts.specs.Paper.Hits.{stands, hits_from, hits, good_pattern}
use Rattle.reading.specs.Paper.Reading.{is_bad, ranks_read, first_bad}
use Rattle.sound.specs.Paper.Roll.{text_row, symbols_for, reading_from, text_of}
use Rattle.sound.specs.Paper.Lengths.{lengths_of, lengths_for}
use Rattle.sound.specs.declared.records.Roll.{Roll}
use Rattle.store.specs.Paper.Fitting.{first_over}
use Rattle.roll.specs.Paper.Operations.{pack_says, pack_roll, pack_leaves, fit_says, check_says, unpack_says, unpack_leaves, make_says, read_says, search_says, search_leaves, directory_says, edit_says, edit_roll, edit_leaves, edit_directory}

-- ---- whether two are the same

unfoldable pub same : List ℕ → List ℕ → Bool
same [] [] = true
same [] (y ∷ ys) = false
same (x ∷ xs) [] = false
same (x ∷ xs) (y ∷ ys) = eqb x y && same xs ys

same_table : Table → Table → Bool
same_table t u = eqb t.code.k u.code.k && eqb t.code.s u.code.s && eqb t.sigma u.sigma && same t.places u.places

same_roll : Roll → Roll → Bool
same_roll r q = same_table r.table q.table && eqb r.n q.n && eqb r.h q.h

same_outcome : Outcome (Unit {0}) → Outcome (Unit {0}) → Bool
same_outcome (accepted x) (accepted y) = true
same_outcome (accepted x) (refused n v) = false
same_outcome (refused n v) (accepted x) = false
same_outcome (refused n v) (refused n' v') = eqb n n' && eqb v v'

same_total : Outcome ℕ → Outcome ℕ → Bool
same_total (accepted x) (accepted y) = eqb x y
same_total (accepted x) (refused n v) = false
same_total (refused n v) (accepted x) = false
same_total (refused n v) (refused n' v') = eqb n n' && eqb v v'

-- ---- the cases

data Case : Type 0 where
  -- width, s, rank: its codeword
  word : ℕ → ℕ → ℕ → List ℕ → Case
  -- text: its characters in rank order, by its counts as they are
  ranks : List ℕ → List ℕ → Case
  -- width, text, s: the total for the text's counts as they are
  totals : ℕ → List ℕ → ℕ → ℕ → Case
  -- width, text: for its counts choosing gives this table and total
  choice : ℕ → List ℕ → Table → ℕ → Case
  -- table, text, buffer: the outcome, the record, the symbols, the buffer afterwards
  packs : Table → List ℕ → List ℕ → Outcome (Unit {0}) → Roll → List ℕ → List ℕ → Case
  -- roll, buffer: the outcome
  checks : Roll → List ℕ → Outcome (Unit {0}) → Case
  -- roll, buffer, start, end, output: the outcome, the output afterwards
  unpacks : Roll → List ℕ → ℕ → ℕ → List ℕ → Outcome (Unit {0}) → List ℕ → Case
  -- roll, buffer, pattern, hit list: the outcome with the total, the hit list afterwards
  finds : Roll → List ℕ → List ℕ → List ℕ → Outcome ℕ → List ℕ → Case
  -- roll, buffer, pattern, symbol: the pattern's symbols stand there, and no hit starts there
  inside : Roll → List ℕ → List ℕ → ℕ → Case
  -- roll, buffer, directory, start, end, text: the outcome, the record, the buffer and the directory afterwards
  edits : Roll → List ℕ → List ℕ → ℕ → ℕ → List ℕ → Outcome (Unit {0}) → Roll → List ℕ → List ℕ → Case

right : Case → Bool
right (word k s r w) = same (word_of (record { k = k; s = s }) r) w && eqb (rank_of (2 ^ k) (stoppers (record { k = k; s = s })) w) r
right (ranks text l) = same (ranked (occurs text)) l
right (totals k text s n) = eqb (total (record { k = k; s = s }) (occurs text)) n
right (choice k text t n) =
    let counts = count_leaves text (zeros 256) in
    eqb (choose_total k counts) n && same_table (choose_table k counts) t
right (packs t text buf o r row after) =
    same_outcome (pack_says t text buf) o && same_roll (pack_roll t text buf) r && same (symbols_for t text) row && same (pack_leaves t text buf) after
right (checks r buf o) = same_outcome (check_says r buf) o
right (unpacks r buf start end out o after) = same_outcome (unpack_says r buf start end out) o && same (unpack_leaves r buf start end out) after
right (finds r buf pattern slice o after) = same_total (search_says r buf pattern) o && same (search_leaves r buf pattern slice) after
right (inside r buf pattern q) =
    stands (symbols_for r.table pattern) (drop q (symbols_of r.table.code.k buf))
    && not (has q (map (start_at (lengths_of r buf)) (hits pattern (text_of r buf))))
right (edits r buf dir start end text o r' after dir_after) =
    same_outcome (edit_says r buf dir start end text) o
    && same_roll (edit_roll r buf dir start end text) r'
    && same (edit_leaves r buf dir start end text) after
    && same (edit_directory r buf dir start end text) dir_after

every : List Case → Bool
every [] = true
every (c ∷ cases) = right c && every cases

yes : Outcome (Unit {0})
yes = accepted tt

abracadabra : List ℕ
abracadabra = 97 ∷ 98 ∷ 114 ∷ 97 ∷ 99 ∷ 97 ∷ 100 ∷ 97 ∷ 98 ∷ 114 ∷ 97 ∷ []

-- a b r c d
unfoldable pub abra : Table
abra = table_of (record { k = 2; s = 3 }) (97 ∷ 98 ∷ 114 ∷ 99 ∷ 100 ∷ [])

unfoldable pub packed_abra : List ℕ
packed_abra = 24 ∷ 195 ∷ 70 ∷ 0 ∷ []

-- byte 10, +, the digits
the_twelve : List ℕ
the_twelve = 10 ∷ 43 ∷ 48 ∷ 49 ∷ 50 ∷ 51 ∷ 52 ∷ 53 ∷ 54 ∷ 55 ∷ 56 ∷ 57 ∷ []

-- a b r, the twelve, c d: what choosing gives for it
abra_chosen : Table
abra_chosen = table_of (record { k = 2; s = 2 }) (97 ∷ 98 ∷ 114 ∷ the_twelve ++ 99 ∷ 100 ∷ [])

packed_chosen : List ℕ
packed_chosen = 24 ∷ 42 ∷ 74 ∷ 193 ∷ 128 ∷ []

-- a record of so many characters and symbols
abbrev pub rolled : Table → ℕ → ℕ → Roll
rolled t n h = record { table = t; n = n; h = h }

banana : List ℕ
banana = 98 ∷ 97 ∷ 110 ∷ 97 ∷ 110 ∷ 97 ∷ []

-- a n b
unfoldable pub bananas : Table
bananas = table_of (record { k = 4; s = 3 }) (97 ∷ 110 ∷ 98 ∷ [])

-- a n, the twelve, b: what choosing gives for it
bananas_chosen : Table
bananas_chosen = table_of (record { k = 4; s = 15 }) (97 ∷ 110 ∷ the_twelve ++ 98 ∷ [])

-- a, byte 10, b
unfoldable pub lines : Table
lines = table_of (record { k = 2; s = 3 }) (97 ∷ 10 ∷ 98 ∷ [])

-- P1 by the counts as they are; P2 to P5, P10 and P11 with their tables given directly; behind each, what the table gives that choosing answers
cases : List Case
cases =
    -- P1
    totals 2 abracadabra 1 18
    ∷ totals 2 abracadabra 2 15
    ∷ totals 2 abracadabra 3 13
    ∷ ranks abracadabra (97 ∷ 98 ∷ 114 ∷ 99 ∷ 100 ∷ [])
    ∷ choice 2 abracadabra abra_chosen 53
    -- P2: symbols and bytes; a byte behind them stays
    ∷ packs abra abracadabra (9 ∷ 9 ∷ 9 ∷ 9 ∷ 9 ∷ []) yes (rolled abra 11 13)
    (0 ∷ 1 ∷ 2 ∷ 0 ∷ 3 ∷ 0 ∷ 0 ∷ 3 ∷ 1 ∷ 0 ∷ 1 ∷ 2 ∷ 0 ∷ []) (packed_abra ++ 9 ∷ [])
    ∷ checks (rolled abra 11 13) packed_abra yes
    ∷ unpacks (rolled abra 11 13) packed_abra 0 11 (replicate 12 9) yes (abracadabra ++ 9 ∷ [])
    ∷ packs abra_chosen abracadabra (9 ∷ 9 ∷ 9 ∷ 9 ∷ 9 ∷ 9 ∷ []) yes (rolled abra_chosen 11 19)
    (0 ∷ 1 ∷ 2 ∷ 0 ∷ 0 ∷ 2 ∷ 2 ∷ 2 ∷ 1 ∷ 0 ∷ 2 ∷ 2 ∷ 3 ∷ 0 ∷ 0 ∷ 1 ∷ 2 ∷ 0 ∷ 0 ∷ []) (packed_chosen ++ 9 ∷ [])
    ∷ checks (rolled abra_chosen 11 19) packed_chosen yes
    ∷ unpacks (rolled abra_chosen 11 19) packed_chosen 0 11 (replicate 12 9) yes (abracadabra ++ 9 ∷ [])
    -- P3: b, and the symbol that equals its codeword and is no hit
    ∷ finds (rolled abra 11 13) packed_abra (98 ∷ []) (9 ∷ 9 ∷ 9 ∷ []) (accepted 2) (1 ∷ 8 ∷ 9 ∷ [])
    ∷ inside (rolled abra 11 13) packed_abra (98 ∷ []) 8
    ∷ finds (rolled abra_chosen 11 19) packed_chosen (98 ∷ []) (9 ∷ 9 ∷ 9 ∷ []) (accepted 2) (1 ∷ 8 ∷ 9 ∷ [])
    ∷ inside (rolled abra_chosen 11 19) packed_chosen (98 ∷ []) 8
    -- P4: a
    ∷ finds (rolled abra 11 13) packed_abra (97 ∷ []) (replicate 6 9) (accepted 5) (0 ∷ 3 ∷ 5 ∷ 7 ∷ 10 ∷ 9 ∷ [])
    ∷ finds (rolled abra_chosen 11 19) packed_chosen (97 ∷ []) (replicate 6 9) (accepted 5) (0 ∷ 3 ∷ 5 ∷ 7 ∷ 10 ∷ 9 ∷ [])
    -- P5: symbols and bytes; ana, overlapping
    ∷ ranks banana (97 ∷ 110 ∷ 98 ∷ [])
    ∷ totals 4 banana 3 6
    ∷ packs bananas banana (9 ∷ 9 ∷ 9 ∷ []) yes (rolled bananas 6 6) (2 ∷ 0 ∷ 1 ∷ 0 ∷ 1 ∷ 0 ∷ []) (32 ∷ 16 ∷ 16 ∷ [])
    ∷ finds (rolled bananas 6 6) (32 ∷ 16 ∷ 16 ∷ []) (97 ∷ 110 ∷ 97 ∷ []) (9 ∷ 9 ∷ 9 ∷ []) (accepted 2) (1 ∷ 3 ∷ 9 ∷ [])
    ∷ choice 4 banana bananas_chosen 18
    ∷ packs bananas_chosen banana (9 ∷ 9 ∷ 9 ∷ []) yes (rolled bananas_chosen 6 6) (14 ∷ 0 ∷ 1 ∷ 0 ∷ 1 ∷ 0 ∷ []) (224 ∷ 16 ∷ 16 ∷ [])
    ∷ finds (rolled bananas_chosen 6 6) (224 ∷ 16 ∷ 16 ∷ []) (97 ∷ 110 ∷ 97 ∷ []) (9 ∷ 9 ∷ 9 ∷ []) (accepted 2) (1 ∷ 3 ∷ 9 ∷ [])
    -- P6
    ∷ word 4 14 13 (13 ∷ [])
    ∷ word 4 14 14 (14 ∷ 0 ∷ [])
    ∷ word 4 14 27 (14 ∷ 13 ∷ [])
    ∷ word 4 14 28 (15 ∷ 0 ∷ [])
    -- P7
    ∷ word 4 14 41 (15 ∷ 13 ∷ [])
    ∷ word 4 14 42 (14 ∷ 14 ∷ 0 ∷ [])
    ∷ word 4 14 255 (14 ∷ 14 ∷ 15 ∷ 15 ∷ 3 ∷ [])
    -- P8
    ∷ word 2 2 255 (2 ∷ 2 ∷ 2 ∷ 2 ∷ 2 ∷ 2 ∷ 2 ∷ 1 ∷ [])
    -- P9
    ∷ word 4 15 255 (replicate 17 15 ++ 0 ∷ [])
    ∷ word 2 3 255 (replicate 85 3 ++ 0 ∷ [])
    -- P10: dd in place of c; a byte and an entry behind stay
    ∷ edits (rolled abra 11 13) (packed_abra ++ 9 ∷ []) (0 ∷ 9 ∷ []) 4 5 (100 ∷ 100 ∷ []) yes
    (rolled abra 12 15) (24 ∷ 221 ∷ 52 ∷ 96 ∷ 9 ∷ []) (0 ∷ 9 ∷ [])
    ∷ edits (rolled abra_chosen 11 19) (packed_chosen ++ 9 ∷ 9 ∷ []) (0 ∷ 9 ∷ []) 4 5 (100 ∷ 100 ∷ []) yes
    (rolled abra_chosen 12 23) (24 ∷ 43 ∷ 43 ∷ 10 ∷ 193 ∷ 128 ∷ 9 ∷ []) (0 ∷ 9 ∷ [])
    -- P11: cad dropped; the bytes used no longer are 0
    ∷ edits (rolled abra 11 13) (packed_abra ++ 9 ∷ []) (0 ∷ 9 ∷ []) 4 7 [] yes
    (rolled abra 8 8) (24 ∷ 24 ∷ 0 ∷ 0 ∷ 9 ∷ []) (0 ∷ 9 ∷ [])
    ∷ edits (rolled abra_chosen 11 19) (packed_chosen ++ 9 ∷ []) (0 ∷ 9 ∷ []) 4 7 [] yes
    (rolled abra_chosen 8 10) (24 ∷ 6 ∷ 0 ∷ 0 ∷ 0 ∷ 9 ∷ []) (0 ∷ 9 ∷ [])
    -- +47 in place of cad: no such characters in P1's table, all of them in a chosen one
    ∷ edits (rolled abra 11 13) (packed_abra ++ 9 ∷ []) (0 ∷ 9 ∷ []) 4 7 (43 ∷ 52 ∷ 55 ∷ []) (refused 3 0)
    (rolled abra 11 13) (packed_abra ++ 9 ∷ []) (0 ∷ 9 ∷ [])
    ∷ edits (rolled abra_chosen 11 19) (packed_chosen ++ 9 ∷ []) (0 ∷ 9 ∷ []) 4 7 (43 ∷ 52 ∷ 55 ∷ []) yes
    (rolled abra_chosen 11 18) (24 ∷ 50 ∷ 223 ∷ 6 ∷ 0 ∷ 9 ∷ []) (0 ∷ 9 ∷ [])
    -- a and b on two lines: b; both as pasted; byte 10 alone, first and last; byte 13
    ∷ finds (rolled lines 3 3) (24 ∷ []) (98 ∷ []) (9 ∷ []) (accepted 1) (2 ∷ [])
    ∷ finds (rolled lines 3 3) (24 ∷ []) (97 ∷ 10 ∷ 98 ∷ []) (9 ∷ []) (refused 11 0) (9 ∷ [])
    ∷ finds (rolled lines 3 3) (24 ∷ []) (10 ∷ []) (9 ∷ []) (refused 11 0) (9 ∷ [])
    ∷ finds (rolled lines 3 3) (24 ∷ []) (10 ∷ 98 ∷ []) (9 ∷ []) (refused 11 0) (9 ∷ [])
    ∷ finds (rolled lines 3 3) (24 ∷ []) (97 ∷ 10 ∷ []) (9 ∷ []) (refused 11 0) (9 ∷ [])
    ∷ finds (rolled lines 3 3) (24 ∷ []) (97 ∷ 13 ∷ []) (9 ∷ []) (accepted 0) (9 ∷ [])
    -- all counts 0: the twelve alone
    ∷ choice 2 [] (table_of (record { k = 2; s = 2 }) the_twelve) 28
    ∷ choice 4 [] (table_of (record { k = 4; s = 12 }) the_twelve) 12
    ∷ []

-- all that the cases compute with, named once
unfoldable pub computed : Unit {0}
unfolding limit tab zeros padded first_where codeword place first shorter opens spell rank_of rank_from rank_at stoppers good_width good_code good_characters good_table has repeats rank_in length_of read_from ahead write key insert ranked_from ranked occurs counts_of twelve at_least counted total_from total least chosen chosen_table per bytes_for room shift symbol_at symbols_of number byte_at bytes_of first_foreign first_over text_row reading_from is_bad ranks_read first_bad text_of all_zero entries sum start_at directory_of lengths_of lengths_for first_wrong stands hits_from hits good_pattern count_says choose_says codeword_says character_says pack_says fit_says check_says unpack_says make_says read_says search_says directory_says edit_says
computed = tt

worked : T (every cases)
unfolding every cases right same same_table same_roll same_outcome same_total yes abracadabra abra packed_abra the_twelve abra_chosen packed_chosen banana bananas bananas_chosen lines computed
worked = tt
