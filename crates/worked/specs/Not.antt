-- What the promises forbid, each on a named input.
use Rattle.std.specs.Prelude.{◌≡◌, List, [], ◌∷◌, ℕ, get_or, replicate, Result, Ok, Err}
use Rattle.std.proofs.Common.{sym, ap, ◌∙◌, arith}
use Rattle.ground.specs.Paper.Refusals.{Outcome, accepted, refused}
use Rattle.ground.specs.Paper.Answers.{outcome_of}
use Rattle.ground.specs.declared.refusal.Refusal.{Refusal}
use Rattle.ground.specs.declared.refusal.Refusal.TheVariants.{NoRoom, BadPattern, ShortDirectory}
use Rattle.sound.specs.declared.records.Roll.{Roll}
use Rattle.roll.specs.Paper.Operations.{Searching, Packing, Checking, Unpacking, Making, ReadingOne, Editing}
use Rattle.roll.specs.declared.edit.Edited.{Edited}
use Rattle.worked.specs.Cases.{abra, packed_abra, lines, rolled, computed}

-- an accepted outcome is no refusal
pub apart : {A : Type 0} {a : A} {n v : ℕ} → accepted a ≡ refused n v → ⊥
apart e = let z : ◌≡◌ {A = ℕ} 0 1 = cc in omega arith

pub number_of : {A : Type 0} {n m v w : ℕ} → ◌≡◌ {A = Outcome A} (refused n v) (refused m w) → n ≡ m
number_of e = cc

pub first_of : {x y : ℕ} {xs ys : List ℕ} → x ∷ xs ≡ y ∷ ys → x ≡ y
first_of e = ap (λ (l : List ℕ). get_or l 0 0) e

-- a pack that refuses everything: a fits
pub pack_not_refusing : {e : Refusal} {after : List ℕ} → Packing abra (97 ∷ []) (9 ∷ []) (Err e) after → ⊥
unfolding abra computed
pack_not_refusing p = apart (sym p.says)

-- a pack that leaves the last byte's unused symbols as they were: a in a byte of ones
pub pack_not_unclean : {r : Result Roll Refusal} → Packing abra (97 ∷ []) (255 ∷ []) r (63 ∷ []) → ⊥
unfolding abra computed
pack_not_unclean p = let e = first_of p.leaves in omega arith

-- symbols in the other order in a byte: ab is 0 1, so 00 01 00 00 and not 00 00 01 00
pub pack_not_turned : {r : Result Roll Refusal} → Packing abra (97 ∷ 98 ∷ []) (0 ∷ []) r (4 ∷ []) → ⊥
unfolding abra computed
pack_not_turned p = let e = first_of p.leaves in omega arith

-- a check that passes every roll: 0 3 ends in an open codeword
pub check_not_passing : Checking (rolled abra 1 2) (48 ∷ []) (Ok tt) → ⊥
unfolding abra computed
check_not_passing p = apart p.says

-- a check that refuses every roll: P2 is sound
pub check_not_refusing : {e : Refusal} → Checking (rolled abra 11 13) packed_abra (Err e) → ⊥
unfolding abra packed_abra computed
check_not_refusing p = apart (sym p.says)

-- an unpack that writes nothing: P2's first character is a
pub unpack_not_idle : {answer : Result (Unit {0}) Refusal} → Unpacking (rolled abra 11 13) packed_abra 0 1 (9 ∷ []) answer (9 ∷ []) → ⊥
unfolding abra packed_abra computed
unpack_not_idle p = let e = first_of p.leaves in omega arith

-- one that writes past the range: the byte behind it stays
pub unpack_not_beyond : {answer : Result (Unit {0}) Refusal} → Unpacking (rolled abra 11 13) packed_abra 0 1 (9 ∷ 9 ∷ []) answer (97 ∷ 98 ∷ []) → ⊥
unfolding abra packed_abra computed
unpack_not_beyond p = let e = ap (λ (l : List ℕ). get_or l 1 0) p.leaves in omega arith

-- c and 32 times a, packed: c has two symbols, so character 32 starts at symbol 33
abbrev longer : Roll
longer = rolled abra 33 34

abbrev packed_longer : List ℕ
packed_longer = 192 ∷ replicate 8 0

-- a directory that counts in characters
pub make_directory_not_characters : {answer : Result (Unit {0}) Refusal} → Making longer packed_longer (9 ∷ 9 ∷ []) answer (0 ∷ 32 ∷ []) → ⊥
unfolding abra computed
make_directory_not_characters p = let e = ap (λ (l : List ℕ). get_or l 1 0) p.leaves in omega arith

-- going by the entry before: character 32 is a, and c stands at symbol 0
pub read_one_not_early : ReadingOne longer packed_longer (0 ∷ 33 ∷ []) 32 (Ok 99) → ⊥
unfolding abra computed
read_one_not_early p = let e : ◌≡◌ {A = ℕ} 99 97 = cc p.says in omega arith

-- ---- search: abracadabra for b, which stands at characters 1 and 8

total_of : {x y : ℕ} → ◌≡◌ {A = Outcome ℕ} (accepted x) (accepted y) → x ≡ y
total_of e = cc

-- a search that always answers no hits
pub search_not_empty : {after : List ℕ} → Searching (rolled abra 11 13) packed_abra (98 ∷ []) [] (Ok 0) after → ⊥
unfolding abra packed_abra computed
search_not_empty p = let e = total_of p.says in omega arith

-- any match of symbols taken as a hit: symbol 8 is the third
pub search_not_symbols : {after : List ℕ} → Searching (rolled abra 11 13) packed_abra (98 ∷ []) [] (Ok 3) after → ⊥
unfolding abra packed_abra computed
search_not_symbols p = let e = total_of p.says in omega arith

-- a list that starts with the last hit
pub search_not_last : {answer : Result ℕ Refusal} → Searching (rolled abra 11 13) packed_abra (98 ∷ []) (9 ∷ []) answer (8 ∷ []) → ⊥
unfolding abra packed_abra computed
search_not_last p = let e = first_of p.leaves in omega arith

-- going on one pattern length after a hit: abababa has aba three times, and not two
pub search_not_skipping : {after : List ℕ} → Searching (rolled abra 7 7) (17 ∷ 16 ∷ []) (97 ∷ 98 ∷ 97 ∷ []) [] (Ok 2) after → ⊥
unfolding abra packed_abra computed
search_not_skipping p = let e = total_of p.says in omega arith

-- ---- search: a and b on two lines

-- two lines searched for, though they stand there
pub search_not_over_lines : {many : ℕ} {after : List ℕ} → Searching (rolled lines 3 3) (24 ∷ []) (97 ∷ 10 ∷ 98 ∷ []) [] (Ok many) after → ⊥
unfolding lines computed
search_not_over_lines p = apart p.says

-- byte 10 let pass at the end
pub search_not_newline_last : {many : ℕ} {after : List ℕ} → Searching (rolled lines 3 3) (24 ∷ []) (97 ∷ 10 ∷ []) [] (Ok many) after → ⊥
unfolding lines computed
search_not_newline_last p = apart p.says

-- byte 13 refused too
pub search_not_13 : {e : Refusal} {after : List ℕ} → Searching (rolled lines 3 3) (24 ∷ []) (97 ∷ 13 ∷ []) [] (Err e) after → ⊥
unfolding lines computed
search_not_13 p = apart (sym p.says)

-- 11 for byte 10 before what check refuses: 0 3 ends in an open codeword
pub search_not_newline_first : {after : List ℕ} → Searching (rolled lines 1 2) (48 ∷ []) (97 ∷ 10 ∷ []) [] (Err BadPattern) after → ⊥
unfolding lines computed
search_not_newline_first p = let e = number_of p.says in omega arith

-- ---- edit: abracadabra, packed, with its directory

abbrev packed : Roll
packed = rolled abra 11 13

-- element i of a row that equals another
at : {l m : List ℕ} (i : ℕ) → l ≡ m → get_or l i 0 ≡ get_or m i 0
at i e = ap (λ (l : List ℕ). get_or l i 0) e

pub roll_of : {x y : Roll} → ◌≡◌ {A = Outcome Roll} (accepted x) (accepted y) → x ≡ y
roll_of e = cc

-- an edit that refuses everything: dd in place of c fits
pub edit_not_refusing : {e : Edited} {f : Refusal} {after dir_after : List ℕ} → Editing packed packed_abra (0 ∷ []) 4 5 (100 ∷ 100 ∷ []) e after dir_after → e.answer ≡ Err f → ⊥
unfolding abra packed_abra computed
edit_not_refusing p q = apart (sym p.says ∙ ap outcome_of q)

-- the buffer left as it was, whatever is answered: dd in place of c
pub edit_not_untouched : {e : Edited} {dir_after : List ℕ} → Editing packed packed_abra (0 ∷ []) 4 5 (100 ∷ 100 ∷ []) e packed_abra dir_after → ⊥
unfolding abra packed_abra computed
edit_not_untouched p = let e = at 1 p.leaves in omega arith

-- the record left as it was: there are 12 characters then
pub edit_not_record : {e : Edited} {after dir_after : List ℕ} → Editing packed packed_abra (0 ∷ []) 4 5 (100 ∷ 100 ∷ []) e after dir_after → e.roll ≡ packed → ⊥
unfolding abra packed_abra computed
edit_not_record p q = let e = ap (λ (r : Roll). r.n) (sym q ∙ p.roll) in omega arith

-- the same outcome for every edit: dd in place of c, and cad dropped, leave other bytes
pub edit_not_constant : {e : Edited} {after dir_after : List ℕ} → Editing packed packed_abra (0 ∷ []) 4 5 (100 ∷ 100 ∷ []) e after dir_after
    → Editing packed packed_abra (0 ∷ []) 4 7 [] e after dir_after → ⊥
unfolding abra packed_abra computed
edit_not_constant p q = let e = at 1 (sym p.leaves ∙ q.leaves) in omega arith

-- the tail moved by a whole byte where the length changes by one symbol: a put before all, and the old byte 0 is byte 1
pub edit_not_bytes : {e : Edited} {x : ℕ} {rest dir_after : List ℕ} → Editing packed packed_abra (0 ∷ []) 0 0 (97 ∷ []) e (x ∷ 24 ∷ rest) dir_after → ⊥
unfolding abra packed_abra computed
edit_not_bytes p = let e = at 1 p.leaves in omega arith

-- digits left behind the new end: cad dropped, and byte 2 is 70 as before
pub edit_not_left : {e : Edited} {x y : ℕ} {rest dir_after : List ℕ} → Editing packed packed_abra (0 ∷ []) 4 7 [] e (x ∷ y ∷ 70 ∷ rest) dir_after → ⊥
unfolding abra packed_abra computed
edit_not_left p = let e = at 2 p.leaves in omega arith

-- the directory left as it was: with a in place of c, character 32 starts at symbol 32
pub edit_not_directory : {e : Edited} {after : List ℕ} → Editing longer packed_longer (0 ∷ 33 ∷ []) 0 1 (97 ∷ []) e after (0 ∷ 33 ∷ []) → ⊥
unfolding abra computed
edit_not_directory p = let e = at 1 p.directory in omega arith

-- an entry left that is used no longer: with c dropped, 32 characters have one
pub edit_not_entry : {e : Edited} {after : List ℕ} → Editing longer packed_longer (0 ∷ 33 ∷ []) 0 1 [] e after (0 ∷ 33 ∷ []) → ⊥
unfolding abra computed
edit_not_entry p = let e = at 1 p.directory in omega arith

-- the byte before the run written with a zero: c starts in byte 1, and byte 0 stays
pub edit_not_before : {e : Edited} {rest dir_after : List ℕ} → Editing packed packed_abra (0 ∷ []) 4 5 (100 ∷ 100 ∷ []) e (0 ∷ rest) dir_after → ⊥
unfolding abra packed_abra computed
edit_not_before p = let e = first_of p.leaves in omega arith

-- 12 asked before 4: 32 times a fill 8 bytes and one entry, and one more has neither room nor an entry
pub edit_not_12_first : {e : Edited} {after dir_after : List ℕ} {v : ℕ}
    → Editing (rolled abra 32 32) (replicate 8 0) (0 ∷ []) 32 32 (97 ∷ []) e after dir_after → e.answer ≡ Err (ShortDirectory v) → ⊥
unfolding abra computed
edit_not_12_first p q = let e = number_of (sym (ap outcome_of q) ∙ p.says) in omega arith

-- 12 not asked: with a byte more there is room, and still no entry
pub edit_not_unlisted : {e : Edited} {after dir_after : List ℕ}
    → Editing (rolled abra 32 32) (replicate 9 0) (0 ∷ []) 32 32 (97 ∷ []) e after dir_after → e.answer ≡ Ok tt → ⊥
unfolding abra computed
edit_not_unlisted p q = apart (sym (ap outcome_of q) ∙ p.says)

pub value_of : {A : Type 0} {n m v w : ℕ} → ◌≡◌ {A = Outcome A} (refused n v) (refused m w) → v ≡ w
value_of e = cc

-- 4 with a number in the new text, and not in the edited one: it is 32
pub edit_not_piece : {e : Edited} {after dir_after : List ℕ}
    → Editing (rolled abra 32 32) (replicate 8 0) (0 ∷ []) 32 32 (97 ∷ []) e after dir_after → e.answer ≡ Err (NoRoom 0) → ⊥
unfolding abra computed
edit_not_piece p q = let e = value_of (sym (ap outcome_of q) ∙ p.says) in omega arith
