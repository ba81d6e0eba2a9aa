-- Frames on named inputs: the frame text of banana of P5, and what the promises forbid.
use Rattle.std.specs.Prelude.{◌≡◌, refl, List, [], ◌∷◌, ◌++◌, ℕ, get_or, take, replicate, Result, Ok, Err}
use Rattle.std.proofs.Common.{sym, ap, arith}
use Rattle.ground.specs.Paper.Answers.{value_of}
use Rattle.ground.specs.declared.refusal.Refusal.{Refusal}
use Rattle.ground.specs.declared.refusal.Refusal.TheVariants.{BadTable, BadLine}
use Rattle.sound.specs.declared.records.Roll.{Roll}
use Rattle.writing.specs.Paper.Written.{hex_row}
use Rattle.frames.specs.Paper.Frames.{frame, first_bytes, later_for, later_frames, frame_text, line_of, rest_of, is_digit, digit, is_line, bytes_in, is_first, record_in, is_later, packed_in, right_line, all_right, right_before, packed_from}
use Rattle.frames.specs.Paper.Operations.{write_says, Writing, no_record, first_says, ReadingFirst, later_says, ReadingLater, lines_say, packed_after, rest_says, frames_says, ReadingFrames}
use Rattle.worked.specs.Cases.{bananas, rolled, computed}
use Rattle.worked.specs.Not.{apart, number_of, value_of as same_value, roll_of}

unfoldable framed : Unit {0}
unfolding computed hex_row frame first_bytes later_for later_frames frame_text line_of rest_of is_digit digit is_line bytes_in is_first record_in is_later packed_in right_line all_right right_before packed_from write_says no_record first_says later_says lines_say packed_after rest_says frames_says
framed = tt

-- 01, k 4, s 3, σ 3, n 6, h 6 and a n b
abbrev first_line : List ℕ
first_line = 48 ∷ 49 ∷ 48 ∷ 52 ∷ 48 ∷ 51 ∷ 48 ∷ 48 ∷ 48 ∷ 51 ∷ 48 ∷ 48 ∷ 48 ∷ 48 ∷ 48 ∷ 48 ∷ 48 ∷ 54 ∷ 48 ∷ 48 ∷ 48 ∷ 48 ∷ 48 ∷ 48 ∷ 48 ∷ 54 ∷ 54 ∷ 49 ∷ 54 ∷ 101 ∷ 54 ∷ 50 ∷ 10 ∷ []

-- 02 and 20 10 10
abbrev later_line : List ℕ
later_line = 48 ∷ 50 ∷ 50 ∷ 48 ∷ 49 ∷ 48 ∷ 49 ∷ 48 ∷ 10 ∷ []

-- the first line with another s and another n
abbrev line_with : ℕ → ℕ → List ℕ
line_with s n = frame (1 ∷ 4 ∷ s ∷ 0 ∷ 3 ∷ 0 ∷ 0 ∷ 0 ∷ n ∷ 0 ∷ 0 ∷ 0 ∷ 6 ∷ 97 ∷ 110 ∷ 98 ∷ [])

pub banana_frames : frame_text (rolled bananas 6 6) (32 ∷ 16 ∷ 16 ∷ []) ≡ first_line ++ later_line
unfolding bananas framed
banana_frames = refl

-- a writer that refuses everything, and one that counts no byte 10: the text has 42 bytes
pub write_frames_not_refusing : {e : Refusal} {after : List ℕ} → Writing (rolled bananas 6 6) (32 ∷ 16 ∷ 16 ∷ []) (replicate 42 9) (Err e) after → ⊥
unfolding bananas framed
write_frames_not_refusing p = apart (sym p.says)

pub write_frames_not_uncounted : {e : Refusal} {after : List ℕ} → Writing (rolled bananas 6 6) (32 ∷ 16 ∷ 16 ∷ []) (replicate 39 9) (Err e) after → value_of e ≡ 40 → ⊥
unfolding bananas framed
write_frames_not_uncounted p q = let e = same_value p.says in omega arith

-- the high byte last: σ is 0003, and not 0300
pub write_frames_not_high_last : {answer : Result ℕ Refusal} {after : List ℕ} → Writing (rolled bananas 6 6) (32 ∷ 16 ∷ 16 ∷ []) (replicate 42 9) answer after → get_or after 7 0 ≡ 51 → ⊥
unfolding bananas framed
write_frames_not_high_last p q = let e = ap (λ (l : List ℕ). get_or l 7 0) p.leaves in omega arith

-- a reader that refuses everything
pub read_frames_not_refusing : {e : Refusal} {after : List ℕ} → ReadingFrames (first_line ++ later_line) (9 ∷ 9 ∷ 9 ∷ []) (Err e) after → ⊥
unfolding framed
read_frames_not_refusing p = apart (sym p.says)

-- upper case taken: 6E for n
pub read_frames_not_upper : {q : Roll} {after : List ℕ} → ReadingFrames (take 29 first_line ++ (69 ∷ 54 ∷ 50 ∷ 10 ∷ []) ++ later_line) (9 ∷ 9 ∷ 9 ∷ []) (Ok q) after → ⊥
unfolding framed
read_frames_not_upper p = apart p.says

-- a last line without byte 10 taken
pub read_frames_not_unended : {q : Roll} {after : List ℕ} → ReadingFrames (first_line ++ take 8 later_line) (9 ∷ 9 ∷ 9 ∷ []) (Ok q) after → ⊥
unfolding framed
read_frames_not_unended p = apart p.says

-- a line too many let pass, even one byte 10
pub read_frames_not_too_many : {q : Roll} {after : List ℕ} → ReadingFrames (first_line ++ later_line ++ (10 ∷ [])) (9 ∷ 9 ∷ 9 ∷ []) (Ok q) after → ⊥
unfolding framed
read_frames_not_too_many p = apart p.says

-- the high byte last: σ is 3
pub read_first_not_high_last : {q : Roll} → ReadingFirst first_line (Ok q) → q.table.sigma ≡ 768 → ⊥
unfolding framed
read_first_not_high_last p q = let e = ap (λ (r : Roll). r.table.sigma) (roll_of p.says) in omega arith

-- a later line read alone: one without a packed byte taken
pub read_frame_not_empty : {n : ℕ} {after : List ℕ} → ReadingLater (48 ∷ 50 ∷ 10 ∷ []) (9 ∷ []) (Ok n) after → ⊥
unfolding framed
read_frame_not_empty p = let z : ◌≡◌ {A = ℕ} 0 1 = cc in omega arith

-- a first line taken for a later one
pub read_frame_not_first : {n : ℕ} {after : List ℕ} → ReadingLater first_line (replicate 16 9) (Ok n) after → ⊥
unfolding framed
read_frame_not_first p = let z : ◌≡◌ {A = ℕ} 0 1 = cc in omega arith

-- a byte past the three that are written changed
pub read_frame_not_beyond : {answer : Result ℕ Refusal} {after : List ℕ} → ReadingLater later_line (9 ∷ 9 ∷ 9 ∷ 9 ∷ []) answer after → get_or after 3 0 ≡ 0 → ⊥
unfolding framed
read_frame_not_beyond p q = let e = ap (λ (l : List ℕ). get_or l 3 0) p.leaves in omega arith

-- 15 with the line counted from 1: the missing line is number 1
pub read_frames_not_from_1 : {after : List ℕ} → ReadingFrames first_line (9 ∷ 9 ∷ 9 ∷ []) (Err (BadLine 2)) after → ⊥
unfolding framed
read_frames_not_from_1 p = let e = same_value p.says in omega arith

-- check before shape: a record with s 0, and a line that is missing
pub read_frames_not_check_first : {after : List ℕ} → ReadingFrames (line_with 0 6) (9 ∷ 9 ∷ 9 ∷ []) (Err BadTable) after → ⊥
unfolding framed
read_frames_not_check_first p = let e = number_of p.says in omega arith

-- bytes of the buffer written under a refusal: n is 5, and six codewords stand there
pub read_frames_not_stored : {r : Result Roll Refusal} {after : List ℕ} → ReadingFrames (line_with 3 5 ++ later_line) (9 ∷ 9 ∷ 9 ∷ []) r after → get_or after 0 0 ≡ 32 → ⊥
unfolding framed
read_frames_not_stored p q = let e = ap (λ (l : List ℕ). get_or l 0 0) p.leaves in omega arith

-- a short middle frame taken: of 33 bytes the first later line has 32, and not 31
pub read_frames_not_short : {q : Roll} {buf after : List ℕ} → ReadingFrames (frame (1 ∷ 4 ∷ 3 ∷ 0 ∷ 3 ∷ 0 ∷ 0 ∷ 0 ∷ 66 ∷ 0 ∷ 0 ∷ 0 ∷ 66 ∷ 97 ∷ 110 ∷ 98 ∷ []) ++ frame (2 ∷ replicate 31 0) ++ frame (2 ∷ 0 ∷ 0 ∷ [])) buf (Ok q) after → ⊥
unfolding framed
read_frames_not_short p = apart p.says
