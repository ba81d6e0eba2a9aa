-- Frames, by the operations alone: what is written is read back, what is read is written again, and lines that are given one by one are as the whole text.
use Rattle.std.specs.Prelude.{◌≡◌, ◌⊎◌, ◌↔◌, ℕ, zero, suc, ◌+◌, ◌-◌, ◌≤◌, eqb, drop, replicate, Result, Ok, Err}
use Rattle.std.specs.Result.{result_unwrap_or}
use Rattle.std.proofs.Math.Path.{refl, sym, ap, ap₂, subst}
use Rattle.std.proofs.Common.{◌∙◌, inl, inr, ⊎_elim, arith, le-leb, length-append, length-take-le, drop_at}
use mathlib.Core.List.{List, [], ◌∷◌, ◌++◌, map, flatten}
use Rattle.std.proofs.Math.Decide.{dec_le}
use Rattle.std.proofs.lemmas.Bool.{lt-leb, not-false}
use Rattle.std.proofs.Math.Facts.{and_yes, yes_and, eqb_yes, yes_eqb}
use Rattle.std.proofs.Math.Dec.{T}
use Rattle.std.proofs.Math.ListN.{length, take, get_or}
use Rattle.std.proofs.Math.Seq.{take_at}
use Rattle.ground.specs.Paper.Refusals.{accepted}
use Rattle.ground.specs.Paper.Answers.{number_of, value_of}
use Rattle.ground.specs.Helpers.Below.{Below}
use Rattle.ground.specs.Laws.Answers.{says_one, accepted_ok, ok_accepted, err_refused}
use Rattle.ground.specs.Laws.Refusals.{Accepted, Refuses, refused_row, refused_keeps, accepted_leaves, accepted_none, accepted_answer, accepted_parts}
use Rattle.ground.specs.Laws.Tests.{true_yes, yes_true}
use Rattle.ground.specs.declared.refusal.Refusal.{Refusal}
use Rattle.stopper.specs.Laws.Characters.{◌∈◌}
use Rattle.stopper.specs.Laws.Table.{table_few}
use Rattle.symbols.specs.Paper.Symbols.{room}
use Rattle.symbols.specs.Laws.Sizes.{room_limit, room_bytes}
use Rattle.texts.specs.Paper.Hits.{hits}
use Rattle.reading.specs.Paper.Reading.{ranks_read}
use Rattle.sound.specs.Paper.Roll.{text_of, Sound}
use Rattle.sound.specs.Helpers.Held.{Held}
use Rattle.sound.specs.Laws.Sound.{sound_width}
use Rattle.sound.specs.declared.records.Roll.{Roll}
use Rattle.radio.specs.Paper.Operations.{Starting, Finishing}
use Rattle.radio.specs.declared.records.Searcher.{Searcher}
use Rattle.roll.specs.Paper.Operations.{fit_rows, check_rows, check_says, Checking}
use Rattle.roll.specs.Laws.Accepting.{sound_accepted, accepted_sound}
use Rattle.frames.specs.Paper.Frames.{most_bytes, later_for, bytes_used, packed_of, frame_text, line_of, rest_of, is_line, is_first, record_in, is_later, packed_in, bytes_next, right_line, all_right, packed_from}
use Rattle.frames.specs.Paper.Operations.{bytes_into, write_rows, write_says, Writing, no_record, first_rows, first_says, first_roll, ReadingFirst, later_rows, later_says, ReadingLater, line_rows, lines_say, packed_after, rest_says, record_of_text, bytes_of_text, frames_says, frames_roll, ReadingFrames}
use Rattle.frames.specs.Laws.Forms.{later_parts}
use Rattle.frames.specs.Laws.Later.{all_none, all_more}
use Rattle.frames.specs.Laws.Frames.{cleaned, first_cleaned}
use Rattle.frames.specs.Laws.Meaning.{used_reading, Reads, reads_accepted, accepted_reads, written_record, written_bytes, written_accepted, read_packed, read_sound, read_text, one_text, Written, accepts_exactly}
use Rattle.frames.specs.Laws.Operations.{later_accepted, write_accepted, reading_frames_roll}
use Rattle.demands.specs.Calls.{TextIs, text_sound, text_is}
use Rattle.demands.specs.Orders.{DecidedBy, decided, decided_then, decided_both, then_refuses, rows_of_check, fit_decided, check_decided}
use Rattle.demands.specs.Radio.{FedAll, answers, start_accepts, text_so_far, finish_sound, finish_bytes, sound_finish, sound_fed}

-- ---- a text that was written

module _ {r : Roll} {buf out after : List ℕ} {n : ℕ} (w : Writing r buf out (Ok n) after) where
  written : write_says r buf out ≡ accepted n
  written = sym w.says

  written_sound : Sound r buf
  unfolding write_says
  written_sound = accepted_sound r buf (accepted_parts (check_says r buf) written).0

  written_size : n ≡ length (frame_text r buf)
  unfolding write_says
  written_size = sym (accepted_answer (write_rows r buf out) (length (frame_text r buf)) (accepted_parts (check_says r buf) written).1)

  -- the n bytes at the front are the frame text of the roll
  pub written_text : take n after ≡ frame_text r buf
  written_text =
      ap₂ (λ (i : ℕ) (l : List ℕ). take i l) written_size (w.leaves ∙ accepted_leaves written _ _)
      ∙ take_at (frame_text r buf) (drop (length (frame_text r buf)) out) (length (frame_text r buf)) refl

  -- with any buffer that has room they are read: they give the record, with 0 past its σ characters, and the packed bytes
  pub frames_back : {lent now : List ℕ} {a : Result Roll Refusal} → length r.table.places ≡ 256 → Below 256 r.table.places → Below 256 buf
      → r.h ≤ room r.table.code.k (length lent) → ReadingFrames (take n after) lent a now
      → (a ≡ Ok (cleaned r)) × (now ≡ packed_of r buf ++ drop (bytes_used r) lent)
  frames_back {lent} {now} {a} long places bytes fits call =
      let held : Held r buf = record { sound = written_sound; places = long } in
      let p : ReadingFrames (frame_text r buf) lent a now = subst (λ (x : List ℕ). ReadingFrames x lent a now) written_text call in
      let e = written_accepted held places bytes lent fits in
      let given : frames_roll (frame_text r buf) lent ≡ cleaned r = accepted_leaves e _ _ ∙ written_record held places bytes in
      let size : length (packed_of r buf) ≡ bytes_used r
      = length-take-le (bytes_used r) buf (room_bytes (sound_width written_sound) r.h (length buf) written_sound.fits) in (
        accepted_ok (frames_roll (frame_text r buf) lent) p.says e ∙ ap Ok given,
        p.leaves
            ∙ accepted_leaves e _ _
            ∙ ap (λ (l : List ℕ). bytes_into l lent) (written_bytes held places bytes)
            ∙ ap (λ (i : ℕ). packed_of r buf ++ drop i lent) size,
      )

-- ---- a text that was read

module _ {text buf after : List ℕ} {q : Roll} (p : ReadingFrames text buf (Ok q) after) where
  reads : Accepted (frames_says text buf)
  reads = (ok_accepted (frames_roll text buf) p.says refl).0

  -- the record in its first line, and the bytes in the others, which stand at the front of the buffer
  pub read_roll : q ≡ record_of_text text
  read_roll = (ok_accepted (frames_roll text buf) p.says refl).1 ∙ accepted_leaves reads _ _

  -- with 0 past its σ characters
  pub read_clean : cleaned q ≡ q
  unfolding record_in
  read_clean = let x = accepted_reads text buf reads in rw read_roll (first_cleaned (line_of text) x.first (table_few (record_of_text text).table x.sound.table))

  pub read_bytes : packed_of q after ≡ bytes_of_text text
  read_bytes = rw (read_roll, p.leaves) (read_packed text buf reads)

  -- written again it is the same, byte for byte; what is past it stays
  pub frames_again : {out now : List ℕ} {answer : Result ℕ Refusal} → length text ≤ length out → Writing q after out answer now
      → (answer ≡ Ok (length text)) × (take (length text) now ≡ text) × (drop (length text) now ≡ drop (length text) out)
  frames_again {out} {now} {answer} fits w =
      let same : frame_text q after ≡ text = rw (read_roll, p.leaves) (read_text text buf reads) in
      let sound : Sound q after = rw (read_roll, p.leaves) (read_sound text buf reads) in
      let e = write_accepted q after out (sound_accepted sound) (rw same fits) in
      let left : now ≡ bytes_into text out = w.leaves ∙ accepted_leaves e _ _ ∙ ap (λ (l : List ℕ). bytes_into l out) same in (
        says_one answer (Ok (length text)) (w.says ∙ e ∙ ap (λ (l : List ℕ). accepted (length l)) same),
        rw left (take_at text (drop (length text) out) (length text) refl),
        rw left (drop_at text (drop (length text) out) (length text) refl),
      )

-- no two texts are read as the same record and the same packed bytes
pub frames_one : {text text' buf buf' after after' : List ℕ} {a b : Roll} → ReadingFrames text buf (Ok a) after → ReadingFrames text' buf' (Ok b) after' → a ≡ b
    → packed_of a after ≡ packed_of b after' → text ≡ text'
frames_one {text} {text'} {buf} {buf'} p q e f =
    one_text text text' buf buf' (reads p) (reads q) (sym (read_roll p) ∙ e ∙ read_roll q) (sym (read_bytes p) ∙ f ∙ read_bytes q)

-- a text is read exactly if it is the frame text of a sound roll for which the buffer has room
pub frames_exact : {text buf after : List ℕ} {a : Result Roll Refusal} → ReadingFrames text buf a after → ((q : Roll) × (a ≡ Ok q)) ↔ Written text buf
frames_exact {text} {buf} {a = a} p = (
  λ z. (accepts_exactly text buf).1 (ok_accepted (frames_roll text buf) p.says z.1).0,
  λ w. (frames_roll text buf, accepted_ok (frames_roll text buf) p.says ((accepts_exactly text buf).0 w)),
)

-- ---- each operation's refusals, in the paper's order

pub order_write : {r : Roll} {buf out after : List ℕ} {e : Refusal} → Writing r buf out (Err e) after
    → Refuses (rows_of_check r buf ++ write_rows r buf out) (number_of e) (value_of e)
unfolding write_says
order_write {r} {buf} {out} p = then_refuses (check_decided r buf) (write_rows r buf out) (length (frame_text r buf)) (sym p.says)

pub order_later : {line out after : List ℕ} {e : Refusal} → ReadingLater line out (Err e) after → Refuses (later_rows line out) (number_of e) (value_of e)
unfolding later_says
order_later {line} {out} p = refused_row (later_rows line out) (length (packed_in line)) (sym p.says)

first_decided : (line : List ℕ) → DecidedBy (first_says line) (first_rows line)
unfolding first_says
first_decided line = decided (first_rows line)

pub order_first : {line : List ℕ} {e : Refusal} → ReadingFirst line (Err e) → Refuses (first_rows line) (number_of e) (value_of e)
order_first {line} p = (first_decided line).refuses (err_refused (first_roll line) p.says refl)

-- the first line's, the other lines', and check's: 1 and 5 of the buffer, the rest of the bytes that came
pub order_frames : {text buf after : List ℕ} {e : Refusal} → ReadingFrames text buf (Err e) after → let r = record_of_text text in
    Refuses (first_rows (line_of text) ++ (line_rows (bytes_used r) (rest_of text) ++ (fit_rows r buf ++ check_rows r (bytes_of_text text)))) (number_of e) (value_of e)
unfolding frames_says rest_says lines_say
order_frames {text} {buf} p =
    let r = record_of_text text in
    (decided_both (first_decided (line_of text))
    (decided_both (decided (line_rows (bytes_used r) (rest_of text))) (decided_then (fit_decided r buf) (check_rows r (bytes_of_text text))))).refuses
    (err_refused (frames_roll text buf) p.says refl)

-- ---- a refused call leaves what it was lent as it was

-- and the record that stands beside the refusal, which is what the C name answers (`frames_roll`), is nothing but 0
pub refused_reading : {text buf after : List ℕ} {a : Result Roll Refusal} {e : Refusal} → ReadingFrames text buf a after → a ≡ Err e
    → (after ≡ buf) × (result_unwrap_or a no_record ≡ no_record) × (frames_roll text buf ≡ no_record)
refused_reading {text} {buf} p y =
    let x = err_refused (frames_roll text buf) p.says y in
    (p.leaves ∙ refused_keeps x _ _, reading_frames_roll p ∙ refused_keeps x _ _, refused_keeps x _ _)

pub refused_writing : {r : Roll} {buf out after : List ℕ} {e : Refusal} → Writing r buf out (Err e) after → after ≡ out
refused_writing w = w.leaves ∙ refused_keeps (sym w.says) _ _

pub refused_later : {line out after : List ℕ} {e : Refusal} → ReadingLater line out (Err e) after → after ≡ out
refused_later p = p.leaves ∙ refused_keeps (sym p.says) _ _

-- ---- line by line

-- a line of a text, each cut off at its byte 10
pub data LineIn : List ℕ → List ℕ → Type 0 where
  here : {c : ℕ} {text : List ℕ} → LineIn (c ∷ text) (line_of (c ∷ text))
  there : {c : ℕ} {text line : List ℕ} → LineIn (rest_of (c ∷ text)) line → LineIn (c ∷ text) line

-- the lines of a text given to `read_frame` one after the other, none refused: the bytes that each call wrote
pub data LinesRead : List ℕ → List (List ℕ) → Type 0 where
  none : LinesRead [] []
  more : {text out after : List ℕ} {many : ℕ} {pieces : List (List ℕ)} → ReadingLater (line_of text) out (Ok many) after → LinesRead (rest_of text) pieces
      → LinesRead text (take many after ∷ pieces)

-- one call: a later line, and its packed bytes
module _ {line out after : List ℕ} {many : ℕ} (p : ReadingLater line out (Ok many) after) where
  piece_later : T (is_later line)
  unfolding later_says
  piece_later = true_yes _ (not-false (is_later line) (accepted_none (later_rows line out) (length (packed_in line)) (sym p.says)).0)

  piece_is : take many after ≡ packed_in line
  unfolding later_says
  piece_is =
      ap₂ (λ (i : ℕ) (l : List ℕ). take i l) (sym (accepted_answer (later_rows line out) (length (packed_in line)) (sym p.says))) (p.leaves ∙ accepted_leaves (sym p.says) _ _)
      ∙ take_at (packed_in line) (drop (length (packed_in line)) out) (length (packed_in line)) refl

-- the next of lines that are right
module _ (lines bytes : ℕ) (text : List ℕ) (t : T (all_right (suc lines) bytes text)) where
  next_later : T (is_later (line_of text))
  unfolding all_right right_line
  next_later = (and_yes (is_later (line_of text)) _ (and_yes (right_line bytes (line_of text)) _ t).0).0

  next_all : T (all_right lines (bytes - most_bytes) (rest_of text))
  unfolding all_right
  next_all = (and_yes (right_line bytes (line_of text)) _ t).1

no_line : (text : List ℕ) → length text ≡ 0 → T (is_later (line_of text)) → ⊥
unfolding line_of is_later is_line
no_line [] e t = t
no_line (c ∷ text) e t = omega arith

none_behind : (c : ℕ) (text : List ℕ) → T (eqb (length (c ∷ text)) 0) → ⊥
none_behind c text t = let z : suc (length text) ≡ 0 = eqb_yes t in omega arith

right_line_lem : (lines bytes : ℕ) {text line : List ℕ} → T (all_right lines bytes text) → LineIn text line → T (is_later line)
unfolding all_right
right_line_lem zero bytes t (here {c = c} {text = text}) = absurd (none_behind c text t)
right_line_lem zero bytes t (there {c = c} {text = text} l) = absurd (none_behind c text t)
right_line_lem (suc lines) bytes t (here {c = c} {text = text}) = next_later lines bytes (c ∷ text) t
right_line_lem (suc lines) bytes t (there {c = c} {text = text} l) = right_line_lem lines (bytes - most_bytes) (next_all lines bytes (c ∷ text) t) l

right_joined : (lines bytes : ℕ) {text : List ℕ} {pieces : List (List ℕ)} → T (all_right lines bytes text) → LinesRead text pieces → flatten pieces ≡ packed_from lines text
unfolding all_right packed_from flatten
right_joined zero bytes t none = refl
right_joined zero bytes t (more {text = text} p rest) = absurd (no_line text (eqb_yes t) (piece_later p))
right_joined (suc lines) bytes t none = absurd (no_line [] refl (next_later lines bytes [] t))
right_joined (suc lines) bytes t (more {text = text} p rest) = ap₂ {C = List ℕ} ◌++◌ (piece_is p) (right_joined lines (bytes - most_bytes) (next_all lines bytes text t) rest)

module _ {text buf after : List ℕ} {q : Roll} (p : ReadingFrames text buf (Ok q) after) where
  parts : Reads text buf
  parts = accepted_reads text buf (reads p)

  -- the first line of a text that is read is read alone, and gives the record
  pub first_read : {b : Result Roll Refusal} → ReadingFirst (line_of text) b → b ≡ Ok q
  unfolding frames_says
  first_read x =
      let e = (accepted_parts (first_says (line_of text)) (reads p)).0 in
      let given : first_roll (line_of text) ≡ q = accepted_leaves e _ _ ∙ sym (read_roll p) in
      accepted_ok (first_roll (line_of text)) x.says e ∙ ap Ok given

  -- and so is each later line, with room for 32 bytes
  pub line_read : {line out now : List ℕ} {answer : Result ℕ Refusal} → LineIn (rest_of text) line → most_bytes ≤ length out → ReadingLater line out answer now
      → (many : ℕ) × (answer ≡ Ok many)
  line_read {line} {out} {answer = answer} l fits x =
      let t = right_line_lem _ _ parts.lines l in
      let e = later_accepted line out (yes_true _ t) (omega (arith, (later_parts line t).few)) in
      (length (packed_in line), says_one answer (Ok (length (packed_in line))) (x.says ∙ e))

  -- what these calls write, joined, are the packed bytes
  pub lines_joined : {pieces : List (List ℕ)} → LinesRead (rest_of text) pieces → flatten pieces ≡ packed_of q after
  unfolding packed_after
  lines_joined l = right_joined _ _ parts.lines l ∙ sym (read_bytes p)

  -- a searcher for a pattern of 1 to 64 characters without byte 10 is made of the record
  pub read_starts : {pattern : List ℕ} {st : Result Searcher Refusal} → 1 ≤ length pattern → length pattern ≤ 64 → (10 ∈ pattern → ⊥) → Starting q pattern st
      → (s : Searcher) × (st ≡ Ok s)
  read_starts {pattern} {st} low high line x =
      let r = record_of_text text in
      let s = parts.sound in
      start_accepts
      s.table
      (omega (arith, s.fits, room_limit r.table.code.k (length (bytes_of_text text))))
      low
      high
      line
      (subst (λ (x : Roll). Starting x pattern st) (read_roll p) x)

-- ---- line by line into the searcher that is made of the first line

-- each but the last of 32 bytes
abbrev pub Full : List (List ℕ) → Type 0
Full [] = Unit {0}
Full (piece ∷ pieces) = ((pieces ≡ []) ⊎ (length piece ≡ most_bytes)) × Full pieces

-- such lines, each of at least one byte, are right
full_next : (piece others : ℕ) → 1 ≤ piece → piece ≤ most_bytes → (others ≡ 0) ⊎ (piece ≡ most_bytes) → (piece ≡ bytes_next (piece + others)) × (piece + others - most_bytes ≡ others)
full_next piece others some few f =
    elim (dec_le (piece + others) most_bytes) [
      | yes l ↦ rw (le-leb (piece + others) most_bytes l) (⊎_elim (λ e. (omega arith, omega arith)) (λ e. (omega arith, omega arith)) f)
      | no l ↦ rw (lt-leb (piece + others) most_bytes (omega arith)) (⊎_elim (λ e. (omega arith, omega arith)) (λ e. (e, omega arith)) f)
    ]

full_right : {text : List ℕ} {pieces : List (List ℕ)} → LinesRead text pieces → Full pieces → T (all_right (later_for (length (flatten pieces))) (length (flatten pieces)) text)
unfolding flatten right_line
full_right none f = true_yes _ (all_none [])
full_right (more {text = text} {after = after} {many = many} {pieces = pieces} p rest) f =
    let t = piece_later p in
    let l = later_parts (line_of text) t in
    let others : ℕ = length (flatten pieces) in
    let piece : List ℕ = take many after in
    let size : length piece ≡ length (packed_in (line_of text)) = ap length (piece_is p) in
    let long : length (piece ++ flatten pieces) ≡ length piece + others = length-append piece (flatten pieces) in
    let last : (others ≡ 0) ⊎ (length piece ≡ most_bytes) = ⊎_elim (λ e. inl (ap (λ (x : List (List ℕ)). length (flatten x)) e)) inr f.0 in
    let (next, less) = full_next (length piece) others (omega (arith, l.some)) (omega (arith, l.few)) last in
    let right : T (right_line (length piece + others) (line_of text)) = yes_and (is_later (line_of text)) _ t (yes_eqb (sym size ∙ next)) in
    rw long (subst T (sym (all_more (length piece + others) text (omega (arith, l.some)))) (yes_and (right_line (length piece + others) (line_of text)) _ right (rw less (full_right rest f.1))))

module _ {text pattern found : List ℕ} {pieces : List (List ℕ)} {b : Roll} {s s' : Searcher} (first : ReadingFirst (line_of text) (Ok b))
    (lines : LinesRead (rest_of text) pieces) (start : Starting b pattern (Ok s)) (fed : FedAll s pieces found s') where
  -- a text that the whole reader accepts
  module _ {buf after : List ℕ} {a : Roll} (p : ReadingFrames text buf (Ok a) after) where
    same_roll_lem : b ≡ record_of_text text
    same_roll_lem = let e = first_read p first in let same : b ≡ a = cc in same ∙ read_roll p

    same_bytes : flatten pieces ≡ bytes_of_text text
    same_bytes = lines_joined p lines ∙ read_bytes p

    passes : Checking b (flatten pieces) (Ok tt)
    passes = record { says = sym (rw (same_roll_lem, same_bytes) (sound_accepted (parts p).sound)) }

    -- each piece is taken, and finishing accepts
    pub radio_fed : answers fed ≡ replicate (length pieces) (Ok tt)
    radio_fed = sound_fed start fed passes

    pub radio_finish : {answer : Result (Unit {0}) Refusal} → Finishing s' answer → answer ≡ Ok tt
    radio_finish = sound_finish start fed passes

    -- the hits found are those of the text
    pub radio_text : found ≡ hits pattern (text_of (record_of_text text) (bytes_of_text text))
    radio_text = text_so_far start fed ∙ rw (same_roll_lem, same_bytes)

    -- which is the one that is unpacked from what the whole reader left
    pub radio_hits : {words : List ℕ} → TextIs a after words → found ≡ hits pattern words
    unfolding text_of
    radio_hits {words} t =
        let same : text_of a (packed_of a after) ≡ text_of a after
        = ap (λ x. map (λ rank. get_or a.table.places rank 0) (ranks_read x)) (used_reading a after (sound_width (text_sound t))) in
        radio_text ∙ ap₂ (λ (x : Roll) (l : List ℕ). hits pattern (text_of x l)) (sym (read_roll p)) (sym (read_bytes p)) ∙ ap (hits pattern) (same ∙ sym (text_is t))

  -- lines of which each but the last has 32 bytes, and finishing accepts: with a buffer that has room the whole reader does too
  pub radio_whole : {buf after : List ℕ} {a : Result Roll Refusal} → Full pieces → Finishing s' (Ok tt) → b.h ≤ room b.table.code.k (length buf) → ReadingFrames text buf a after
      → (q : Roll) × (a ≡ Ok q)
  unfolding first_says packed_after
  radio_whole {buf} {after} {a} full f fits p =
      let (e, given) = ok_accepted (first_roll (line_of text)) first.says refl in
      let r = record_of_text text in
      let same : b ≡ r = given ∙ accepted_leaves e _ _ in
      let size : length (flatten pieces) ≡ bytes_used r = finish_bytes start fed f ∙ ap (λ (x : Roll). bytes_used x) same in
      let right : T (all_right (later_for (bytes_used r)) (bytes_used r) (rest_of text)) = subst (λ (n : ℕ). T (all_right (later_for n) n (rest_of text))) size (full_right lines full) in
      let sound : Sound b (flatten pieces) = accepted_sound b (flatten pieces) (sym (finish_sound start fed f).says) in
      let whole : Reads text buf
      = record {
        first = true_yes _ (not-false (is_first (line_of text)) (accepted_none (first_rows (line_of text)) tt e).0);
        lines = right;
        sound = rw (same, right_joined _ _ right lines) at sound;
        fits = rw same at fits;
      } in
      (frames_roll text buf, accepted_ok (frames_roll text buf) p.says (reads_accepted text buf whole))
