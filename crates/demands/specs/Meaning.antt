-- What a sound roll is: a text packed. Unpacking what was packed gives the text, and packing what was unpacked gives the roll.
use Rattle.std.specs.Prelude.{◌≡◌, refl, ◌↔◌, List, ◌++◌, ℕ, ◌-◌, ◌≤◌, length, take, drop, Result, Ok}
use Rattle.std.proofs.Common.{sym, ap, ap₂, subst, ◌∙◌, le_refl, le_of_eq, arith, length-append, length-drop, take-append-drop, take_all, take_at}
use Rattle.std.proofs.Math.Nat.{sub-zero}
use Rattle.ground.specs.Paper.Runs.{run}
use Rattle.ground.specs.Helpers.Below.{Below}
use Rattle.ground.specs.Laws.Answers.{says_one, ok_accepted}
use Rattle.ground.specs.Laws.Refusals.{accepted_leaves, Accepted}
use Rattle.ground.specs.declared.refusal.Refusal.{Refusal}
use Rattle.stopper.specs.Paper.Table.{characters}
use Rattle.stopper.specs.Laws.Table.{code_width, table_code}
use Rattle.stopper.specs.declared.table.Table.{Table}
use Rattle.symbols.specs.Paper.Symbols.{bytes_for, room, symbols_of, bytes_of}
use Rattle.symbols.specs.Helpers.Widths.{Width}
use Rattle.symbols.specs.Laws.Sizes.{room_bytes}
use Rattle.symbols.specs.Laws.Packing.{bytes_length}
use Rattle.texts.specs.Laws.Characters.{InTable}
use Rattle.sound.specs.Paper.Roll.{symbols_for, record_of, text_of, Sound}
use Rattle.sound.specs.Helpers.Held.{Held}
use Rattle.sound.specs.Laws.Sound.{text_length}
use Rattle.sound.specs.Laws.Holding.{width_of, Holds, holds_sound, holds_text, sound_known, sound_record, sound_h, sound_symbols, sound_bytes, sound_holds}
use Rattle.sound.specs.declared.records.Roll.{Roll}
use Rattle.store.specs.Paper.Stored.{packed_into}
use Rattle.roll.specs.Paper.Operations.{pack_says, pack_roll, Packing, Unpacking}
use Rattle.roll.specs.Laws.Accepting.{Packs, packs_accepted, accepted_packs, Unpacks, unpacks_accepted}

-- ---- a packed text

-- packing makes it so
pub packed_holds : (t : Table) (text buf : List ℕ) → Packs t text buf → Holds (record_of t text) (packed_into t.code.k (symbols_for t text) buf) text
packed_holds t text buf p =
    let k : ℕ = t.code.k in
    let w : Width k = code_width t.code (table_code t p.good) in
    let row : List ℕ = symbols_for t text in
    let n : ℕ = bytes_for k (length row) in
    let e : length (bytes_of k row) ≡ n = bytes_length w row in
    let within : n ≤ length buf = room_bytes w (length row) (length buf) p.fits in
    let same : length (bytes_of k row ++ drop n buf) ≡ length buf = simp (length-append, length-drop) (omega arith) in
    record {
      good = p.good;
      known = p.known;
      is = refl;
      fits = rw same p.fits;
      bytes = sym (take_at (bytes_of k row) (drop n buf) n e);
    }

module _ (t : Table) (text buf : List ℕ) (p : Packs t text buf) where
  pub packed_sound : Sound (record_of t text) (packed_into t.code.k (symbols_for t text) buf)
  packed_sound = holds_sound (packed_holds t text buf p)

  pub unpack_pack : text_of (record_of t text) (packed_into t.code.k (symbols_for t text) buf) ≡ text
  unpack_pack = holds_text (packed_holds t text buf p)

-- ---- an unpacked roll

pub record Repacks (r : Roll) (buf text : List ℕ) : Type 0 where
  pub known : InTable (characters r.table) text
  pub is : record_of r.table text ≡ r
  pub symbols : symbols_for r.table text ≡ take r.h (symbols_of (width_of r) buf)
  pub bytes : bytes_of (width_of r) (symbols_for r.table text) ≡ take (bytes_for (width_of r) r.h) buf
  pub again : (buf2 : List ℕ) → r.h ≤ room (width_of r) (length buf2) → Accepted (pack_says r.table text buf2)

module _ {r : Roll} {buf : List ℕ} (held : Held r buf) (bytes : Below 256 buf) where
  pub pack_unpack : Repacks r buf (text_of r buf)
  pack_unpack =
      record {
        known = sound_known held;
        is = sound_record held;
        symbols = sound_symbols held;
        bytes = sound_bytes held bytes;
        again = λ buf2 h. packs_accepted r.table (text_of r buf) buf2 (record { good = held.sound.table; known = sound_known held; fits = rw (sound_h held) h });
      }

  -- into the buffer itself: it stays as it is
  pub pack_again : packed_into (width_of r) (symbols_for r.table (text_of r buf)) buf ≡ buf
  pack_again =
      ap₂ (λ (a : List ℕ) (h : ℕ). a ++ drop (bytes_for (width_of r) h) buf) (sound_bytes held bytes) (sound_h held)
      ∙ take-append-drop (bytes_for (width_of r) r.h) buf

-- ---- sound: it holds some text, which is the only one (`holds_one`)

pub sound_packed : (r : Roll) (buf : List ℕ) → length r.table.places ≡ 256 → Below 256 buf → Sound r buf ↔ ((text : List ℕ) × Holds r buf text)
sound_packed r buf long bytes = (λ s. (text_of r buf, sound_holds (record { sound = s; places = long }) bytes), λ p. holds_sound p.1)

-- ---- the operations: unpacking gives the text, and unpacking what was packed gives back what was packed

module _ (r : Roll) (buf : List ℕ) (start end : ℕ) (out : List ℕ) where
  -- unpack, where it accepts, gives the characters of the range
  pub unpacks_range : {answer : Result (Unit {0}) Refusal} {after : List ℕ} → Unpacking r buf start end out answer after → Unpacks r buf start end out
      → (answer ≡ Ok tt) × (after ≡ run (text_of r buf) start end ++ drop (end - start) out)
  unpacks_range {answer} {after} p u =
      let e = unpacks_accepted r buf start end out u in
      (says_one answer (Ok tt) (p.says ∙ e), p.leaves ∙ accepted_leaves e _ _)

-- the whole text
pub unpacks_text : {r : Roll} {buf : List ℕ} (out : List ℕ) → Sound r buf → r.n ≤ length out → {answer : Result (Unit {0}) Refusal} {after : List ℕ}
    → Unpacking r buf 0 r.n out answer after → (answer ≡ Ok tt) × (after ≡ text_of r buf ++ drop r.n out)
unpacks_text {r} {buf} out s h p =
    let q = unpacks_range r buf 0 r.n out p (record { sound = s; ordered = omega arith; inside = le_refl r.n; fits = omega arith }) in
    let e : r.n - 0 ≡ r.n = sub-zero r.n in
    let f : take r.n (text_of r buf) ≡ text_of r buf = take_all r.n (text_of r buf) (le_of_eq (text_length s)) in
    (q.0, q.1 ∙ ap (λ (n : ℕ). take n (text_of r buf) ++ drop n out) e ∙ ap (λ (l : List ℕ). l ++ drop r.n out) f)

-- pack, if it accepts, leaves a sound roll with that text
pub packing_sound : {t : Table} {text buf : List ℕ} {q : Roll} {after : List ℕ} → Packing t text buf (Ok q) after
    → (q ≡ record_of t text) × Sound q after × (text_of q after ≡ text)
packing_sound {t} {text} {buf} {q} {after} p =
    let (e, roll) = ok_accepted (pack_roll t text buf) p.says refl in
    let packs = accepted_packs t text buf e in
    let a : q ≡ record_of t text = roll ∙ accepted_leaves e _ _ in
    let b : after ≡ packed_into t.code.k (symbols_for t text) buf = p.leaves ∙ accepted_leaves e _ _ in
    (a, rw (a, b) (packed_sound t text buf packs), rw (a, b) (unpack_pack t text buf packs))

-- and unpack then gives that text
pub packing_unpacking : {t : Table} {text buf : List ℕ} {q : Roll} {after : List ℕ} → Packing t text buf (Ok q) after → (out : List ℕ) → length text ≤ length out
    → {answer : Result (Unit {0}) Refusal} {now : List ℕ} → Unpacking q after 0 (length text) out answer now → (answer ≡ Ok tt) × (now ≡ text ++ drop (length text) out)
packing_unpacking {t} {text} {buf} {q} {after} p out h {answer} {now} u =
    let (a, s, e) = packing_sound p in
    let n : q.n ≡ length text = ap (λ (x : Roll). x.n) a in
    let x = unpacks_text out s (rw n h) (subst (λ (m : ℕ). Unpacking q after 0 m out answer now) (sym n) u) in
    (x.0, x.1 ∙ ap₂ (λ (x : List ℕ) (m : ℕ). x ++ drop m out) e n)
