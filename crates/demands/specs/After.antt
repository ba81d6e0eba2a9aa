-- What an accepted edit leaves of the symbols that were used, and of the buffer if an empty run takes as many symbols as before.
use Rattle.std.specs.Prelude.{◌≡◌, refl, List, [], ◌∷◌, ◌++◌, ℕ, ◌+◌, ◌-◌, ◌*◌, ◌≤◌, length, take, drop}
use Rattle.std.proofs.Common.{sym, ap, ap₂, ◌∙◌, append_assoc, add-mul, mul-le-mul_right, arith, take-append-drop, take_at, drop_at}
use Rattle.std.proofs.lemmas.List.{take-append-le}
use Rattle.ground.specs.Paper.Rows.{zeros}
use Rattle.ground.specs.Paper.Runs.{run}
use Rattle.ground.specs.Helpers.Below.{Below}
use Rattle.ground.specs.Laws.Rows.{length_zeros, zeros_append}
use Rattle.stopper.specs.Paper.Table.{characters}
use Rattle.symbols.specs.Helpers.Widths.{Width}
use Rattle.symbols.specs.Paper.Symbols.{per, bytes_for, symbols_of, bytes_of}
use Rattle.symbols.specs.Laws.Sizes.{bytes_for_enough}
use Rattle.symbols.specs.Laws.Rows.{symbols_append}
use Rattle.symbols.specs.Laws.Whole.{symbols_zeros}
use Rattle.symbols.specs.Laws.Packing.{bytes_length}
use Rattle.symbols.proofs.Laws.Packing.{symbols_bytes}
use Rattle.texts.specs.Paper.Edited.{edited}
use Rattle.sound.specs.Paper.Roll.{symbols_for, text_of}
use Rattle.sound.specs.Helpers.Held.{Held}
use Rattle.sound.specs.Laws.Sound.{sound_code, sound_width}
use Rattle.sound.specs.Laws.Texts.{text_below, length_parts}
use Rattle.sound.specs.Laws.Holding.{sound_h}
use Rattle.sound.specs.declared.records.Roll.{Roll}
use Rattle.store.specs.Paper.Stored.{bytes_after}
use Rattle.store.specs.Laws.Words.{row_count}
use Rattle.store.specs.Laws.Edited.{Edits, text_after, edit_nothing}

empty : (l : List ℕ) → length l ≡ 0 → l ≡ []
empty [] e = refl
empty (x ∷ l) e = absurd (omega arith)

take_zeros : (i n : ℕ) → i ≤ n → take i (zeros n) ≡ zeros i
take_zeros i n h =
    let parts : i + (n - i) ≡ n = omega arith in
    ap (λ (m : ℕ). take i (zeros m)) (sym parts) ∙ ap (take i) (sym (zeros_append i (n - i))) ∙ take_at (zeros i) (zeros (n - i)) i (length_zeros i)

module _ {r : Roll} {buf dir new : List ℕ} {start end : ℕ} (long : length r.table.places ≡ 256) (u : Edits r buf dir start end new) where
  abbrev k : ℕ
  k = r.table.code.k

  abbrev E : List ℕ
  E = text_after r buf start end new

  abbrev row : List ℕ
  row = symbols_for r.table E

  width : Width k
  width = sound_width u.sound

  -- symbols behind the new end, up to the old one, are 0
  pub symbols_cleared : run (symbols_of k (bytes_after r E buf)) (length row) r.h ≡ zeros (r.h - length row)
  symbols_cleared =
      let used : ℕ = bytes_for k r.h in
      let gone : ℕ = used - length (bytes_of k row) in
      let rest : List ℕ = drop (length (bytes_of k row) + gone) buf in
      let left : ℕ = bytes_for k (length row) * per k - length row in
      let all : symbols_of k (bytes_after r E buf) ≡ row ++ (zeros (left + gone * per k) ++ symbols_of k rest)
      = symbols_append width (bytes_of k row) (zeros gone ++ rest)
      ∙ ap₂ (λ (a b : List ℕ). a ++ b) (symbols_bytes width (text_below r.table.code (sound_code u.sound) (characters r.table) E)) (symbols_append width (zeros gone) rest)
      ∙ append_assoc row (zeros left) _
      ∙ ap (λ (l : List ℕ). row ++ l)
      (ap (λ (l : List ℕ). zeros left ++ (l ++ symbols_of k rest)) (symbols_zeros width gone)
      ∙ sym (append_assoc (zeros left) (zeros (gone * per k)) (symbols_of k rest))
      ∙ ap (λ (l : List ℕ). l ++ symbols_of k rest) (zeros_append left (gone * per k))) in
      let most : used ≤ length (bytes_of k row) + gone = omega arith in
      let grown : used * per k ≤ (length (bytes_of k row) + gone) * per k = mul-le-mul_right (per k) most in
      let enough : r.h - length row ≤ left + gone * per k
      = omega (arith, bytes_for_enough width r.h, bytes_for_enough width (length row), grown, add-mul (length (bytes_of k row)) gone (per k), ap (λ (n : ℕ). n * per k) (bytes_length width row)) in
      ap (λ (l : List ℕ). take (r.h - length row) (drop (length row) l)) all
      ∙ ap (take (r.h - length row)) (drop_at row (zeros (left + gone * per k) ++ symbols_of k rest) (length row) refl)
      ∙ take-append-le (r.h - length row) (zeros (left + gone * per k)) (symbols_of k rest) (rw length_zeros enough)
      ∙ take_zeros (r.h - length row) (left + gone * per k) enough

  -- an empty run in whose place nothing comes that takes a symbol: no byte differs
  pub bytes_kept : start ≡ end → length row ≡ r.h → Below 256 buf → bytes_after r E buf ≡ buf
  bytes_kept e same bytes =
      let c = r.table.code in
      let l = characters r.table in
      let old : List ℕ = text_of r buf in
      let held : Held r buf = record { sound = u.sound; places = long } in
      let none : length new ≡ 0
      = omega (
        arith,
        same,
        e,
        row_count c (sound_code u.sound) l new,
        length_parts c l (take start old) (new ++ drop end old),
        length_parts c l new (drop end old),
        length_parts c l (take end old) (drop end old),
        ap (λ (x : List ℕ). length (symbols_for r.table x)) (take-append-drop end old),
        ap (λ (n : ℕ). length (symbols_for r.table (take n old))) e,
        sound_h held,
      ) in
      ap₂ (λ (x : ℕ) (y : List ℕ). bytes_after r (edited old start x y) buf) (sym e) (empty new none) ∙ edit_nothing held bytes start
