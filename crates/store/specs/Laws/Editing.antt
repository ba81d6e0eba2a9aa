-- An edited text: its symbols, the lengths of its codewords, and the first of its characters that does not fit.
use Rattle.std.specs.Prelude.{◌≡◌, length, take}
use Rattle.std.proofs.Common.{sym, ◌∙◌, add_assoc, arith, length-drop, length-take-le, take-add}
use Rattle.std.proofs.Math.Path.{ap, ap₂}
use mathlib.Core.List.{List, ◌++◌, map, map-append}
use Prim.Native.Nat.{ℕ, suc, ◌+◌, ◌-◌, ◌≤◌, ◌<◌}
use Rattle.std.proofs.Math.ListN.{drop}
use Rattle.ground.specs.Paper.Runs.{over}
use Rattle.ground.specs.Laws.Rows.{map_drop, map_take}
use Rattle.stopper.specs.Paper.Table.{characters, rank_in, length_of}
use Rattle.stopper.specs.declared.code.Code.{Code}
use Rattle.stopper.specs.declared.table.Table.{Table}
use Rattle.texts.specs.Paper.Directory.{start_at}
use Rattle.texts.specs.Paper.Edited.{edited}
use Rattle.sound.specs.Paper.Roll.{text_row, text_of}
use Rattle.sound.specs.Paper.Lengths.{lengths_of, lengths_for}
use Rattle.sound.specs.Helpers.Held.{Held}
use Rattle.sound.specs.Laws.Sound.{text_length}
use Rattle.sound.specs.Laws.Texts.{text_append, text_take, text_drop, length_parts}
use Rattle.sound.specs.Laws.Lengths.{start_text}
use Rattle.sound.specs.declared.records.Roll.{Roll}
use Rattle.store.specs.Paper.Fitting.{first_over}
use Rattle.store.specs.Laws.Fitting.{over_one, over_front, over_behind}

module _ (text : List ℕ) (start end : ℕ) (new : List ℕ) where
  -- the symbols put in stand in place of those of the characters taken out
  pub edited_row : (c : Code) (l : List ℕ)
      → text_row c l (edited text start end new)
      ≡ over (text_row c l text) (length (text_row c l (take start text))) (text_row c l new) (length (text_row c l (take end text)))
  edited_row c l =
      text_append c l (take start text) (new ++ drop end text)
      ∙ ap₂ ◌++◌ (sym (text_take c l text start))
      (text_append c l new (drop end text) ∙ ap (λ (x : List ℕ). text_row c l new ++ x) (sym (text_drop c l text end)))

  -- and so do the lengths of the codewords
  pub edited_lengths : (t : Table) → lengths_for t (edited text start end new) ≡ edited (lengths_for t text) start end (lengths_for t new)
  unfolding lengths_for
  edited_lengths t =
      let f : ℕ → ℕ = λ b. length_of t.code (rank_in (characters t) b) in
      map-append f (take start text) (new ++ drop end text)
      ∙ ap₂ ◌++◌ (sym (map_take f start text))
      (map-append f new (drop end text) ∙ ap (λ (x : List ℕ). map f new ++ x) (sym (map_drop f end text)))

  -- the first character that does not fit is in the text put in, or behind it
  module _ (c : Code) (l : List ℕ) (room : ℕ) (inside : start ≤ length text) (h : length (text_row c l (take start text)) ≤ room) where
    abbrev left : ℕ
    left = room - length (text_row c l (take start text))

    edited_over : first_over c l room (edited text start end new) ≡ start + first_over c l left (new ++ drop end text)
    edited_over =
        over_behind c l room (take start text) (new ++ drop end text) h
        ∙ ap (λ (n : ℕ). n + first_over c l left (new ++ drop end text)) (length-take-le start text inside)

    pub edited_over_text : first_over c l left new < length new → first_over c l room (edited text start end new) ≡ start + first_over c l left new
    edited_over_text k = edited_over ∙ ap (λ (n : ℕ). start + n) (over_front c l left new (drop end text) k)

    pub edited_over_tail : length (text_row c l (take start text)) + length (text_row c l new) ≤ room
        → first_over c l room (edited text start end new) ≡ start + length new + first_over c l (left - length (text_row c l new)) (drop end text)
    edited_over_tail k =
        edited_over
        ∙ ap (λ (n : ℕ). start + n) (over_behind c l left new (drop end text) (omega arith))
        ∙ sym (add_assoc start (length new) (first_over c l (left - length (text_row c l new)) (drop end text)))

module _ {r : Roll} {buf : List ℕ} (held : Held r buf) where
  abbrev c : Code
  c = r.table.code

  abbrev l : List ℕ
  l = characters r.table

  -- the first character from `from` on that does not fit
  pub over_from : (room from j : ℕ) → from ≤ j → j ≤ r.n → start_at (lengths_of r buf) j ≤ room + start_at (lengths_of r buf) from
      → (j < r.n → room + start_at (lengths_of r buf) from < start_at (lengths_of r buf) (suc j)) → j ≡ from + first_over c l room (drop from (text_of r buf))
  over_from room from j a b fits past =
      let text : List ℕ = text_of r buf in
      let part : (i : ℕ) → start_at (lengths_of r buf) (from + i) ≡ start_at (lengths_of r buf) from + length (text_row c l (take i (drop from text)))
      = λ i.
      start_text held (from + i)
      ∙ ap (λ (x : List ℕ). length (text_row c l x)) (take-add from i text)
      ∙ length_parts c l (take from text) (take i (drop from text))
      ∙ ap (λ (n : ℕ). n + length (text_row c l (take i (drop from text)))) (sym (start_text held from)) in
      let size : length (drop from text) ≡ r.n - from = length-drop from text ∙ ap (λ (n : ℕ). n - from) (text_length held.sound) in
      let here : from + (j - from) ≡ j = omega arith in
      let next : from + suc (j - from) ≡ suc j = omega arith in
      let e : j - from ≡ first_over c l room (drop from text)
      = over_one c l room (drop from text) (j - from) (omega arith)
      (omega (arith, part (j - from), ap (start_at (lengths_of r buf)) here))
      (λ k. omega (arith, part (suc (j - from)), ap (start_at (lengths_of r buf)) next, past (omega arith))) in
      omega arith
