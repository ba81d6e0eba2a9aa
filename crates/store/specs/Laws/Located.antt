-- A run of a sound roll: where its symbols are, and what stands behind it.
use Rattle.std.specs.Prelude.{◌≡◌, List, ℕ, ◌+◌, ◌-◌, ◌≤◌, length, take, drop}
use Rattle.std.proofs.Common.{sym, ap, ◌∙◌, arith, take-append-drop}
use Rattle.stopper.specs.Paper.Table.{characters}
use Rattle.stopper.specs.declared.code.Code.{Code}
use Rattle.texts.specs.Paper.Edited.{edited}
use Rattle.texts.specs.Laws.Edited.{edited_length}
use Rattle.sound.specs.Paper.Roll.{text_row, text_of}
use Rattle.sound.specs.Laws.Texts.{length_parts, length_up}
use Rattle.sound.specs.Laws.Sound.{text_length}
use Rattle.sound.specs.Laws.Holding.{sound_h}
use Rattle.sound.specs.Laws.Lengths.{start_text}
use Rattle.sound.specs.declared.records.Roll.{Roll}
use Rattle.store.specs.Helpers.Replacing.{Located}
use Rattle.store.specs.declared.replace.Run.{Run}

module _ {r : Roll} {buf dir : List ℕ} {x : Run} (p : Located r buf dir x) where
  abbrev c : Code
  c = r.table.code

  abbrev l : List ℕ
  l = characters r.table

  abbrev old : List ℕ
  old = text_of r buf

  pub first_is : x.first ≡ length (text_row c l (take x.start old))
  first_is = p.from ∙ start_text p.held x.start

  pub last_is : x.last ≡ length (text_row c l (take x.end old))
  last_is = p.upto ∙ start_text p.held x.end

  pub size : length old ≡ r.n
  size = text_length p.held.sound

  pub within : x.end ≤ length old
  within = omega (arith, size, p.inside)

  pub run_ordered : x.first ≤ x.last
  run_ordered = omega (arith, first_is, last_is, length_up c l old x.start x.end p.ordered)

  -- the symbols behind it
  pub tail : x.last + length (text_row c l (drop x.end old)) ≡ r.h
  tail =
      ap (λ (n : ℕ). n + length (text_row c l (drop x.end old))) last_is
      ∙ sym (length_parts c l (take x.end old) (drop x.end old))
      ∙ ap (λ (t : List ℕ). length (text_row c l t)) (take-append-drop x.end old)
      ∙ sound_h p.held

  pub run_inside : x.last ≤ r.h
  run_inside = omega (arith, tail)

  -- the characters that there are with a text in its place
  pub count_after : (text : List ℕ) → length (edited old x.start x.end text) ≡ x.start + length text + (r.n - x.end)
  count_after text = edited_length old x.start x.end text p.ordered within ∙ ap (λ (n : ℕ). x.start + length text + (n - x.end)) size
