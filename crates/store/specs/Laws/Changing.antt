-- A run of a sound roll and a text that is to replace it: what does not fit, and what replacing asks.
use Rattle.std.specs.Prelude.{◌≡◌, List, ℕ, ◌+◌, ◌-◌, ◌≤◌, ◌<◌, ◌*◌, length, take, drop}
use Rattle.std.proofs.Common.{sym, ap, ◌∙◌, arith, length-drop, length-take-le}
use Rattle.std.proofs.Math.Decide.{dec_lt}
use Rattle.ground.specs.Helpers.Bound.{limit_bound}
use Rattle.ground.specs.Laws.Limit.{limit_fits}
use Rattle.stopper.specs.Paper.Table.{characters}
use Rattle.stopper.specs.declared.code.Code.{Code}
use Rattle.symbols.specs.Paper.Symbols.{room}
use Rattle.symbols.specs.Laws.Sizes.{room_limit}
use Rattle.texts.specs.Paper.Directory.{entries}
use Rattle.texts.specs.Paper.Edited.{edited}
use Rattle.sound.specs.Paper.Roll.{text_row, text_of}
use Rattle.sound.specs.Laws.Sound.{sound_code}
use Rattle.sound.specs.Laws.Holding.{sound_h}
use Rattle.sound.specs.declared.records.Roll.{Roll}
use Rattle.store.specs.Paper.Fitting.{first_over}
use Rattle.store.specs.Helpers.Measured.{Spelled}
use Rattle.store.specs.Helpers.Replacing.{Located, Replaceable}
use Rattle.store.specs.Laws.Fitting.{over_within, over_fits, over_all}
use Rattle.store.specs.Laws.Words.{row_count}
use Rattle.store.specs.Laws.Editing.{edited_over_text, edited_over_tail}
use Rattle.store.specs.Laws.Located.{first_is, size, run_ordered, tail, run_inside, count_after}
use Rattle.store.specs.declared.replace.Run.{Run}

module _ {r : Roll} {buf dir : List ℕ} {x : Run} (p : Located r buf dir x) where
  abbrev c : Code
  c = r.table.code

  abbrev l : List ℕ
  l = characters r.table

  abbrev old : List ℕ
  old = text_of r buf

  abbrev whole : ℕ
  whole = room c.k (length buf)

  pub first_room : x.first ≤ whole
  first_room = omega (arith, run_ordered p, run_inside p, p.held.sound.fits)

  before : x.start ≤ length old
  before = omega (arith, size p, p.ordered, p.inside)

  -- no number is great
  whole_few : whole ≤ limit_bound
  whole_few = omega (arith, room_limit c.k (length buf), limit_fits)

  n_few : r.n ≤ limit_bound
  n_few = omega (arith, size p, row_count c (sound_code p.held.sound) l old, sound_h p.held, p.held.sound.fits, whole_few)

  module _ (text : List ℕ) where
    abbrev new : List ℕ
    new = edited old x.start x.end text

    -- a character of the text put in does not fit
    module _ {upto : ℕ} (u : upto ≡ first_over c l (whole - x.first) text) (h : upto < length text) where
      pub over_text : x.start + upto ≡ first_over c l whole new
      over_text =
          let e : upto ≡ first_over c l (whole - length (text_row c l (take x.start old))) text = u ∙ ap (λ (n : ℕ). first_over c l (whole - n) text) (first_is p) in
          sym (edited_over_text old x.start x.end text c l whole before (omega (arith, first_is p, first_room)) (omega arith) ∙ ap (λ (n : ℕ). x.start + n) (sym e))

      pub over_text_within : x.start + upto < length new
      over_text_within = omega (arith, count_after p text)

      -- those before it fit, and each takes a symbol at least
      pub over_text_few : x.start + upto ≤ 2 * limit_bound
      over_text_few =
          let n : ℕ = first_over c l (whole - x.first) text in
          let many = row_count c (sound_code p.held.sound) l (take n text) in
          omega (arith, length-take-le n text (omega arith), many, over_fits c l (whole - x.first) text, whole_few, n_few, p.ordered, p.inside)

  -- it fits, and what stands behind it
  module _ {lengths words text : List ℕ} {taken : ℕ} (s : Spelled r.table lengths words text taken) (enough : x.first + taken ≤ whole) {left : ℕ} (rest : left ≡ whole - (x.first + taken)) where
    abbrev behind : ℕ
    behind = first_over c l left (drop x.end old)

    pub count_few : x.start + length text + (r.n - x.end) ≤ 3 * limit_bound
    count_few = omega (arith, s.count, row_count c (sound_code p.held.sound) l text, whole_few, n_few, p.ordered, p.inside)

    over_is : x.start + length text + behind ≡ first_over c l whole (new text)
    over_is =
        let e : left ≡ whole - length (text_row c l (take x.start old)) - length (text_row c l text) = omega (arith, rest, first_is p, s.count) in
        ap (λ (n : ℕ). x.start + length text + first_over c l n (drop x.end old)) e
        ∙ sym (edited_over_tail old x.start x.end text c l whole before (omega (arith, first_is p, first_room)) (omega (arith, first_is p, s.count)))

    -- the tail does not fit
    module _ (short : left < r.h - x.last) {over : ℕ} (o : over ≡ x.end + behind) where
      behind_within : behind < length (drop x.end old)
      behind_within =
          elim (dec_lt behind (length (drop x.end old))) [
            | yes q ↦ q
            | no q ↦ absurd (omega (arith, tail p, (over_all c l left (drop x.end old)).0 (omega (arith, over_within c l left (drop x.end old)))))
          ]

      pub over_tail : x.start + length text + (over - x.end) ≡ first_over c l whole (new text)
      over_tail = let e : over - x.end ≡ behind = omega arith in ap (λ (n : ℕ). x.start + length text + n) e ∙ over_is

      pub over_tail_within : x.start + length text + (over - x.end) < length (new text)
      over_tail_within = omega (arith, behind_within, length-drop x.end old, size p, count_after p text)

    -- it does
    module _ (room_enough : r.h - x.last ≤ left) where
      pub over_none : first_over c l whole (new text) ≡ length (new text)
      over_none =
          let e : behind ≡ length (drop x.end old) = (over_all c l left (drop x.end old)).1 (omega (arith, tail p)) in
          sym over_is ∙ omega (arith, e, length-drop x.end old, size p, count_after p text)

      pub replaceable : entries (x.start + length text + (r.n - x.end)) ≤ length dir → Replaceable r lengths words buf dir x text taken
      replaceable k = record { located = p; spelled = s; fits = omega (arith, first_room); listed = k }
