-- `frames::read_frames::read_frames` meets its contract: the first line, and then the others.
use Rattle.std.proofs.Common.{◌≡◌, refl, sym, subst, ◌∙◌, List, ℕ, ◌-◌, length, take, drop, length-drop, length-take-le, take_all, le_of_eq, Ok, Err, Result}
use Rattle.std.proofs.lemmas.Result.{err_from_is_err_and}
use Rattle.ground.specs.Paper.Answers.{number_of, value_of}
use Rattle.ground.specs.Paper.Refusals.{refused}
use Rattle.ground.specs.Laws.Answers.{ok_accepted, err_refused}
use Rattle.ground.specs.Laws.Refusals.{Accepted, accepted_leaves}
use Rattle.ground.specs.declared.refusal.Refusal.{Refusal}
use Rattle.symbols.specs.Helpers.Widths.{Width}
use Rattle.sound.specs.declared.records.Roll.{Roll}
use Rattle.frames.specs.Paper.Frames.{line_of, rest_of}
use Rattle.frames.specs.Paper.Operations.{first_says, first_roll, ReadingFirst, record_of_text}
use Rattle.frames.specs.Helpers.Lines.{LineEnds}
use Rattle.frames.specs.Helpers.Reading.{ReadingRest}
use Rattle.frames.specs.Laws.Operations.{first_width, read_refused, read_rest, read_yes}
use Rattle.frames.proofs.read_frames.read_frames.Goals as goal

module _ (text : List ℕ) {from : ℕ} (ends : LineEnds text from) where
  -- what the first line says
  first_err : {e : Refusal} → ReadingFirst (take from text) (Err e) → first_says (line_of text) ≡ refused (number_of e) (value_of e)
  first_err {e} f = let g = subst (λ (line : List ℕ). ReadingFirst line (Err e)) ends.line f in err_refused {r = Err e} (first_roll (line_of text)) g.says refl

  first_ok : {roll : Roll} → ReadingFirst (take from text) (Ok roll) → Accepted (first_says (line_of text)) × (roll ≡ record_of_text text)
  first_ok {roll} f =
      let g = subst (λ (line : List ℕ). ReadingFirst line (Ok roll)) ends.line f in
      let (a, e) = ok_accepted {r = Ok roll} (first_roll (line_of text)) g.says refl in
      (a, e ∙ accepted_leaves a _ _)

  width : {roll : Roll} → ReadingFirst (take from text) (Ok roll) → Width roll.table.code.k
  width f = let (a, e) = first_ok f in subst (λ (r : Roll). Width r.table.code.k) (sym e) (first_width _ a)

  -- the others
  rest : {roll : Roll} {buf after : List ℕ} {a : Result (Unit {0}) Refusal} → ReadingFirst (take from text) (Ok roll) → ReadingRest roll (take (length text - from) (drop from text)) buf a after
      → ReadingRest (record_of_text text) (rest_of text) buf a after
  rest {roll} {buf} {after} {a} f p =
      let r : take (length text - from) (drop from text) ≡ rest_of text = take_all _ (drop from text) (le_of_eq (length-drop from text)) ∙ ends.rest in
      subst (λ (q : Roll). ReadingRest q (rest_of text) buf a after) (first_ok f).1 (subst (λ (l : List ℕ). ReadingRest roll l buf a after) r p)

pub slice_bounds-read_first-end : goal.slice_bounds-read_first-end
slice_bounds-read_first-end c = sym (length-take-le _ _ c.line_end-from.ensures.within)

pub returns-in_err-roll : goal.returns-in_err-roll
returns-in_err-roll c =
    let p = err_from_is_err_and c.from_residual.result c.from_residual.ensures.1 in
    rw (p.1, p.2) (read_refused (first_err c.args.text.now c.line_end-from.ensures c.in_err-roll.ensures))

pub read_rest-requires : goal.read_rest-requires
read_rest-requires c = width c.args.text.now c.line_end-from.ensures c.in_ok-roll.ensures

pub returns-in_err-read_rest : goal.returns-in_err-read_rest
returns-in_err-read_rest c =
    let p = err_from_is_err_and c.from_residual-in_err-read_rest.result c.from_residual-in_err-read_rest.ensures.1 in
    let text = c.args.text.now in
    let ends = c.line_end-from.ensures in
    let f = c.in_ok-roll.ensures in
    rw (p.1, p.2) (read_rest (first_ok text ends f).0 (rest text ends f c.in_err-read_rest.ensures))

pub returns : goal.returns
returns c =
    let text = c.args.text.now in
    let ends = c.line_end-from.ensures in
    let f = c.in_ok-roll.ensures in
    read_yes (first_ok text ends f).0 (rest text ends f c.in_ok-read_rest.ensures) (first_ok text ends f).1
