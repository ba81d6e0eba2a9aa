-- `store::words::first_foreign` meets its contract: the position in the rest of the text, or the rest's length.
use Rattle.std.proofs.Common.{◌≡◌, sym, ap, ◌∙◌, ℕ, ◌+◌, ◌-◌, ◌≤◌, ◌<◌, List, Option, Bool, cond, ltb, length, take, drop, length-drop, one-add, lt-ltb, le-ltb, None, Some, arith, rules, tests}
use Rattle.std.proofs.Math.Decide.{dec_lt}
use Rattle.std.proofs.lemmas.Iterator.{YieldsList-from_slice}
use Rattle.std.proofs.lemmas.Iterator.Search.{position_from_yields_List}
use Rattle.std.proofs.lemmas.List.Recursion.{is_position_or_len}
use Rattle.std.specs.List.{position}
use lib.Seq.{take_all}
use Rattle.ground.specs.Paper.Rows.{first_where}
use Rattle.ground.specs.Laws.Rows.{first_none, first_within}
use Rattle.store.specs.Helpers.Words.{absent, next_foreign}
use Rattle.store.proofs.words.first_foreign.Goals as goal

rest : (n : ℕ) (row : List ℕ) → take (length row - n) (drop n row) ≡ drop n row
rest n row = take_all (length row - n) (drop n row) (omega (arith, length-drop n row))

module _ (picks : ℕ → Bool) (row : List ℕ) where
  by_place : position picks row ≡ cond (ltb (first_where picks row) (length row)) (Some (first_where picks row)) None
  unfolding first_where
  by_place =
      ap (λ (i : ℕ). cond (ltb i (length row)) (Some i) None)
      (sym (is_position_or_len (first_where picks) picks (first_none picks) (λ x xs. ap (cond (picks x) 0) (sym (one-add (first_where picks xs)))) row))

  place_some : {i : ℕ} → position picks row ≡ Some i → (i ≡ first_where picks row) × (i < length row)
  place_some {i} is =
      elim (dec_lt (first_where picks row) (length row)) [
        | yes h ↦
            let e : Some i ≡ Some (first_where picks row) = sym is ∙ by_place ∙ rw (lt-ltb (first_where picks row) (length row) h) in
            let f : i ≡ first_where picks row = cc in
            (f, omega arith)
        | no h ↦ let e : Some i ≡ None = sym is ∙ by_place ∙ rw (le-ltb (first_where picks row) (length row) (omega arith)) in cc
      ]

  place_none : position picks row ≡ None → length row ≡ first_where picks row
  place_none is =
      elim (dec_lt (first_where picks row) (length row)) [
        | yes h ↦ let e : None ≡ Some (first_where picks row) = sym is ∙ by_place ∙ rw (lt-ltb (first_where picks row) (length row) h) in cc
        | no h ↦ omega (arith, first_within picks row)
      ]

-- what the position of the first absent character in the rest of a text says
module _ (lengths text : List ℕ) {from : ℕ} {found : Option ℕ} (within : from ≤ length text) (is : found ≡ position (absent lengths) (drop from text)) where
  here : {i : ℕ} → found ≡ Some i → (from + i ≡ next_foreign lengths text from) × (from + i < length text)
  here e =
      let (f, h) = place_some (absent lengths) (drop from text) (sym is ∙ e) in
      (ap (λ (i : ℕ). from + i) f, omega (arith, h, length-drop from text))

  nowhere : found ≡ None → next_foreign lengths text from ≡ length text
  nowhere e = omega (arith, within, length-drop from text, place_none (absent lengths) (drop from text) (sym is ∙ e))

pub returns-in_err-i : goal.returns-in_err-i
returns-in_err-i c =
    let picks : ℕ → Bool = absent c.args.words.now.lengths in
    let e : c.position.result ≡ position picks (drop c.args.from c.args.text.now)
    = position_from_yields_List picks _ _ c.position.result c.position.ensures.ran (YieldsList-from_slice _ c.iter.ensures.rest) (λ x b q k. search (rules, tests))
    ∙ ap (position picks) (rest c.args.from c.args.text.now) in
    rw c.from_residual.ensures (nowhere c.args.words.now.lengths c.args.text.now c.requires e c.in_err-i.was)

pub returns : goal.returns
returns c =
    let picks : ℕ → Bool = absent c.args.words.now.lengths in
    let e : c.position.result ≡ position picks (drop c.args.from c.args.text.now)
    = position_from_yields_List picks _ _ c.position.result c.position.ensures.ran (YieldsList-from_slice _ c.iter.ensures.rest) (λ x b q k. search (rules, tests))
    ∙ ap (position picks) (rest c.args.from c.args.text.now) in
    here c.args.words.now.lengths c.args.text.now c.requires e c.in_ok-i.was
