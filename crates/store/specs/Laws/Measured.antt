-- What measuring a text under a table answers.
use Rattle.std.specs.Prelude.{◌≡◌, refl, ℕ, suc, ◌*◌, ◌≤◌, ◌<◌, T, Ok, Err}
use Rattle.std.proofs.Math.Path.{sym}
use Rattle.std.proofs.Common.{ap, ◌∙◌}
use mathlib.Core.List.{List, [], ◌∷◌}
use native.Mathlib.Omega.{arith}
use Rattle.std.proofs.Math.ListN.{length}
use Rattle.std.proofs.lemmas.List.{get_or-replicate}
use Rattle.ground.specs.Paper.Rows.{zeros, first_where}
use Rattle.ground.specs.Helpers.Below.{Below, none}
use Rattle.ground.specs.Laws.Rows.{below_zeros, length_zeros, first_within}
use Rattle.stopper.specs.Paper.Table.{good_table, good_code, characters, longest}
use Rattle.stopper.specs.Paper.Reading.{write}
use Rattle.stopper.specs.Laws.Table.{table_code, table_few, code_width}
use Rattle.stopper.specs.declared.table.Table.{Table}
use Rattle.texts.specs.Paper.Characters.{first_foreign}
use Rattle.texts.specs.Laws.Characters.{characters_few}
use Rattle.sound.specs.Paper.Roll.{text_row}
use Rattle.store.specs.Helpers.Words.{Spelt, upto_of, taken_of, absent, next_foreign, word_at, row_of}
use Rattle.store.specs.Helpers.Measured.{Measured}
use Rattle.store.specs.Laws.Words.{upto_le, taken_le, foreign_from, foreign_is, over_is, row_is, taken_is, words_laid}
use Rattle.store.specs.declared.measure.Misfit.TheVariants.{Foreign, Over}

module _ (t : Table) (good : T (good_table t)) (room : ℕ) where
  code : T (good_code t.code)
  code = table_code t good

  -- an empty text, under lengths that are 0
  pub measured_none : (text : List ℕ) {lengths : List ℕ} (words : List ℕ) → length text ≡ 0 → lengths ≡ zeros 256 → length words ≡ 256 * longest → Measured t room text lengths words (Ok 0)
  unfolding Measured first_foreign first_where text_row write row_of word_at zeros
  measured_none [] words e z w =
      rw z (
        record {
          known = refl;
          count = refl;
          laid = record {
            width = code_width t.code code;
            characters = length_zeros 256;
            few = below_zeros (suc longest) 256 (omega arith);
            places = w;
            symbols = λ b h. rw (get_or-replicate {A = ℕ} 256 b 0 0 h) none;
          };
          row = refl;
        },
        omega arith,
      )
  measured_none (b ∷ text) words e z w = absurd (omega arith)

  module _ {lengths words : List ℕ} (s : Spelt t.code (characters t) lengths words) {text : List ℕ} (h : Below 256 text) {upto : ℕ} (u : upto ≡ upto_of lengths room text) where
    -- the pass went to the end
    pub measured_fits : {n : ℕ} → n ≡ taken_of lengths room text → length text ≤ upto → Measured t room text lengths words (Ok n)
    unfolding Measured
    measured_fits e k =
        let v : upto_of lengths room text ≡ length text = omega (arith, u, upto_le lengths room text) in
        let f : first_where (absent lengths) text ≡ length text = omega (arith, foreign_from lengths room text, first_within (absent lengths) text) in (
          record {
            known = sym (foreign_is t.code code (characters t) lengths words s h) ∙ f;
            count = e ∙ taken_is t.code code (characters t) lengths words s h f room v;
            laid = words_laid t.code code (characters t) lengths words s (omega (arith, characters_few t, table_few t good));
            row = row_is t.code code (characters t) lengths words s h f;
          },
          omega (arith, e, taken_le lengths room text),
        )

    -- it stopped, and a foreign character was looked for from there on
    found : next_foreign lengths text upto ≡ first_where (absent lengths) text
    found = ap (next_foreign lengths text) u ∙ foreign_from lengths room text

    pub measured_foreign : {v : ℕ} → v ≡ next_foreign lengths text upto → v < length text → Measured t room text lengths words (Err (Foreign v))
    unfolding Measured
    measured_foreign e k = (e ∙ found ∙ foreign_is t.code code (characters t) lengths words s h, k)

    pub measured_over : upto < length text → length text ≤ next_foreign lengths text upto → Measured t room text lengths words (Err (Over upto))
    unfolding Measured
    measured_over k e =
        let f : first_where (absent lengths) text ≡ length text = omega (arith, found, first_within (absent lengths) text) in
        (sym (foreign_is t.code code (characters t) lengths words s h) ∙ f, u ∙ over_is t.code code (characters t) lengths words s h f room, k)
