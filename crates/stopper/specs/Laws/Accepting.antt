-- Each operation is accepted exactly if: its refusals put in positive words.
use Rattle.std.specs.Prelude.{◌≡◌, ◌↔◌, ◌&&◌, ℕ, ◌≤◌, T, leb}
use Rattle.std.proofs.Common.{le-leb, leb→le}
use Rattle.std.proofs.lemmas.Bool.{not-false}
use Rattle.std.proofs.Math.Facts.{and_yes}
use Rattle.ground.specs.Paper.Refusals.{accepted}
use Rattle.ground.specs.Laws.Refusals.{Accepted, accepted_none}
use Rattle.ground.specs.Laws.Tests.{yes_true, true_yes}
use Rattle.stopper.specs.Paper.Table.{has, characters, good_table, longest}
use Rattle.stopper.specs.Paper.Operations.{codeword_rows, codeword_says, is_one, word_in, character_rows, character_at, character_says}
use Rattle.stopper.specs.declared.table.Table.{Table}
use Rattle.stopper.specs.declared.codeword_of.Codeword.{Codeword}

-- codeword of a character: the table is good, and the character in it
pub codes_is : (t : Table) (b : ℕ) → (T (good_table t) × T (has b (characters t))) ↔ Accepted (codeword_says t b)
unfolding codeword_says
codes_is t b = (
  λ p. rw (yes_true (good_table t) p.0, yes_true (has b (characters t)) p.1),
  λ e. let (a, (f, z)) = accepted_none (codeword_rows t b) tt e in (true_yes _ (not-false (good_table t) a), true_yes _ (not-false (has b (characters t)) f)),
)

-- character of a codeword: the table is good, and at most 86 symbols are one codeword of a rank below σ
pub decodes_is : (t : Table) (w : Codeword)
    → (T (good_table t) × (w.length ≤ longest) × T (is_one t.code t.sigma (word_in w))) ↔ (character_says t w ≡ accepted (character_at t (word_in w)))
unfolding character_says
decodes_is t w = (
  λ p. rw (yes_true (good_table t) p.0, le-leb _ _ p.1, yes_true (is_one t.code t.sigma (word_in w)) p.2),
  λ e.
      let one = is_one t.code t.sigma (word_in w) in
      let (a, (b, z)) = accepted_none (character_rows t w) (character_at t (word_in w)) e in
      let (c, d) = and_yes (leb w.length longest) one (true_yes _ (not-false (leb w.length longest && one) b)) in
      (true_yes _ (not-false (good_table t) a), leb→le _ _ c, d),
)
