-- Each operation is accepted exactly if: its refusals put in positive words.
use Rattle.std.specs.Prelude.{◌≡◌, ◌↔◌, List, ℕ, ◌≤◌, T, eqb, length}
use Rattle.std.proofs.Common.{le-ltb, ltb-false, eq-eqb, eqb-true}
use Rattle.std.proofs.lemmas.Bool.{not-false}
use Rattle.ground.specs.Paper.Limit.{limit}
use Rattle.ground.specs.Laws.Refusals.{Accepted, accepted_none}
use Rattle.ground.specs.Laws.Tests.{yes_true, true_yes}
use Rattle.stopper.specs.Paper.Table.{good_width}
use Rattle.choosing.specs.Paper.Operations.{count_rows, count_says, choose_rows, choose_says}

-- count: there are 256 counts, and the text is within the limit
pub counts_is : (text counts : List ℕ) → ((length counts ≡ 256) × (length text ≤ limit)) ↔ Accepted (count_says text counts)
unfolding count_says
counts_is text counts = (
  λ p. rw (eq-eqb _ _ p.0, le-ltb _ _ p.1),
  λ e. let (a, (b, z)) = accepted_none (count_rows text counts) tt e in (eqb-true _ _ (not-false (eqb (length counts) 256) a), ltb-false _ _ b),
)

-- choose: the width is good, and there are 256 counts
pub chooses_is : (k : ℕ) (counts : List ℕ) → (T (good_width k) × (length counts ≡ 256)) ↔ Accepted (choose_says k counts)
unfolding choose_says
chooses_is k counts = (
  λ p. rw (yes_true (good_width k) p.0, eq-eqb _ _ p.1),
  λ e. let (a, (b, z)) = accepted_none (choose_rows k counts) tt e in (true_yes _ (not-false (good_width k) a), eqb-true _ _ (not-false (eqb (length counts) 256) b)),
)
