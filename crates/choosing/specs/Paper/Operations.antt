-- The operations, in the paper's order: the refusals of each, and its promise.
use Rattle.std.specs.Prelude.{◌≡◌, not, List, [], ◌∷◌, ℕ, ltb, eqb, length, Result}
use Rattle.ground.specs.Paper.Limit.{limit}
use Rattle.ground.specs.Paper.Refusals.{Row, refuse, Outcome, accepted, judged, ◌then◌, kept}
use Rattle.ground.specs.Paper.Answers.{outcome_of}
use Rattle.ground.specs.declared.refusal.Refusal.{Refusal}
use Rattle.stopper.specs.Paper.Table.{even_code, good_width, table_of}
use Rattle.stopper.specs.declared.table.Table.{Table}
use Rattle.choosing.specs.Paper.Choosing.{counts_of, counted, total, chosen, chosen_table}
use Rattle.choosing.specs.declared.choose.Choice.{Choice}

-- ---- count a text: 2, 4

abbrev pub count_rows : List ℕ → List ℕ → List Row
count_rows text counts =
    refuse 2 (length counts) (not (eqb (length counts) 256))
    ∷ refuse 4 limit (ltb limit (length text))
    ∷ []

unfoldable pub count_says : List ℕ → List ℕ → Outcome (Unit {0})
count_says text counts = judged (count_rows text counts) tt

-- what the counts hold then
abbrev pub count_leaves : List ℕ → List ℕ → List ℕ
count_leaves text counts = kept (count_says text counts) counts (counts_of text)

pub record Counting (text counts : List ℕ) (answer : Result (Unit {0}) Refusal) (after : List ℕ) : Type 0 where
  pub says : outcome_of answer ≡ count_says text counts
  pub leaves : after ≡ count_leaves text counts

-- ---- choose: 1 (width only), 2

abbrev pub choose_rows : ℕ → List ℕ → List Row
choose_rows k counts =
    refuse 1 0 (not (good_width k))
    ∷ refuse 2 (length counts) (not (eqb (length counts) 256))
    ∷ []

-- where a table and a total stand beside a refusal: k as given, s 0, σ 0, all places 0; and the total is 0
abbrev pub no_table : ℕ → Table
no_table k = table_of (even_code k 0) []

abbrev pub no_choice : ℕ → Choice
no_choice k = record { table = no_table k; total = 0 }

unfoldable pub choose_says : ℕ → List ℕ → Outcome (Unit {0})
choose_says k counts = judged (choose_rows k counts) tt

abbrev pub choose_table : ℕ → List ℕ → Table
choose_table k counts = kept (choose_says k counts) (no_table k) (chosen_table k (counted counts))

abbrev pub choose_total : ℕ → List ℕ → ℕ
choose_total k counts = kept (choose_says k counts) 0 (total (chosen k (counted counts)) (counted counts))

abbrev pub choice_of : ℕ → List ℕ → Choice
choice_of k counts = record { table = choose_table k counts; total = choose_total k counts }

pub record Choosing (k : ℕ) (counts : List ℕ) (r : Result Choice Refusal) : Type 0 where
  pub says : outcome_of r ≡ (choose_says k counts then accepted (choice_of k counts))
