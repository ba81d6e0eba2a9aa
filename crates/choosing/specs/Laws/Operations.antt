-- The promises: a law for a refused call and one for an accepted call.
use Rattle.std.specs.Prelude.{◌≡◌, refl, List, ℕ, ◌<◌, T, length, Result, Ok, Err}
use Rattle.std.specs.Result.{result_unwrap_or}
use Rattle.std.proofs.Math.Path.{sym}
use Rattle.std.proofs.Common.{ap, ap₂, ◌∙◌}
use Rattle.ground.specs.Paper.Refusals.{refused}
use Rattle.ground.specs.Paper.Rows.{tab, padded}
use Rattle.ground.specs.Paper.Answers.{number_of, value_of}
use Rattle.ground.specs.Laws.Answers.{ok_accepted, err_refused}
use Rattle.ground.specs.Laws.Refusals.{Accepted, accepted_leaves}
use Rattle.ground.specs.Laws.Rows.{tab_at}
use Rattle.ground.specs.declared.refusal.Refusal.{Refusal}
use Rattle.stopper.specs.Paper.Table.{good_width}
use Rattle.stopper.specs.declared.code.Code.{Code}
use Rattle.choosing.specs.Paper.Choosing.{counts_of, counted, total, chosen, chosen_table}
use Rattle.choosing.specs.Paper.Operations.{count_says, Counting, choose_says, no_choice, choose_table, choose_total, choice_of, Choosing}
use Rattle.choosing.specs.Helpers.Answers.{count_in, ranking_of, best_of}
use Rattle.choosing.specs.Laws.Choosing.{ranked_ext, chosen_ext, fewest_ext}
use Rattle.choosing.specs.Laws.Accepting.{chooses_is}
use Rattle.choosing.specs.declared.choose.Choice.{Choice}
use Rattle.choosing.specs.declared.ranking.Ranking.{Ranking}
use Rattle.choosing.specs.declared.ranking.Best.{Best}

-- ---- count a text

module _ {text counts : List ℕ} where
  pub count_refused : {e : Refusal} → count_says text counts ≡ refused (number_of e) (value_of e) → Counting text counts (Err e) counts
  count_refused e = record { says = sym e; leaves = rw e }

  pub count_yes : {after : List ℕ} → Accepted (count_says text counts) → after ≡ counts_of text → Counting text counts (Ok tt) after
  count_yes e p = record { says = sym e; leaves = rw e p }

-- ---- choose

-- what is ranked is what the bytes count as
module _ (counts : List ℕ) {raised : List ℕ} (e : raised ≡ tab (counted counts) 0 256) where
  same : (b : ℕ) → b < 256 → count_in raised b ≡ counted counts b
  unfolding count_in
  same b h = rw e (tab_at (counted counts) 256 b h)

  pub raised_ranking : ranking_of (count_in raised) ≡ ranking_of (counted counts)
  raised_ranking = ap {B = Ranking} (λ (l : List ℕ). record { sigma = length l; places = padded 256 l }) (ranked_ext (count_in raised) (counted counts) same)

  pub raised_best : (k : ℕ) → T (good_width k) → best_of k (count_in raised) ≡ best_of k (counted counts)
  raised_best k g =
      ap₂ {C = Best} (λ (c : Code) (n : ℕ). record { code = c; total = n })
      (chosen_ext (count_in raised) (counted counts) same k g)
      (fewest_ext (count_in raised) (counted counts) same k g)

module _ {k : ℕ} {counts : List ℕ} where
  pub choose_refused : {e : Refusal} → choose_says k counts ≡ refused (number_of e) (value_of e) → Choosing k counts (Err e)
  choose_refused e = record { says = rw e }

  pub choose_yes : {ranking : Ranking} {best : Best} → Accepted (choose_says k counts) → ranking ≡ ranking_of (counted counts) → best ≡ best_of k (counted counts)
      → Choosing k counts (Ok (record { table = record { code = best.code; sigma = ranking.sigma; places = ranking.places }; total = best.total }))
  unfolding chosen_table
  choose_yes e p q = rw (p, q) (record { says = rw e })

-- what an accepted call was lent, and what it answers
module _ {k : ℕ} {counts : List ℕ} {c : Choice} (p : Choosing k counts (Ok c)) where
  answered : Accepted (choose_says k counts) × (c ≡ choice_of k counts)
  answered = ok_accepted (choice_of k counts) p.says refl

  pub chosen_width : T (good_width k)
  chosen_width = ((chooses_is k counts).1 answered.0).0

  pub lent_long : length counts ≡ 256
  lent_long = ((chooses_is k counts).1 answered.0).1

  pub chosen_table_lem : c.table ≡ chosen_table k (counted counts)
  chosen_table_lem = ap (λ (x : Choice). x.table) answered.1 ∙ accepted_leaves answered.0 _ _

  pub chosen_total : c.total ≡ total (chosen k (counted counts)) (counted counts)
  chosen_total = ap (λ (x : Choice). x.total) answered.1 ∙ accepted_leaves answered.0 _ _

-- what is answered, or `no_choice` beside a refusal
module _ {k : ℕ} {counts : List ℕ} where
  pub choosing_choice : {r : Result Choice Refusal} → Choosing k counts r → result_unwrap_or r (no_choice k) ≡ choice_of k counts
  choosing_choice {r = Ok c} p = (answered p).1
  choosing_choice {r = Err e} p = rw (err_refused (choice_of k counts) p.says refl)

  pub choosing_table : {r : Result Choice Refusal} → Choosing k counts r → (result_unwrap_or r (no_choice k)).table ≡ choose_table k counts
  choosing_table p = ap (λ (x : Choice). x.table) (choosing_choice p)

  pub choosing_total : {r : Result Choice Refusal} → Choosing k counts r → (result_unwrap_or r (no_choice k)).total ≡ choose_total k counts
  choosing_total p = ap (λ (x : Choice). x.total) (choosing_choice p)
