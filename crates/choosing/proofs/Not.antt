-- What the promises forbid, whatever the text and the counts.
use mathlib.Core.Path.{◌≡◌, sym, ap, ◌∙◌}
use mathlib.Core.Logic.{inl, ⊎_elim}
use mathlib.Core.List.Memᴰ
use mathlib.Core.List.{List, [], ◌∷◌}
use Prim.Native.Nat.{ℕ, suc, ◌*◌, ◌≤◌, ◌<◌}
use native.Mathlib.Nat.{mul-le-mul_right, suc-mul}
use native.Mathlib.Omega.{arith}
use lib.Dec.{T}
use lib.ListN.{get_or}
use Rattle.ground.specs.Laws.Refusals.{accepted_leaves}
use Rattle.ground.specs.Laws.Rows.{tab_at}
use Rattle.ground.specs.Laws.Tests.{by_value, true_yes}
use Rattle.std.specs.Prelude.{Ok}
use Rattle.stopper.specs.Paper.Table.{has, length_of, good_code, characters}
use Rattle.stopper.specs.Laws.Table.{length_place}
use Rattle.stopper.specs.Laws.Characters.{◌∈◌, has_mem}
use Rattle.stopper.specs.declared.code.Code.{Code}
use Rattle.stopper.specs.declared.table.Table.{Table}
use Rattle.choosing.specs.Paper.Ranking.{ranked}
use Rattle.choosing.specs.Paper.Choosing.{occurs, counts_of, twelve, counted, total_from, total, chosen, chosen_table}
use Rattle.choosing.specs.Paper.Operations.{Counting, Choosing}
use Rattle.choosing.specs.Laws.Raised.{twelve_byte, occurs_not, counted_lower, counted_lent, counted_raised, chosen_row}
use Rattle.choosing.specs.Laws.Choosing.{chosen_good, total_more}
use Rattle.choosing.specs.Laws.Ranking.{ranking}
use Rattle.choosing.specs.Laws.Operations.{chosen_width, chosen_table_lem, chosen_total}
use Rattle.choosing.specs.declared.choose.Choice.{Choice}

-- counting that raises: one of the twelve that the text does not hold is counted 0
pub count_not_raised : {text counts after : List ℕ} {b : ℕ} → Counting text counts (Ok tt) after → b ∈ twelve → (b ∈ text → ⊥) → 0 < get_or after b 0 → ⊥
unfolding counts_of
count_not_raised {text} {counts} {after} {b} p m n h =
    let e : get_or after b 0 ≡ occurs text b
    = ap (λ (l : List ℕ). get_or l b 0) (p.leaves ∙ accepted_leaves (sym p.says) _ _) ∙ tab_at (occurs text) 256 b (twelve_byte b m) in
    by_value (has b text) (λ t. n (has_mem text b (true_yes _ t))) (λ t. omega (arith, e, occurs_not b text t))

-- ---- totals over other counts: nowhere less and somewhere more give a greater total

module _ (c : Code) (good : T (good_code c)) (f g : ℕ → ℕ) (more : (x : ℕ) → f x ≤ g x) where
  total_above : {b : ℕ} → f b < g b → (r : ℕ) {l : List ℕ} → b ∈ l → total_from c f r l < total_from c g r l
  unfolding total_from
  total_above h r {l = []} m = absurd (Memᴰ.not-nil m)
  total_above {b} h r {l = x ∷ l} m =
      ⊎_elim
      (λ e. omega (arith, mul-le-mul_right (length_of c r) h, suc-mul (f b) (length_of c r), length_place c good r, ap (λ (y : ℕ). f y * length_of c r) e, ap (λ (y : ℕ). g y * length_of c r) e, total_more c f g (suc r) l (λ y m. more y)))
      (λ k. omega (arith, mul-le-mul_right (length_of c r) (more x), total_above h (suc r) k))
      (Memᴰ.cases_cons m)

module _ {k : ℕ} {counts : List ℕ} {c : Choice} (p : Choosing k counts (Ok c)) where
  abbrev count : ℕ → ℕ
  count = counted counts

  abbrev code : Code
  code = chosen k count

  code_good : T (good_code code)
  code_good = chosen_good k count (chosen_width p)

  -- the answered total, and that of its table for other counts
  total_is : c.total ≡ total_from code count 0 (ranked count)
  unfolding total
  total_is = chosen_total p

  total_for_lem : (f : ℕ → ℕ) → total_from c.table.code f 0 (characters c.table) ≡ total_from code f 0 (ranked count)
  unfolding chosen_table
  total_for_lem f =
      ap (λ (t : Table). total_from t.code f 0 (characters t)) (chosen_table_lem p) ∙ ap (total_from code f 0) (chosen_row k counts)

  -- the total over the counts as they came, where one of the twelve is counted 0: it is more
  pub choose_not_as_came : {b : ℕ} → b ∈ twelve → get_or counts b 0 ≡ 0 → c.total ≡ total_from c.table.code (λ (x : ℕ). get_or counts x 0) 0 (characters c.table) → ⊥
  choose_not_as_came {b} m z e =
      let f : ℕ → ℕ = λ x. get_or counts x 0 in
      let raised : count b ≡ 1 = counted_raised counts b m z in
      omega (
        arith,
        e,
        total_is,
        total_for_lem f,
        total_above code code_good f count (counted_lower counts) {b = b} (omega (arith, z, raised)) 0 ((ranking count).all b (twelve_byte b m) (omega (arith, raised))),
      )

  -- a count that is not 0 raised too: it is less
  pub choose_not_raised_too : (f : ℕ → ℕ) → ((x : ℕ) → count x ≤ f x) → {b : ℕ} → b < 256 → 0 < get_or counts b 0 → get_or counts b 0 < f b
      → c.total ≡ total_from c.table.code f 0 (characters c.table) → ⊥
  choose_not_raised_too f more {b} h n l e =
      let as_lent : count b ≡ get_or counts b 0 = counted_lent counts b (inl n) in
      omega (
        arith,
        e,
        total_is,
        total_for_lem f,
        total_above code code_good count f more {b = b} (omega (arith, as_lent)) 0 ((ranking count).all b h (omega (arith, as_lent))),
      )
