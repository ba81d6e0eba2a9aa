-- `symbols::run::all_zero` meets its contract: what `all` says of each symbol, said of the run.
use Rattle.std.proofs.Common.{◌≡◌, ◌≢◌, ℕ, zero, suc, ◌+◌, ◌-◌, ◌≤◌, ◌<◌, Bool, true, false, List, length, get_or, sym, ap, ◌∙◌, add-zero, arith, rules}
use Rattle.std.proofs.Math.Decide.{ℕ_discrete}
use Rattle.std.proofs.iter.runs.Sources.{ranges}
use Rattle.std.specs.Bool.{MatchBool}
use Rattle.ground.specs.Paper.Rows.{all_zero}
use Rattle.ground.specs.Paper.Runs.{run}
use Rattle.ground.specs.Laws.Runs.{zero_none, zero_more, zero_not}
use Rattle.symbols.specs.Paper.Symbols.{symbols_of}
use Rattle.symbols.proofs.run.all_zero.Goals as goal

module _ (row : List ℕ) (to : ℕ) (inside : to ≤ length row) where
  -- n symbols from i on
  all_are : (n i : ℕ) → i + n ≡ to → ((j : ℕ) → i ≤ j → j < to → get_or row j 0 ≡ 0) → all_zero (run row i to) ≡ true
  all_are zero i e h = let f : i ≡ to = omega arith in ap (λ (j : ℕ). all_zero (run row j to)) f ∙ zero_none row to
  all_are (suc n) i e h =
      zero_more row i to (omega arith) inside (h i (omega arith) (omega arith))
      ∙ all_are n (i + 1) (omega arith) (λ j p q. h j (omega arith) q)

  -- the symbol n behind i is not 0
  one_is_not : (n i : ℕ) → i + n < to → get_or row (i + n) 0 ≢ 0 → all_zero (run row i to) ≡ false
  one_is_not zero i h k = zero_not row i to (omega arith) inside (rw add-zero at k)
  one_is_not (suc n) i h k =
      let e : i + 1 + n ≡ i + suc n = omega arith in
      elim (ℕ_discrete (get_or row i 0) 0) [
        | yes z ↦ zero_more row i to (omega arith) inside z ∙ one_is_not n (i + 1) (omega arith) (rw e k)
        | no z ↦ zero_not row i to (omega arith) inside z
      ]

  cases : (from : ℕ) → from ≤ to → (r : Bool)
      → MatchBool r ((j : ℕ) → from ≤ j → j < to → get_or row j 0 ≡ 0) ((j : ℕ) × (from ≤ j) × (j < to) × (get_or row j 0 ≢ 0))
      → r ≡ all_zero (run row from to)
  cases from l true h = sym (all_are (to - from) from (omega arith) h)
  cases from l false (j, p, q, h) =
      let e : from + (j - from) ≡ j = omega arith in
      sym (one_is_not (j - from) from (omega arith) (rw e h))

pub returns : goal.returns
returns c =
    cases (symbols_of c.args.k c.args.buf.now) c.args.to c.requires.2 c.args.from c.requires.1 c.all.result (search (rules, ranges))
