-- `unpacking::giving::more_gives` meets its contract: the state is another at the codeword that ends first.
use Rattle.std.specs.Result.{OkIff, result_ok}
use Rattle.std.proofs.Common.{◌≡◌, Some, Result, Ok, Err, ℕ, ◌-◌, arith, mul-le-mul}
use Rattle.stopper.specs.Laws.Table.{code_good, code_base}
use Rattle.unpacking.specs.Laws.Gives.{spells_more}
use Rattle.unpacking.proofs.giving.more_gives.Goals as goal

pub overflow_sub-c : goal.overflow_sub-c
overflow_sub-c c = omega (arith, c.stoppers_at-s.ensures, c.base_of.ensures, (code_good c.args.good.code c.args.good.good).high 0)

pub overflow_mul-c : goal.overflow_mul-c
overflow_mul-c c =
    omega (
      arith,
      mul-le-mul {n₁ = c.base_of.result - c.stoppers_at-s.result} {m₁ = c.from-2.result} {n₂ = 16} {m₂ = 255} (omega (arith, c.base_of.ensures, code_base c.args.good.code c.args.good.good)) (omega (arith, c.from-2.ensures)),
    )

-- what a conversion gives where it gives something
converted : {E : Type 0} (r : Result ℕ E) (P : Type 0) {v t : ℕ} → OkIff r P v → Some t ≡ result_ok r → t ≡ v
converted (Ok x) P (_, e) q = cc
converted (Err x) P _ q = cc

pub returns : goal.returns
returns c = λ places w f.
    let times = converted c.try_from.result _ c.try_from.ensures c.in_ok-times.ensures.value in
    let plus = converted c.try_from-2.result _ c.try_from-2.ensures c.in_ok-plus.ensures.value in
    rw (times, plus, c.from.ensures, c.from-2.ensures, c.from-3.ensures, c.from-4.ensures, c.stoppers_at-s.ensures, c.base_of.ensures)
    (spells_more c.args.good.code places c.args.y c.requires.0 f)
