use Rattle.std.proofs.Common.{◌≡◌, List, ℕ, suc, ◌+◌, ◌*◌, ◌^◌, ◌<◌, get_or, length}
use Rattle.stopper.specs.Paper.Table.{base}
use Rattle.stopper.specs.declared.code.Code.{Code}
use Rattle.symbols.specs.Helpers.Gathered.{digits}
use Rattle.moves.specs.Helpers.Moves.{MoveIn, MovesOf}
use Rattle.moves.proofs.byte.longer.Given as goal

-- the rows below v are done
abbrev pub Done : Code → ℕ → ℕ → List ℕ → List ℕ → ℕ → Type 0
Done code sigma size t r v =
    (n : ℕ) → size ≡ base code ^ n → MovesOf code sigma n t → (u : ℕ) → u < v → MoveIn code sigma (digits (base code) (suc n) u) (get_or r u 0)

abbrev pub invariant-loop-y : goal.invariant-loop-y
invariant-loop-y l = (length l.r ≡ 256) × Done l.ranks.good.code l.ranks.sigma l.size l.t l.r (l.y * l.size)

abbrev pub invariant-loop-w : goal.invariant-loop-w
invariant-loop-w l = (length l.r ≡ 256) × Done l.ranks.good.code l.ranks.sigma l.size l.t l.r (l.y * l.size + l.w)
