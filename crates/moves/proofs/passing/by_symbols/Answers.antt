-- `moves::passing::by_symbols` meets its contract: `Here` after every symbol.
use Rattle.std.proofs.Common.{◌≡◌, ℕ, ◌+◌, ◌-◌, ◌*◌, ◌≤◌, ◌<◌, T, length, drop, get_or, sym, ◌∙◌, arith, add-one, drop-cons, length-take-le, mul-le-mul}
use Rattle.std.proofs.Math.Seq.{get_or-take}
use Rattle.stopper.specs.Paper.Table.{base, good_code}
use Rattle.stopper.specs.Laws.Table.{one_number, code_width, code_good, code_base}
use Rattle.stopper.specs.declared.code.Code.{Code}
use Rattle.symbols.specs.Paper.Symbols.{symbols_of}
use Rattle.moves.specs.Helpers.States.{few, Stuck}
use Rattle.reading.specs.Helpers.Codewords.{row_of}
use Rattle.moves.specs.Helpers.Moves.{Here}
use Rattle.moves.proofs.Laws.States.{stuck_stop, stuck_more}
use Rattle.moves.specs.Laws.Moves.{here_stop, here_more, here_few}
use Rattle.reading.specs.declared.packed.Packed.{Packed}
use Rattle.moves.proofs.passing.by_symbols.Goals as goal
use Rattle.moves.proofs.passing.by_symbols.Goals.{then-y-few+else-sigma-x, else-y-few+else-sigma-next}

-- the code's numbers
few_is : (code : Code) {s : ℕ} → s ≡ code.s → s ≡ few code
few_is code e = e ∙ sym (one_number code 0)

many_small : (code : Code) → T (good_code code) → {b : ℕ} (s x : ℕ) → b ≡ base code → x < 131072 → x * (b - s) ≤ 131072 * 16
many_small code g {b} s x e h = mul-le-mul {n₁ = x} {m₁ = b - s} {n₂ = 131072} {m₂ = 16} (omega arith) (omega (arith, code_base code g))

few_small : (code : Code) → T (good_code code) → {s x : ℕ} → s ≡ code.s → x < 131072 → (s < 16) × (x * s ≤ 131072 * 16)
few_small code g {s} {x} e h =
    let l : s < 16 = omega (arith, few_is code e, (code_good code g).high 0, code_base code g) in
    (l, mul-le-mul {n₁ = x} {m₁ = s} {n₂ = 131072} {m₂ = 16} (omega arith) (omega arith))

module _ (s : Packed) {upto : ℕ} (in-row : upto ≤ s.h) where
  -- symbol `at` is one of the row's
  module _ (at : ℕ) (l : at < upto) where
    inside : at < length (row_of s)
    inside = omega (arith, length-take-le s.h (symbols_of s.ranks.good.code.k s.buf.now) s.held)

    pub in_buffer : at < length (symbols_of s.ranks.good.code.k s.buf.now)
    in_buffer = omega (arith, s.held)

    symbol_is : get_or (symbols_of s.ranks.good.code.k s.buf.now) at 0 ≡ get_or (row_of s) at 0
    symbol_is = sym (get_or-take s.h (symbols_of s.ranks.good.code.k s.buf.now) at 0 (omega arith))

    -- it is y, of a code with f stoppers among b symbols; the open codeword is bad at it, or good, or still open
    module _ {b f y : ℕ} (e : b ≡ base s.ranks.good.code) (z : f ≡ few s.ranks.good.code) (i : y ≡ get_or (symbols_of s.ranks.good.code.k s.buf.now) at 0) where
      bad_stop : (x : ℕ) → y < f → s.ranks.sigma ≤ x * f + y → Stuck s.ranks.good.code s.ranks.sigma x (drop at (row_of s))
      bad_stop x k o = rw (drop-cons (row_of s) at 0 inside) (stuck_stop s.ranks.good.code s.ranks.good.good s.ranks.sigma x _ _ (rw (z, i, symbol_is) at k) (rw (z, i, symbol_is) at o))

      bad_more : (x : ℕ) → f ≤ y → s.ranks.sigma ≤ x * (b - f) + (y - f + 1) → Stuck s.ranks.good.code s.ranks.sigma x (drop at (row_of s))
      bad_more x k o = rw (drop-cons (row_of s) at 0 inside) (stuck_more s.ranks.good.code s.ranks.good.good s.ranks.sigma x _ _ (rw (z, i, symbol_is) at k) (rw (e, z, i, symbol_is) at o))

      good_stop : {x n : ℕ} → Here s.ranks.good.code s.ranks.sigma (row_of s) at x n → y < f → x * f + y < s.ranks.sigma → Here s.ranks.good.code s.ranks.sigma (row_of s) (at + 1) 0 (n + 1)
      good_stop w k o = rw (add-one at) (here_stop s.ranks.good.code s.ranks.sigma (row_of s) w inside (rw (z, i, symbol_is) at k) (rw (z, i, symbol_is) at o))

      good_more : {x n : ℕ} → Here s.ranks.good.code s.ranks.sigma (row_of s) at x n → f ≤ y → Here s.ranks.good.code s.ranks.sigma (row_of s) (at + 1) (x * (b - f) + (y - f + 1)) n
      good_more w k = rw (e, z, i, symbol_is, add-one at) (here_more s.ranks.good.code s.ranks.sigma (row_of s) w inside (rw (z, i, symbol_is) at k))

pub overflow_sub-many : goal.overflow_sub-many
overflow_sub-many c = omega (arith, few_is c.args.packed.now.ranks.good.code c.from-few.ensures, (code_good c.args.packed.now.ranks.good.code c.args.packed.now.ranks.good.good).high 0)

pub get-requires : goal.get-requires
get-requires c = (code_width c.args.packed.now.ranks.good.code c.args.packed.now.ranks.good.good, in_buffer c.args.packed.now c.requires.0 c.loop-at.at c.loop-at-test.true)

pub returns-then-sigma-x : goal.returns-then-sigma-x
returns-then-sigma-x c =
    let bad = bad_stop c.args.packed.now c.requires.0 c.loop-at.at c.loop-at-test.true c.base_of.ensures (few_is c.args.packed.now.ranks.good.code c.from-few.ensures) (c.from-y.ensures ∙ c.get.ensures) in
    (omega arith, c.loop-at.invariant.here, c.loop-at.invariant.small, λ _. bad c.loop-at.x c.if-y-few.true c.if-sigma-x.true)

pub overflow_add-n : goal.overflow_add-n
overflow_add-n c = omega (arith, here_few c.args.packed.now.ranks.good.code c.args.packed.now.ranks.sigma _ c.loop-at.invariant.here, c.requires.0, c.args.packed.now.small)

pub overflow_mul-x : goal.overflow_mul-x
overflow_mul-x c = let g = c.args.packed.now.ranks.good in omega (arith, few_small g.code g.good c.from-few.ensures c.loop-at.invariant.small)

pub overflow_add-x : goal.overflow_add-x
overflow_add-x c =
    let g = c.args.packed.now.ranks.good in
    omega (arith, few_small g.code g.good c.from-few.ensures c.loop-at.invariant.small, c.if-y-few.true)

pub overflow_mul-next : goal.overflow_mul-next
overflow_mul-next c = omega (arith, many_small c.args.packed.now.ranks.good.code c.args.packed.now.ranks.good.good c.from-few.result c.loop-at.x c.base_of.ensures c.loop-at.invariant.small)

pub overflow_add-next-else-y-few : goal.overflow_add-next-else-y-few
overflow_add-next-else-y-few c = omega (arith, many_small c.args.packed.now.ranks.good.code c.args.packed.now.ranks.good.good c.from-few.result c.loop-at.x c.base_of.ensures c.loop-at.invariant.small)

pub returns-then-sigma-next : goal.returns-then-sigma-next
returns-then-sigma-next c =
    let bad = bad_more c.args.packed.now c.requires.0 c.loop-at.at c.loop-at-test.true c.base_of.ensures (few_is c.args.packed.now.ranks.good.code c.from-few.ensures) (c.from-y.ensures ∙ c.get.ensures) in
    (omega arith, c.loop-at.invariant.here, c.loop-at.invariant.small, λ _. bad c.loop-at.x c.if-y-few.false c.if-sigma-next.true)

pub loop-at-preserved : goal.loop-at-preserved
loop-at-preserved c =
    let s = c.args.packed.now in
    let at = c.loop-at.at in
    let l = c.loop-at-test.true in
    let f = few_is c.args.packed.now.ranks.good.code c.from-few.ensures in
    let y = c.from-y.ensures ∙ c.get.ensures in
    let here = c.loop-at.invariant.here in
    elim c.if-y-few.branch [
      | then-y-few+else-sigma-x w ↦
          rw (w.x-is, w.n-is) (record { small = omega arith; here = good_stop s c.requires.0 at l c.base_of.ensures f y here w.if-y-few.true w.if-sigma-x.false })
      | else-y-few+else-sigma-next w ↦
          rw (w.x-is, w.n-is) (record { small = omega (arith, w.if-sigma-next.false, s.ranks.few); here = good_more s c.requires.0 at l c.base_of.ensures f y here w.if-y-few.false })
    ]
