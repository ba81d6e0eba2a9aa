-- `moves::byte::moves_by_byte` meets its contract: the moves of all rows of n symbols, until there are as many as byte values.
use Rattle.std.proofs.Common.{◌≡◌, [], ℕ, suc, ◌*◌, ◌^◌, ◌≤◌, ◌<◌, T, set, sym, subst, add-one, arith}
use Rattle.std.proofs.Math.Nat.{pow-zero, pow-suc, pow-le-pow_right}
use Rattle.ground.specs.Paper.Rows.{zeros}
use Rattle.stopper.specs.Paper.Table.{base, good_code}
use Rattle.stopper.specs.Laws.Table.{code_base, code_width}
use Rattle.stopper.specs.declared.code.Code.{Code}
use Rattle.symbols.specs.Paper.Symbols.{per}
use Rattle.moves.specs.Helpers.Moves.{MovesOf}
use Rattle.moves.specs.Laws.Moves.{goes_none, move_in, moves_start, moves_bytes, byte_values}
use Rattle.moves.proofs.byte.moves_by_byte.Goals as goal

-- one symbol more is not too many
room : (code : Code) → T (good_code code) → (n : ℕ) → n < per code.k → (0 < base code ^ n) × (base code ^ n * base code ≤ 256)
room code g n h =
    let some : 1 ≤ base code = omega (arith, code_base code g) in
    let start : base code ^ 0 ≤ base code ^ n = pow-le-pow_right {n = base code} some (omega arith) in
    let end : base code ^ suc n ≤ base code ^ per code.k = pow-le-pow_right {n = base code} some h in
    (omega (arith, pow-zero (base code), start), omega (arith, pow-suc (base code) n, end, byte_values code g))

pub per_byte-n-end-requires : goal.per_byte-n-end-requires
per_byte-n-end-requires c = code_width c.args.ranks.good.code c.args.ranks.good.good

pub loop-n-init : goal.loop-n-init
unfolding zeros
loop-n-init c =
    let code = c.args.ranks.good.code in
    let one = c.in_one.result in
    (sym (pow-zero (base code)), moves_start code c.args.ranks.sigma (set (zeros 256) 0 one) (move_in code c.args.ranks.sigma [] one _ c.in_one.ensures (goes_none code c.args.ranks.sigma 256)))

pub longer-t-requires : goal.longer-t-requires
longer-t-requires c =
    let (some, few) = room c.args.ranks.good.code c.args.ranks.good.good c.loop-n._n (omega (arith, c.per_byte-n-end.ensures)) in
    (rw c.loop-n.invariant.0 some, rw c.loop-n.invariant.0 few)

pub overflow_mul-size : goal.overflow_mul-size
overflow_mul-size c =
    let (_, few) = room c.args.ranks.good.code c.args.ranks.good.good c.loop-n._n (omega (arith, c.per_byte-n-end.ensures)) in
    rw (c.loop-n.invariant.0, c.base_of-base.ensures) (omega (arith, few))

pub loop-n-preserved : goal.loop-n-preserved
loop-n-preserved c =
    let n = c.loop-n._n in
    rw (add-one n) (
      rw (c.loop-n.invariant.0, c.base_of-base.ensures) (sym (pow-suc (base c.args.ranks.good.code) n)),
      c.longer-t.ensures n c.loop-n.invariant.0 c.loop-n.invariant.1,
    )

pub returns : goal.returns
returns c =
    let code = c.args.ranks.good.code in
    let all : c.loop-n._n ≡ per code.k = omega (arith, c.per_byte-n-end.ensures) in
    moves_bytes code c.args.ranks.sigma c.args.ranks.good.good c.loop-n.t (subst (λ (n : ℕ). MovesOf code c.args.ranks.sigma n c.loop-n.t) all c.loop-n.invariant.1)
