-- `symbols::gather::join_all` meets its contract: the symbols passed are joined.
use Rattle.std.proofs.Common.{◌≡◌, ◌+◌, ◌*◌, ◌%◌, ◌^◌, ◌≤◌, ◌<◌, ℕ, List, [], ◌∷◌, ◌++◌, refl, sym, ap, ◌∙◌, length, get_or, arith, add-one, mul-zero, mul-one, pow_pos, take-suc, take_all}
use lib.Pow.{pow_mono, shl_exact}
use Rattle.ground.specs.Laws.Rows.{below_at}
use Rattle.symbols.specs.Helpers.Gathered.{digits}
use Rattle.symbols.specs.Helpers.Widths.{Width}
use Rattle.symbols.specs.Laws.Gathered.{digits_more, joined_small}
use Rattle.symbols.specs.Laws.Width.{by_width}
use Rattle.symbols.proofs.gather.join_all.Goals as goal

-- symbol i of at most 8, behind those before it: nothing is shifted out
module _ {k : ℕ} (w : Width k) (i bits y : ℕ) (few : i < 8) (small : bits < 2 ^ (k * i)) (h : y < 2 ^ k) where
  more : k * (i + 1) ≤ 32
  more = by_width (λ k. k * (i + 1) ≤ 32) w (omega arith) (omega arith)

  shifted : (bits * 2 ^ k) % 2 ^ 32 ≡ bits * 2 ^ k
  shifted = shl_exact (k * i) k 32 small (omega (arith, more))

  joined : bits * 2 ^ k + y < 2 ^ (k * (i + 1))
  joined = let l : y < 2 ^ (k * 1) = rw mul-one h in rw (mul-one k) at (joined_small k i 1 bits y small l)

  fits : (bits * 2 ^ k) % 2 ^ 32 + y < 2 ^ 32
  fits = omega (arith, shifted, joined, pow_mono more)

pub loop-y-init : goal.loop-y-init
unfolding digits
loop-y-init c = (rw mul-zero (pow_pos 0), refl)

pub overflow_add-bits : goal.overflow_add-bits
overflow_add-bits c =
    let i = c.loop-y.y-index in
    omega (
      arith,
      c.from.ensures,
      fits c.requires.0 i c.loop-y.bits (get_or c.args.row.now i 0) (omega arith) c.loop-y.invariant.0 (below_at c.requires.1 i (omega arith)),
    )

pub loop-y-preserved : goal.loop-y-preserved
loop-y-preserved c =
    let w = c.requires.0 in
    let k = c.args.k in
    let row = c.args.row.now in
    let i = c.loop-y.y-index in
    let bits = c.loop-y.bits in
    let y = get_or row i 0 in
    let h : i < length row = omega arith in
    let few : i < 8 = omega arith in
    let l : y < 2 ^ k = below_at c.requires.1 i h in
    let small = c.loop-y.invariant.0 in
    rw (c.from.ensures, shifted w i bits y few small l) (
      joined w i bits y few small l,
      digits_more (2 ^ k) i bits y l
          ∙ ap (λ (xs : List ℕ). xs ++ (y ∷ [])) c.loop-y.invariant.1
          ∙ sym (rw add-one (take-suc row i 0 h)),
    )

pub returns : goal.returns
returns c =
    let row = c.args.row.now in
    let e : c.loop-y.y-index ≡ length row = omega arith in
    record {
      small = rw e at c.loop-y.invariant.0;
      symbols = rw (e, take_all (length row) row (omega arith)) at c.loop-y.invariant.1;
    }
