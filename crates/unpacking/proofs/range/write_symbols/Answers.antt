-- `unpacking::range::write_symbols` meets its contract: `Wrote` after every symbol.
use Rattle.std.proofs.Common.{◌≡◌, List, ℕ, ◌+◌, ◌-◌, ◌*◌, ◌≤◌, ◌<◌, length, get_or, set, sym, ◌∙◌, arith, length-take-le, drop-set-lt, mul-le-mul}
use Rattle.std.proofs.Math.Seq.{get_or-take}
use Rattle.stopper.specs.Paper.Table.{base}
use Rattle.stopper.specs.Laws.Table.{one_number, code_width, code_good, code_base}
use Rattle.stopper.specs.declared.code.Code.{Code}
use Rattle.symbols.specs.Paper.Symbols.{symbols_of}
use Rattle.reading.specs.Paper.Reading.{row_upto}
use Rattle.moves.specs.Helpers.States.{few}
use Rattle.unpacking.specs.Helpers.Tasks.{Written}
use Rattle.unpacking.specs.declared.task.Task.{Task}
use Rattle.unpacking.specs.Laws.Gives.{way_small, rank_below, wrote_stop, wrote_more}
use Rattle.unpacking.proofs.range.write_symbols.Goals as goal
use Rattle.unpacking.proofs.range.write_symbols.Goals.{then-y-few, else-y-few}

-- the code's stoppers
few_is : (code : Code) {s : ℕ} → s ≡ code.s → s ≡ few code
few_is code e = e ∙ sym (one_number code 0)

module _ (t : Task) (at : ℕ) (l : at < t.packed.h) where
  -- symbol `at` is one of the row's
  inside : at < length (row_upto t.packed.ranks.good.code t.packed.h t.packed.buf.now)
  inside = omega (arith, length-take-le t.packed.h (symbols_of t.packed.ranks.good.code.k t.packed.buf.now) t.unpacks.reads.held)

  symbol_is : get_or (symbols_of t.packed.ranks.good.code.k t.packed.buf.now) at 0 ≡ get_or (row_upto t.packed.ranks.good.code t.packed.h t.packed.buf.now) at 0
  symbol_is = sym (get_or-take t.packed.h (symbols_of t.packed.ranks.good.code.k t.packed.buf.now) at 0 l)

  -- it is y, of a code with s stoppers among b symbols
  module _ {out : List ℕ} {x n b s y : ℕ} (w : Written t out (record { at = at; x = x; n = n }))
      (e : b ≡ base t.packed.ranks.good.code) (f : s ≡ few t.packed.ranks.good.code) (i : y ≡ get_or (symbols_of t.packed.ranks.good.code.k t.packed.buf.now) at 0) where
    many_small : x * (b - s) ≤ 255 * 16
    many_small =
        mul-le-mul {n₁ = x} {m₁ = b - s} {n₂ = 255} {m₂ = 16} (omega (arith, way_small t.unpacks w)) (omega (arith, e, code_base t.packed.ranks.good.code t.unpacks.reads.good))

    rank_small : y < s → x * s + y < 256
    rank_small k =
        let r = rank_below t.unpacks w inside (rw (f, i, symbol_is) at k) in
        rw (f, i, symbol_is) (omega (arith, r, t.unpacks.reads.few))

    stop : y < s → n < length out → Written t (set out n (get_or t.places.now (x * s + y) 0)) (record { at = at + 1; x = 0; n = n + 1 })
    stop k o =
        let k' = rw (f, i, symbol_is) at k in
        rw (f, i, symbol_is) (wrote_stop w inside k' (rank_below t.unpacks w inside k') o)

    more : s ≤ y → Written t out (record { at = at + 1; x = x * (b - s) + (y - s + 1); n = n })
    more k = rw (e, f, i, symbol_is) (wrote_more w inside (rw (f, i, symbol_is) at k))

pub overflow_sub-many : goal.overflow_sub-many
overflow_sub-many c =
    let code = c.args.task.now.packed.ranks.good.code in
    omega (arith, few_is code c.from-few.ensures, (code_good code c.args.task.now.unpacks.reads.good).high 0)

pub get-requires : goal.get-requires
get-requires c =
    let z = c.args.task.now.unpacks.reads in
    (code_width c.args.task.now.packed.ranks.good.code z.good, omega (arith, z.held))

pub overflow_mul-out : goal.overflow_mul-out
overflow_mul-out c =
    omega (arith, rank_small c.args.task.now c.loop-at.at (omega arith) c.loop-at.invariant.wrote c.base_of.ensures (few_is c.args.task.now.packed.ranks.good.code c.from-few.ensures) (c.from-y.ensures ∙ c.get.ensures) c.if-y-few.true)

pub overflow_add-out : goal.overflow_add-out
overflow_add-out c =
    omega (arith, rank_small c.args.task.now c.loop-at.at (omega arith) c.loop-at.invariant.wrote c.base_of.ensures (few_is c.args.task.now.packed.ranks.good.code c.from-few.ensures) (c.from-y.ensures ∙ c.get.ensures) c.if-y-few.true)

pub bounds-places-x : goal.bounds-places-x
bounds-places-x c =
    rank_small c.args.task.now c.loop-at.at (omega arith) c.loop-at.invariant.wrote c.base_of.ensures (few_is c.args.task.now.packed.ranks.good.code c.from-few.ensures) (c.from-y.ensures ∙ c.get.ensures) c.if-y-few.true

pub overflow_mul-x : goal.overflow_mul-x
overflow_mul-x c =
    omega (arith, many_small c.args.task.now c.loop-at.at (omega arith) c.loop-at.invariant.wrote c.base_of.ensures (few_is c.args.task.now.packed.ranks.good.code c.from-few.ensures) (c.from-y.ensures ∙ c.get.ensures))

pub overflow_add-x-else-y-few : goal.overflow_add-x-else-y-few
overflow_add-x-else-y-few c =
    omega (arith, many_small c.args.task.now c.loop-at.at (omega arith) c.loop-at.invariant.wrote c.base_of.ensures (few_is c.args.task.now.packed.ranks.good.code c.from-few.ensures) (c.from-y.ensures ∙ c.get.ensures))

pub loop-at-preserved : goal.loop-at-preserved
loop-at-preserved c =
    let t = c.args.task.now in
    let at = c.loop-at.at in
    let l : at < t.packed.h = omega arith in
    let f = few_is t.packed.ranks.good.code c.from-few.ensures in
    let y = c.from-y.ensures ∙ c.get.ensures in
    let wrote = c.loop-at.invariant.wrote in
    elim c.if-y-few.branch [
      | then-y-few w ↦
          rw (w.out-is, w.x-is, w.n-is) (record {
            few = omega arith;
            wrote = stop t at l wrote c.base_of.ensures f y w.if-y-few.true (omega arith);
            kept = drop-set-lt t.m c.loop-at.out c.loop-at.n _ c.if-m-n.false ∙ c.loop-at.invariant.kept;
          })
      | else-y-few w ↦
          rw (w.out-is, w.x-is, w.n-is) (record { few = c.loop-at.invariant.few; wrote = more t at l wrote c.base_of.ensures f y w.if-y-few.false; kept = c.loop-at.invariant.kept })
    ]
