-- `symbols::whole::window` meets its contract.
use mathlib.Core.Path.{◌≡◌}
use Prim.Native.Nat.{◌+◌, ◌<◌}
use native.Mathlib.Nat.{mul-pos}
use native.Mathlib.Omega.{arith}
use lib.ListN.{length}
use Rattle.symbols.specs.Laws.Rows.{starts_within}
use Rattle.symbols.specs.Laws.Width.{per_pos, wide, ends_within}
use Rattle.symbols.proofs.Window.{window_whole, window_joined}
use Rattle.symbols.proofs.whole.window.Goals as goal

pub bounds-buf-j : goal.bounds-buf-j
bounds-buf-j c =
    starts_within c.requires.0 c.args.buf.now c.args.j (omega (arith, per_pos c.requires.0))

pub returns-then-place-eq0 : goal.returns-then-place-eq0
returns-then-place-eq0 c =
    let k = c.args.k in
    let bs = c.args.buf.now in
    let j = c.args.j in
    let e : c.args.place ≡ 0 = c.if-place-eq0.true in
    rw e (window_whole c.requires.0 bs j (omega (arith, c.requires.2)))

pub bounds-buf-j-2 : goal.bounds-buf-j-2
bounds-buf-j-2 c =
    starts_within c.requires.0 c.args.buf.now c.args.j (omega (arith, per_pos c.requires.0))

pub overflow_add-j : goal.overflow_add-j
overflow_add-j c =
    let h : c.args.j < length c.args.buf.now = starts_within c.requires.0 c.args.buf.now c.args.j (omega (arith, per_pos c.requires.0)) in
    omega arith

pub bounds-buf-j-3 : goal.bounds-buf-j-3
bounds-buf-j-3 c =
    let n : (c.args.place ≡ 0 → ⊥) = c.if-place-eq0.false in
    starts_within c.requires.0 c.args.buf.now (c.args.j + 1) (omega arith)

pub overflow_mul-k : goal.overflow_mul-k
overflow_mul-k c = omega (arith, ends_within c.requires.0 c.requires.1)

pub join-requires : goal.join-requires
join-requires c =
    let n : (c.args.place ≡ 0 → ⊥) = c.if-place-eq0.false in
    let p : 0 < c.args.place = omega arith in
    (mul-pos (wide c.requires.0) p, omega (arith, ends_within c.requires.0 c.requires.1, wide c.requires.0))

pub returns : goal.returns
returns c =
    rw c.join.ensures
    (window_joined c.requires.0 c.args.buf.now c.args.j c.args.place c.requires.1 (c.type_inv.buf (c.args.j + 1)).fits c.requires.2)
