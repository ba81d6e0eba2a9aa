-- `symbols::gather::store` meets its contract: the symbols that wait no longer stand in the bytes before `next`.
use Rattle.std.proofs.Common.{◌≡◌, ◌++◌, ◌+◌, ◌-◌, ◌*◌, ◌/◌, ◌%◌, ◌^◌, ◌≤◌, ◌<◌, ℕ, List, refl, sym, ap, ◌∙◌, append-nil, length, take, drop, arith, add-zero, mul-le-mul_right, mod-lt, div-add-mod', pow_pos, drop-drop}
use Rattle.std.proofs.Math.Nat.{sub_self, div-mul-le_self, le_of_mul-le-mul_right}
use lib.Seq.{drop-set-lt}
use Rattle.symbols.specs.Paper.Symbols.{per, symbols_of}
use Rattle.symbols.specs.Helpers.Gathered.{digits, gathered, up_to}
use Rattle.symbols.specs.Helpers.Widths.{Width}
use Rattle.symbols.specs.Laws.Gathered.{bits_under, stored_all}
use Rattle.symbols.specs.Laws.Rows.{symbols_length}
use Rattle.symbols.specs.Laws.Width.{per_pos}
use Rattle.symbols.specs.declared.gather.Gather.{Gather}
use Rattle.symbols.proofs.Laws.Gathered.{stored_more}
use Rattle.symbols.proofs.gather.store.Goals as goal

-- of the bytes of the waiting symbols n are full
module _ {k : ℕ} (w : Width k) (g : Gather) {n : ℕ} (e : n ≡ g.count / per k) where
  full : n * per k ≤ g.count
  full = rw e (div-mul-le_self g.count (per k))

  inside : (buf : List ℕ) → up_to k g ≤ length (symbols_of k buf) → g.next + n ≤ length buf
  inside buf h = le_of_mul-le-mul_right {k = per k} (omega (arith, symbols_length k buf, full)) (per_pos w)

  -- before byte `next`, `count` symbols left
  module _ {next count : ℕ} (left : next * per k + count ≡ g.next * per k + g.count) where
    waits : next < g.next + n → per k ≤ count
    waits h = let le : (next + 1) * per k ≤ (g.next + n) * per k = mul-le-mul_right (per k) (omega arith) in omega (arith, full)

    fewer : g.next ≤ next → count ≤ g.count
    fewer h = omega (arith, mul-le-mul_right (per k) h)

    none_full : g.next + n ≤ next → count < per k
    none_full h =
        let rest : n * per k + g.count % per k ≡ g.count = rw e (div-add-mod' g.count (per k)) in
        omega (arith, mul-le-mul_right (per k) h, mod-lt g.count (per_pos w))

    -- the bits of those left are within the number
    within : g.next ≤ next → g.count < 8 * per k → (m : ℕ) → m ≤ count → k * m < 8 * 8
    within h few m l = bits_under w 8 (omega (arith, fewer h))

pub overflow_add-end : goal.overflow_add-end
overflow_add-end c = omega (arith, inside c.requires.0 c.args.g c.byte_of.ensures c.args.buf.now c.requires.3)

pub loop-next-init : goal.loop-next-init
unfolding digits
loop-next-init c = (refl, rw sub_self (sym (append-nil _)), refl)

pub overflow_sub-count : goal.overflow_sub-count
overflow_sub-count c =
    rw c.per_byte-per.ensures (waits c.requires.0 c.args.g c.byte_of.ensures c.loop-next.invariant.0 c.loop-next-test.true)

pub overflow_mul-wide : goal.overflow_mul-wide
overflow_mul-wide c =
    let n = c.loop-next.count - c.per_byte-per.result in
    rw c.from-wide.ensures
    (omega (arith, within c.requires.0 c.args.g c.byte_of.ensures c.loop-next.invariant.0 c.loop-next.auto.next c.requires.1 n (omega arith)))

pub piece-requires : goal.piece-requires
piece-requires c =
    let n = c.loop-next.count - c.per_byte-per.result in (
      rw c.from-wide.ensures (within c.requires.0 c.args.g c.byte_of.ensures c.loop-next.invariant.0 c.loop-next.auto.next c.requires.1 n (omega arith)),
      omega arith,
    )

pub bounds-buf-next : goal.bounds-buf-next
bounds-buf-next c = omega (arith, inside c.requires.0 c.args.g c.byte_of.ensures c.args.buf.now c.requires.3)

pub loop-next-preserved : goal.loop-next-preserved
loop-next-preserved c =
    let w = c.requires.0 in
    let k = c.args.k in
    let old = c.args.buf.now in
    let bs = c.loop-next.buf in
    let next = c.loop-next.next in
    let all = c.args.g.count in
    let v = c.args.g.bits in
    let i = c.loop-next.invariant in
    let n = c.loop-next.count - c.per_byte-per.result in
    let each : c.per_byte-per.result ≡ per k = c.per_byte-per.ensures in
    let least : per k ≤ c.loop-next.count = waits w c.args.g c.byte_of.ensures i.0 c.loop-next-test.true in
    let most : c.loop-next.count ≤ all = fewer w c.args.g c.byte_of.ensures i.0 c.loop-next.auto.next in
    let e : c.loop-next.count ≡ n + per k = omega arith in
    let f : all - c.loop-next.count + per k ≡ all - n = omega arith in
    let h : next < length bs = omega (arith, inside w c.args.g c.byte_of.ensures old c.requires.3) in
    let front = symbols_of k (take c.args.g.next old) in
    let row : symbols_of k (take next bs) ≡ front ++ digits (2 ^ k) (all - c.loop-next.count) (v / 2 ^ (k * (n + per k)))
    = i.1 ∙ ap (λ (m : ℕ). front ++ digits (2 ^ k) (all - c.loop-next.count) (v / 2 ^ (k * m))) e in (
      omega arith,
      rw (c.piece.ensures, c.from-wide.ensures)
          (stored_more w front bs (all - c.loop-next.count) n v next h row
          ∙ ap (λ (m : ℕ). front ++ digits (2 ^ k) m (v / 2 ^ (k * n))) f),
      drop-set-lt (next + 1) bs next c.piece.result (omega arith)
          ∙ sym (drop-drop 1 next bs)
          ∙ ap (drop 1) i.2
          ∙ drop-drop 1 next old,
    )

pub overflow_mul-wide-2 : goal.overflow_mul-wide-2
overflow_mul-wide-2 c =
    rw c.from-wide.ensures
    (omega (arith, within c.requires.0 c.args.g c.byte_of.ensures c.loop-next.invariant.0 c.loop-next.auto.next c.requires.1 c.loop-next.count (omega arith)))

pub lowest-requires : goal.lowest-requires
lowest-requires c =
    rw c.from-wide.ensures
    (within c.requires.0 c.args.g c.byte_of.ensures c.loop-next.invariant.0 c.loop-next.auto.next c.requires.1 c.loop-next.count (omega arith))

pub returns : goal.returns
unfolding gathered
returns c =
    let w = c.requires.0 in
    let k = c.args.k in
    let g = c.args.g in
    let n = c.loop-next.count in
    let i = c.loop-next.invariant in
    let end : c.loop-next.next ≡ g.next + c.byte_of.result = omega arith in
    let most : n ≤ g.count = fewer w c.args.g c.byte_of.ensures i.0 c.loop-next.auto.next in
    let e : g.count - n + n ≡ g.count = omega arith in
    let front = symbols_of k (take g.next c.args.buf.now) in
    rw (← end) record {
      few = omega (arith, none_full w c.args.g c.byte_of.ensures i.0 c.loop-next-test.false);
      small = rw (c.lowest.ensures, c.from-wide.ensures) (mod-lt g.bits (pow_pos (k * n)));
      onward = omega arith;
      upto = i.0 ∙ sym (add-zero _);
      symbols =
          rw (c.lowest.ensures, c.from-wide.ensures, i.1)
          (stored_all k (g.count - n) n g.bits front
          ∙ ap (λ (m : ℕ). front ++ digits (2 ^ k) m g.bits) e
          ∙ sym (append-nil (front ++ digits (2 ^ k) g.count g.bits)));
      rest = i.2;
    }
