-- `choosing::count::tally` meets its contract: the counts are those of the characters passed.
use Rattle.std.proofs.Common.{◌≡◌, sym, ap, ◌∙◌, List, ℕ, suc, ◌+◌, ◌<◌, arith, add-zero, add-one, eq-eqb, ne_eqb, length, get_or, take, set, length-take-le}
use Rattle.std.proofs.Math.Seq.{take-length}
use Rattle.ground.specs.Paper.Rows.{tab}
use Rattle.ground.specs.Laws.Limit.{limit_fits}
use Rattle.ground.specs.Laws.Rows.{length_tab, tab_at, tab_zeros, tab_set}
use Rattle.choosing.specs.Paper.Choosing.{occurs, counts_of}
use Rattle.choosing.specs.Laws.Counting.{occurs_none, occurs_more, occurs_le}
use Rattle.choosing.proofs.count.tally.Goals as goal

-- the counts of the characters before place i, and the character b there
module _ (text : List ℕ) {counts : List ℕ} (i : ℕ) (e : counts ≡ tab (occurs (take i text)) 0 256) {b : ℕ} (this : b ≡ get_or text i 0) (fits : get_or text i 0 < 256) where
  small : b < 256
  small = omega arith

  inside : b < length counts
  inside = omega (arith, ap length e, length_tab (occurs (take i text)) 0 256)

  so_far : get_or counts b 0 ≡ occurs (take i text) b
  so_far = ap (λ (s : List ℕ). get_or s b 0) e ∙ tab_at _ 256 b small

  one_more : i < length text → set counts b (get_or counts b 0 + 1) ≡ tab (occurs (take (suc i) text)) 0 256
  one_more h =
      let v = get_or counts b 0 + 1 in
      ap (λ (s : List ℕ). set s b v) e
      ∙ tab_set _ _ 256 b v small
      (occurs_more text i b h ∙ rw (eq-eqb (get_or text i 0) b (sym this), so_far))
      (λ j n. occurs_more text i j h ∙ rw (ne_eqb (get_or text i 0) j (λ q. n (sym q ∙ sym this)), add-zero (occurs (take i text) j)))

pub loop-b-init : goal.loop-b-init
loop-b-init c = c.requires.1 ∙ tab_zeros _ 256 occurs_none

pub bounds-counts-from : goal.bounds-counts-from
bounds-counts-from c = inside c.args.text.now _ c.loop-b.invariant c.from.ensures (c.type_inv.text c.loop-b.b-index).fits

pub bounds-counts-from-in-loop-b : goal.bounds-counts-from-in-loop-b
bounds-counts-from-in-loop-b c = inside c.args.text.now _ c.loop-b.invariant c.from.ensures (c.type_inv.text c.loop-b.b-index).fits

pub overflow_add-counts : goal.overflow_add-counts
overflow_add-counts c =
    let text = c.args.text.now in
    let i = c.loop-b.b-index in
    omega (
      arith,
      so_far text i c.loop-b.invariant c.from.ensures (c.type_inv.text i).fits,
      occurs_le (take i text) c.from.result,
      length-take-le i text c.loop-b.auto.b-index-end,
      c.requires.0,
      limit_fits,
    )

pub loop-b-preserved : goal.loop-b-preserved
loop-b-preserved c =
    let i = c.loop-b.b-index in
    rw (add-one i) (one_more c.args.text.now i c.loop-b.invariant c.from.ensures (c.type_inv.text i).fits c.loop-b-test.true)

pub returns : goal.returns
unfolding counts_of
returns c =
    let text = c.args.text.now in
    let e : c.loop-b.b-index ≡ length text = omega arith in
    c.loop-b.invariant ∙ ap (λ (s : List ℕ). tab (occurs s) 0 256) (ap (λ (n : ℕ). take n text) e ∙ take-length text)
