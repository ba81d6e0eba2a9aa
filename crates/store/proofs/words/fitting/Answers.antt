-- `store::words::fitting` meets its contract: what is left of the text under what is left of the room.
use Rattle.std.proofs.Common.{◌≡◌, sym, ap, ◌∙◌, true, false, ℕ, suc, ◌+◌, ◌-◌, ◌<◌, List, [], length, drop, get_or, drop-cons, add-one, arith}
use lib.Seq.{drop-length}
use Rattle.store.specs.Helpers.Words.{goes_on, upto_of, taken_of, fit_of}
use Rattle.store.specs.Laws.Words.{goes_parts, upto_more, taken_more, upto_stop, taken_stop}
use Rattle.store.specs.declared.words.Fit.{Fit}
use Rattle.store.proofs.words.fitting.Invariants.{Passed}
use Rattle.store.proofs.words.fitting.Goals as goal

module _ (lengths : List ℕ) (room : ℕ) (text : List ℕ) where
  found : {i taken : ℕ} → i ≡ upto_of lengths room text → taken ≡ taken_of lengths room text
      → ◌≡◌ {A = Fit} (record { upto = i; taken = taken }) (fit_of lengths room text)
  found e f = rw (e, f)

  module _ {i taken long : ℕ} (s : Passed lengths room text i taken) (h : i < length text) (e : long ≡ get_or lengths (get_or text i 0) 0) where
    more : goes_on long (room - taken) ≡ true → Passed lengths room text (i + 1) (taken + long)
    more g =
        let q : goes_on (get_or lengths (get_or text i 0) 0) (room - taken) ≡ true = rw (← e) g in
        let rest = drop (suc i) text in
        let left : room - (taken + long) ≡ room - taken - get_or lengths (get_or text i 0) 0 = omega arith in
        let u : upto_of lengths (room - taken) (drop i text) ≡ suc (upto_of lengths (room - taken - get_or lengths (get_or text i 0) 0) rest)
        = ap (upto_of lengths (room - taken)) (drop-cons text i 0 h) ∙ upto_more lengths (room - taken) (get_or text i 0) rest q in
        let t : taken_of lengths (room - taken) (drop i text) ≡ get_or lengths (get_or text i 0) 0 + taken_of lengths (room - taken - get_or lengths (get_or text i 0) 0) rest
        = ap (taken_of lengths (room - taken)) (drop-cons text i 0 h) ∙ taken_more lengths (room - taken) (get_or text i 0) rest q in
        record {
          fits = omega (arith, s.fits, goes_parts long (room - taken) g);
          upto = rw (add-one i, left) (omega (arith, u, s.upto));
          takes = rw (add-one i, left) (omega (arith, t, s.takes, e));
        }

    stop : goes_on long (room - taken) ≡ false → ◌≡◌ {A = Fit} (record { upto = i; taken = taken }) (fit_of lengths room text)
    stop g =
        let q : goes_on (get_or lengths (get_or text i 0) 0) (room - taken) ≡ false = rw (← e) g in
        let rest = drop (suc i) text in
        let u : upto_of lengths (room - taken) (drop i text) ≡ 0
        = ap (upto_of lengths (room - taken)) (drop-cons text i 0 h) ∙ upto_stop lengths (room - taken) (get_or text i 0) rest q in
        let t : taken_of lengths (room - taken) (drop i text) ≡ 0
        = ap (taken_of lengths (room - taken)) (drop-cons text i 0 h) ∙ taken_stop lengths (room - taken) (get_or text i 0) rest q in
        found (omega (arith, u, s.upto)) (omega (arith, t, s.takes))

  all : {taken : ℕ} → Passed lengths room text (length text) taken → ◌≡◌ {A = Fit} (record { upto = length text; taken = taken }) (fit_of lengths room text)
  unfolding upto_of taken_of
  all {taken} s =
      let d : drop (length text) text ≡ [] = drop-length text in
      found (omega (arith, ap (upto_of lengths (room - taken)) d, s.upto)) (omega (arith, ap (taken_of lengths (room - taken)) d, s.takes))

-- the length of the character in hand
long : (lengths : List ℕ) {x b n : ℕ} → b ≡ x → n ≡ get_or lengths b 0 → n ≡ get_or lengths x 0
long lengths b_is is = is ∙ ap (λ (b : ℕ). get_or lengths b 0) b_is

pub returns-then-not-goes_on : goal.returns-then-not-goes_on
returns-then-not-goes_on c =
    stop c.args.words.now.lengths c.args.room c.args.text.now c.loop-i.invariant (omega arith) (long c.args.words.now.lengths c.from.ensures c.from-long.ensures)
    (sym c.goes_on.ensures ∙ c.if-not-goes_on.true)

pub overflow_add-taken : goal.overflow_add-taken
overflow_add-taken c = omega (arith, goes_parts _ _ (sym c.goes_on.ensures ∙ c.if-not-goes_on.false))

pub loop-i-preserved : goal.loop-i-preserved
loop-i-preserved c =
    more c.args.words.now.lengths c.args.room c.args.text.now c.loop-i.invariant (omega arith) (long c.args.words.now.lengths c.from.ensures c.from-long.ensures)
    (sym c.goes_on.ensures ∙ c.if-not-goes_on.false)

pub returns : goal.returns
returns c =
    let e : c.loop-i.i ≡ length c.args.text.now = omega arith in
    all c.args.words.now.lengths c.args.room c.args.text.now (rw e at c.loop-i.invariant)
