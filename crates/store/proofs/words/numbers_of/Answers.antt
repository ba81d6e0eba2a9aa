-- `store::words::numbers_of` meets its contract: the codewords of the characters passed are joined.
use Rattle.std.proofs.Common.{◌≡◌, ℕ, ◌+◌, ◌<◌, List, length, get_or, set, get_or-set_same, get_or-set_other, arith}
use Rattle.std.proofs.Math.Decide.{dec_lt}
use Rattle.symbols.specs.Helpers.Gathered.{Joins}
use Rattle.store.specs.Helpers.Words.{word_at}
use Rattle.store.specs.Laws.Words.{lent, word_length}
use Rattle.store.proofs.words.numbers_of.Invariants.{Joined}
use Rattle.store.proofs.words.numbers_of.Goals as goal
use Rattle.store.proofs.words.numbers_of.Goals.{then-long-lt-JOINED, else-long-lt-JOINED}

-- one more, whose number is that of its codeword if it is short
more : {k : ℕ} {lengths words numbers : List ℕ} {b : ℕ} → Joined k lengths words numbers b → b < length numbers → {v : ℕ} → (get_or lengths b 0 < 9 → Joins k (word_at lengths words b) v)
    → Joined k lengths words (set numbers b v) (b + 1)
more {k} {lengths} {words} {numbers} {b} a h {v} j = record { joins = λ x l few. at x l few (dec_lt x b) }
  where
    at : (x : ℕ) → x < b + 1 → get_or lengths x 0 < 9 → Dec (x < b) → Joins k (word_at lengths words x) (get_or (set numbers b v) x 0)
    at x l few (yes d) = rw (get_or-set_other numbers b x v 0 (λ e. omega arith)) (a.joins x d few)
    at x l few (no d) =
        let e : x ≡ b = omega arith in
        rw (e, get_or-set_same numbers b v 0 h) (j (rw e at few))

pub join_all-requires : goal.join_all-requires
join_all-requires c =
    let b = c.loop-b.b in
    let h : b < 256 = omega arith in
    rw (lent c.args.words.now.lengths c.args.words.now.symbols b c.from-long.ensures)
    (c.requires.width, c.requires.symbols b h, omega (arith, word_length c.requires b h, c.from-long.ensures))

pub loop-b-preserved : goal.loop-b-preserved
loop-b-preserved c =
    elim c.if-long-lt-JOINED.branch [
      | then-long-lt-JOINED v ↦
          rw v.number-items-is
          (more c.loop-b.invariant (omega arith) (λ few. rw (lent c.args.words.now.lengths c.args.words.now.symbols c.loop-b.b c.from-long.ensures) at v.join_all.ensures))
      | else-long-lt-JOINED v ↦
          rw v.number-items-is
          (more c.loop-b.invariant (omega arith) (λ few. absurd (omega (arith, few, v.if-long-lt-JOINED.false, c.from-long.ensures))))
    ]
