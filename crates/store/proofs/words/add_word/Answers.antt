-- `store::words::add_word` meets its contract.
use Rattle.std.proofs.Common.{◌≡◌, sym, ap, ◌∙◌, ℕ, ◌+◌, ◌-◌, ◌*◌, ◌^◌, ◌≤◌, ◌<◌, List, length, take, drop, get_or, arith}
use Rattle.ground.specs.Laws.Rows.{get_or_below}
use Rattle.stopper.specs.Paper.Table.{longest}
use Rattle.symbols.specs.Helpers.Gathered.{digits}
use Rattle.store.specs.Helpers.Words.{word_at, WordsLaid, Numbers}
use Rattle.store.specs.Laws.Words.{lent, word_length}
use Rattle.store.proofs.words.add_word.Goals as goal

-- the length of character x, read at index b
module _ {k : ℕ} {lengths words : List ℕ} (laid : WordsLaid k lengths words) {x b long : ℕ} (small : x < 256) (at : b ≡ x) (is : long ≡ get_or lengths b 0) where
  length_is : length (word_at lengths words x) ≡ long
  length_is = word_length laid x small ∙ sym (is ∙ ap (λ (i : ℕ). get_or lengths i 0) at)

  -- a number's digits are the codeword
  number_small : {numbers : List ℕ} → Numbers k lengths words numbers → long < 9 → get_or numbers b 0 < 2 ^ (k * long)
  number_small p few = rw at (rw length_is at (p.joins x small (omega (arith, word_length laid x small, length_is))).small)

  number_is : {numbers : List ℕ} → Numbers k lengths words numbers → long < 9 → digits (2 ^ k) long (get_or numbers b 0) ≡ word_at lengths words x
  number_is p few = rw at (rw length_is at (p.joins x small (omega (arith, word_length laid x small, length_is))).symbols)

  inside : b * longest + long ≤ length words
  inside = omega (arith, get_or_below laid.few (omega arith) b, laid.places)

  lent_is : take (b * longest + long - b * longest) (drop (b * longest) words) ≡ word_at lengths words x
  lent_is = lent lengths words b is ∙ ap (word_at lengths words) at

pub add-requires : goal.add-requires
add-requires c =
    let laid = c.requires.0 in (
      laid.width,
      rw (length_is laid c.ranges.b.fits c.from-b.ensures c.from-long.ensures) at c.requires.2,
      omega arith,
      number_small laid c.ranges.b.fits c.from-b.ensures c.from-long.ensures (rw c.in-Some.is at c.requires.1) c.if-long-lt-JOINED.true,
    )

pub returns-in-Some : goal.returns-in-Some
returns-in-Some c =
    rw (number_is c.requires.0 c.ranges.b.fits c.from-b.ensures c.from-long.ensures (rw c.in-Some.is at c.requires.1) c.if-long-lt-JOINED.true) at c.add.ensures

pub slice_bounds-add_each-end : goal.slice_bounds-add_each-end
slice_bounds-add_each-end c = omega (arith, inside c.requires.0 c.ranges.b.fits c.from-b.ensures c.from-long.ensures)

pub add_each-requires : goal.add_each-requires
add_each-requires c =
    rw (lent_is c.requires.0 c.ranges.b.fits c.from-b.ensures c.from-long.ensures)
    (c.requires.0.width, c.requires.2, c.requires.0.symbols c.args.b c.ranges.b.fits)

pub returns-in_default : goal.returns-in_default
returns-in_default c =
    rw (lent_is c.requires.0 c.ranges.b.fits c.from-b.ensures c.from-long.ensures) at c.add_each.ensures
