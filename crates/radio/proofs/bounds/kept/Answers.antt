-- `radio::bounds::kept` meets its contract.
use Rattle.std.proofs.Common.{◌≡◌, sym, ap, ◌∙◌, true, ◌&&◌, ltb, leb, ℕ, ◌-◌, ◌^◌, ◌≤◌, length, length-take-le, arith}
use borrow.Author.Tests.{le-leb, lt-leb}
use borrow.Author.Rules.{rules}
use Rattle.ground.specs.Paper.Limit.{limit}
use Rattle.ground.specs.Laws.Tests.{true_yes}
use Rattle.texts.specs.Paper.Hits.{good_pattern, most_pattern}
use Rattle.texts.specs.Laws.Patterns.{pattern_least}
use Rattle.radio.specs.Paper.Matching.{whole_bit}
use Rattle.radio.specs.Paper.Operations.{pattern_in, in_bounds}
use Rattle.radio.specs.declared.records.Searcher.{Searcher}
use Rattle.radio.specs.Laws.Operations.{kept_1, kept_5, kept_11, kept_bounds, kept_accepted}
use Rattle.radio.proofs.bounds.kept.Goals as goal
use Rattle.radio.proofs.bounds.kept.Goals.{then-length-gt-MOST_PATTERN-via-then-length-gt-MOST_PATTERN, then-length-gt-MOST_PATTERN-via-else-length-gt-MOST_PATTERN+then-not-good_pattern, then-not-judge_bounds-via-then-not-judge_bounds, then-not-judge_bounds-via-else-not-judge_bounds+then-not-bits_within, then-not-judge_bounds-via-else-not-judge_bounds+else-not-bits_within+then-not-bits_within-2}

module _ (s : Searcher) (m : s.length ≤ most_pattern) where
  pattern_is : (leb s.length most_pattern && good_pattern (pattern_in s)) ≡ good_pattern (pattern_in s)
  pattern_is = rw (le-leb _ _ m)

  module _ (l : length s.pattern ≡ most_pattern) where
    long : length (pattern_in s) ≡ s.length
    long = length-take-le s.length s.pattern (omega arith)

    -- a good pattern has a character
    some : good_pattern (pattern_in s) ≡ true → 1 ≤ s.length
    some g = omega (arith, long, pattern_least (pattern_in s) (true_yes _ g))

    bit_is : ltb s.ends (2 ^ (s.length - 1)) ≡ ltb s.ends (whole_bit (pattern_in s))
    bit_is = ap (λ (n : ℕ). ltb s.ends (2 ^ (n - 1))) (sym long)

pub returns-then-not-good_table : goal.returns-then-not-good_table
returns-then-not-good_table c = record { says = sym (kept_1 _ (sym c.good_table.ensures ∙ c.if-not-good_table.true)) }

pub returns-then-limit-roll : goal.returns-then-limit-roll
returns-then-limit-roll c =
    record { says = sym (kept_5 _ (sym c.good_table.ensures ∙ c.if-not-good_table.false) (omega (arith, c.if-limit-roll.true, c.limit.ensures))) }

pub returns-then-length-gt-MOST_PATTERN : goal.returns-then-length-gt-MOST_PATTERN
returns-then-length-gt-MOST_PATTERN c =
    let s = c.args.searcher in
    let t = sym c.good_table.ensures ∙ c.if-not-good_table.false in
    let h : s.judge.roll.h ≤ limit = omega (arith, c.if-limit-roll.false, c.limit.ensures) in
    elim c.then-length-gt-MOST_PATTERN.branch [
      | then-length-gt-MOST_PATTERN-via-then-length-gt-MOST_PATTERN w ↦ record { says = sym (kept_11 s t h (rw (lt-leb _ _ w.if-length-gt-MOST_PATTERN.true))) }
      | then-length-gt-MOST_PATTERN-via-else-length-gt-MOST_PATTERN+then-not-good_pattern w ↦
          record { says = sym (kept_11 s t h (pattern_is s w.if-length-gt-MOST_PATTERN.false ∙ sym w.good_pattern.ensures ∙ w.if-not-good_pattern.true)) }
    ]

pub judge_bounds-requires : goal.judge_bounds-requires
judge_bounds-requires c = true_yes _ (sym c.good_table.ensures ∙ c.if-not-good_table.false)

pub overflow_sub-searcher : goal.overflow_sub-searcher
overflow_sub-searcher c =
    let s = c.args.searcher in
    let l : length s.pattern ≡ most_pattern = search rules in
    some s c.if-length-gt-MOST_PATTERN.false l (sym c.good_pattern.ensures ∙ c.if-not-good_pattern.false)

pub returns-then-not-judge_bounds : goal.returns-then-not-judge_bounds
unfolding in_bounds
returns-then-not-judge_bounds c =
    let s = c.args.searcher in
    let l : length s.pattern ≡ most_pattern = search rules in
    let m = c.if-length-gt-MOST_PATTERN.false in
    let t = sym c.good_table.ensures ∙ c.if-not-good_table.false in
    let h : s.judge.roll.h ≤ limit = omega (arith, c.if-limit-roll.false, c.limit.ensures) in
    let p = pattern_is s m ∙ sym c.good_pattern.ensures ∙ c.if-not-good_pattern.false in
    elim c.then-not-judge_bounds.branch [
      | then-not-judge_bounds-via-then-not-judge_bounds w ↦ record { says = sym (kept_bounds s t h p (rw (sym c.judge_bounds.ensures ∙ w.if-not-judge_bounds.true))) }
      | then-not-judge_bounds-via-else-not-judge_bounds+then-not-bits_within w ↦
          record { says = sym (kept_bounds s t h p (rw (sym c.judge_bounds.ensures ∙ w.if-not-judge_bounds.false, sym w.bits_within.ensures ∙ w.if-not-bits_within.true))) }
      | then-not-judge_bounds-via-else-not-judge_bounds+else-not-bits_within+then-not-bits_within-2 w ↦
          record {
            says = sym (kept_bounds s t h p (rw (
              sym c.judge_bounds.ensures ∙ w.if-not-judge_bounds.false,
              sym w.bits_within.ensures ∙ w.if-not-bits_within.false,
              sym (bit_is s m l) ∙ sym w.bits_within-else-not-bits_within.ensures ∙ w.if-not-bits_within-2.true,
            )));
          }
    ]

pub returns : goal.returns
unfolding in_bounds
returns c =
    let s = c.args.searcher in
    let l : length s.pattern ≡ most_pattern = search rules in
    let m = c.if-length-gt-MOST_PATTERN.false in
    let t = sym c.good_table.ensures ∙ c.if-not-good_table.false in
    let h : s.judge.roll.h ≤ limit = omega (arith, c.if-limit-roll.false, c.limit.ensures) in
    let p = pattern_is s m ∙ sym c.good_pattern.ensures ∙ c.if-not-good_pattern.false in
    record {
      says = sym (kept_accepted s t h p (rw (
        sym c.judge_bounds.ensures ∙ c.if-not-judge_bounds.false,
        sym c.bits_within.ensures ∙ c.if-not-bits_within.false,
        sym (bit_is s m l) ∙ sym c.bits_within-else-not-bits_within.ensures ∙ c.if-not-bits_within-2.false,
      )));
    }
