-- What came in: the pattern and the text of an input cut short, and why the first 16,450 bytes are enough.
use Rattle.std.specs.Prelude.{◌≡◌, refl, Bool, true, false, cond, ◌&&◌, List, [], ◌∷◌, ℕ, zero, suc, ◌+◌, ◌-◌, ◌≤◌, ◌<◌, leb, ltb, eqb, length, take}
use Rattle.std.proofs.Common.{sym, ap, ◌∙◌, inr, arith, leb→le, ltb→lt, nltb→le, length-take, take_all}
use Rattle.std.proofs.Math.Nat.{zero-sub, suc-sub-suc, sub-zero}
use Rattle.std.proofs.Math.Dec.{nleb→lt}
use Rattle.std.proofs.Math.Seq.{take-nil}
use Rattle.ground.specs.Laws.Tests.{by_test, true_yes}
use Rattle.stopper.specs.Paper.Table.{has}
use Rattle.texts.specs.Paper.Hits.{good_pattern}
use Rattle.texts.specs.Laws.Patterns.{pattern_bad, pattern_most}
use Rattle.report.specs.Paper.Report.{given_pattern, given_text, report_of}
use Rattle.report.specs.Laws.Answer.{report_11, report_4}

-- ---- how long they are

-- together, the byte 10 between them counted: all of the input, unless it is all pattern
pub given_whole : (input : List ℕ) → length (given_pattern input) < length input
    → suc (length (given_pattern input) + length (given_text input)) ≡ length input
unfolding given_pattern given_text
given_whole [] h = absurd (omega arith)
given_whole (b ∷ input) h = go (eqb b 10) (given_whole input) h
  where
    go : (t : Bool) → (length (given_pattern input) < length input → suc (length (given_pattern input) + length (given_text input)) ≡ length input)
        → length (cond t [] (b ∷ given_pattern input)) < suc (length input)
        → suc (length (cond t [] (b ∷ given_pattern input)) + length (cond t input (given_text input))) ≡ suc (length input)
    go true later h = omega arith
    go false later h = omega (arith, later (omega arith))

-- ---- the program's pattern ends before the first byte 10, so it is refused for its length alone

pub given_line : (input : List ℕ) → has 10 (given_pattern input) ≡ false
unfolding given_pattern has
given_line [] = refl
given_line (b ∷ input) = go (eqb b 10) refl (given_line input)
  where
    go : (t : Bool) → eqb b 10 ≡ t → has 10 (given_pattern input) ≡ false → has 10 (cond t [] (b ∷ given_pattern input)) ≡ false
    go true e later = refl
    go false e later = rw (e, later)

pub given_good : (input : List ℕ) → good_pattern (given_pattern input) ≡ (leb 1 (length (given_pattern input)) && leb (length (given_pattern input)) 64)
unfolding good_pattern
given_good input = rw (given_line input) (ap (λ (x : Bool). leb 1 (length (given_pattern input)) && x) (and_true (leb (length (given_pattern input)) 64)))
  where
    and_true : (b : Bool) → (b && true) ≡ b
    and_true true = refl
    and_true false = refl

-- ---- of the first n bytes

pub pattern_cut : (n : ℕ) (input : List ℕ) → given_pattern (take n input) ≡ take n (given_pattern input)
unfolding given_pattern
pattern_cut zero input = refl
pattern_cut (suc n) [] = refl
pattern_cut (suc n) (b ∷ input) = go (eqb b 10) (pattern_cut n input)
  where
    go : (t : Bool) → given_pattern (take n input) ≡ take n (given_pattern input)
        → cond t [] (b ∷ given_pattern (take n input)) ≡ take (suc n) (cond t [] (b ∷ given_pattern input))
    go true e = refl
    go false e = rw e

pub text_cut : (n : ℕ) (input : List ℕ) → given_text (take n input) ≡ take (n - suc (length (given_pattern input))) (given_text input)
unfolding given_pattern given_text
text_cut zero input = rw zero-sub
text_cut (suc n) [] = rw take-nil
text_cut (suc n) (b ∷ input) = rw suc-sub-suc (go (eqb b 10) (text_cut n input))
  where
    go : (t : Bool) → given_text (take n input) ≡ take (n - suc (length (given_pattern input))) (given_text input)
        → cond t (take n input) (given_text (take n input))
        ≡ take (n - length (cond t [] (b ∷ given_pattern input))) (cond t input (given_text input))
    go true e = rw sub-zero
    go false e = e

-- a pattern cut at over 64 characters is good exactly if it was
pub good_cut : (n : ℕ) (pattern : List ℕ) → 64 < n → good_pattern (take n pattern) ≡ good_pattern pattern
good_cut n pattern h =
    by_test (leb (length pattern) 64)
    (λ t. ap good_pattern (take_all n pattern (omega (arith, leb→le (length pattern) 64 t))))
    (λ t. let l : 64 < length pattern = nleb→lt (length pattern) 64 t in pattern_bad (take n pattern) (inr (rw length-take (omega arith))) ∙ sym (pattern_bad pattern (inr l)))

-- ---- the first bytes decide: 64 + 1 + 16,384 + 1

pub first_bytes_at : (n : ℕ) (input : List ℕ) → 16450 ≤ n → report_of input ≡ report_of (take n input)
first_bytes_at n input h = by_good (good_pattern (given_pattern input)) refl
  where
    good : good_pattern (given_pattern (take n input)) ≡ good_pattern (given_pattern input)
    good = rw pattern_cut (good_cut n (given_pattern input) (omega arith))

    long : length (given_pattern input) ≤ 64 → n < length input → 16384 < length (given_text (take n input))
    long s l = rw (text_cut, length-take) (omega (arith, given_whole input (omega arith)))

    both_4 : good_pattern (given_pattern input) ≡ true → n < length input → report_of input ≡ report_of (take n input)
    both_4 g l =
        let s = pattern_most (given_pattern input) (true_yes _ g) in
        report_4 input g (omega (arith, given_whole input (omega arith))) ∙ sym (report_4 (take n input) (good ∙ g) (long s l))

    by_good : (g : Bool) → good_pattern (given_pattern input) ≡ g → report_of input ≡ report_of (take n input)
    by_good false g = report_11 input g ∙ sym (report_11 (take n input) (good ∙ g))
    by_good true g =
        by_test (ltb n (length input)) (λ t. both_4 g (ltb→lt n (length input) t)) (λ t. ap report_of (sym (take_all n input (nltb→le n (length input) t))))

-- the answer is that on the first 16,450 bytes
pub first_bytes_lem : (input : List ℕ) → report_of input ≡ report_of (take 16450 input)
first_bytes_lem input = first_bytes_at 16450 input (omega arith)
