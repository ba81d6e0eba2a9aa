-- A good pattern: what proofs may use of it.
use Rattle.std.specs.Prelude.{◌≡◌, ◌⊎◌, Bool, ◌&&◌, List, ℕ, ◌≤◌, ◌<◌, T, leb, length}
use Rattle.std.proofs.Math.Path.{refl}
use Rattle.std.proofs.Common.{subst, inl, inr, arith, leb→le}
use Rattle.std.proofs.Math.Bool.{true, false, not}
use borrow.Author.Tests.{lt-leb, le-leb}
use Rattle.std.proofs.Math.Facts.{and_yes, not_T}
use Rattle.ground.specs.Laws.Tests.{yes_true}
use Rattle.stopper.specs.Paper.Table.{has}
use Rattle.stopper.specs.Laws.Characters.{◌∈◌, has_mem, mem_has}
use Rattle.texts.specs.Paper.Hits.{good_pattern, most_pattern}

module _ (pattern : List ℕ) where
  -- too short or too long
  pub pattern_bad : (length pattern < 1) ⊎ (most_pattern < length pattern) → good_pattern pattern ≡ false
  unfolding good_pattern
  pattern_bad (inl h) = rw (lt-leb 1 (length pattern) h)
  pattern_bad (inr h) = rw (le-leb 1 (length pattern) (omega arith), lt-leb (length pattern) most_pattern h)

  -- with byte 10
  pub pattern_newline : 10 ∈ pattern → good_pattern pattern ≡ false
  unfolding good_pattern
  pattern_newline m = rw (yes_true (has 10 pattern) (mem_has pattern 10 m)) (never_good (leb 1 (length pattern)) (leb (length pattern) most_pattern))
    where
      never_good : (a b : Bool) → (a && (b && false)) ≡ false
      never_good true true = refl
      never_good true false = refl
      never_good false b = refl

  good_parts : T (good_pattern pattern) → T (leb 1 (length pattern)) × T (leb (length pattern) most_pattern)
  unfolding good_pattern
  good_parts g =
      let (least, more) = and_yes (leb 1 (length pattern)) (leb (length pattern) most_pattern && not (has 10 pattern)) g in
      (least, (and_yes (leb (length pattern) most_pattern) (not (has 10 pattern)) more).0)

  pub pattern_least : T (good_pattern pattern) → 1 ≤ length pattern
  pattern_least g = leb→le _ _ (good_parts g).0

  pub pattern_most : T (good_pattern pattern) → length pattern ≤ most_pattern
  pattern_most g = leb→le _ _ (good_parts g).1

  -- it is of one line
  pub pattern_line : T (good_pattern pattern) → 10 ∈ pattern → ⊥
  pattern_line g m = subst T (pattern_newline m) g

  pub pattern_good : 1 ≤ length pattern → length pattern ≤ most_pattern → (10 ∈ pattern → ⊥) → T (good_pattern pattern)
  unfolding good_pattern
  pattern_good low high line = rw (le-leb _ _ low, le-leb _ _ high) (not_T (has 10 pattern) (λ t. line (has_mem pattern 10 t)))
