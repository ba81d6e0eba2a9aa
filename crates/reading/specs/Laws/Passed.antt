-- Codewords passed over one after the other.
use Rattle.std.specs.Prelude.{◌≡◌, List, Some, None, Ok, Err}
use Rattle.std.proofs.Math.Path.{ap}
use Rattle.std.proofs.Common.{◌∙◌}
use Prim.Native.Nat.{ℕ, suc, ◌-◌, ◌≤◌, ◌<◌}
use native.Mathlib.Omega.{arith}
use Rattle.stopper.specs.declared.code.Code.{Code}
use Rattle.reading.specs.Helpers.Codewords.{found_at, passed_from}
use Rattle.reading.specs.declared.codewords.Word.{Word}

module _ (c : Code) (σ : ℕ) (row : List ℕ) where
  -- passing over one codeword more
  pub pass_word : {word : Word} (p left : ℕ) → 0 < left → Some word ≡ found_at c σ row p → passed_from c σ row p left ≡ passed_from c σ row word.next (left - 1)
  unfolding passed_from
  pass_word p left h e = let l : left ≡ suc (left - 1) = omega arith in ap (passed_from c σ row p) l ∙ rw (← e)

  pub pass_bad : (p left : ℕ) → 0 < left → None ≡ found_at c σ row p → passed_from c σ row p left ≡ Err (record { first = p })
  unfolding passed_from
  pass_bad p left h e = let l : left ≡ suc (left - 1) = omega arith in ap (passed_from c σ row p) l ∙ rw (← e)

  pub pass_none : (p left : ℕ) → left ≤ 0 → passed_from c σ row p left ≡ Ok p
  unfolding passed_from
  pass_none p left h = let l : left ≡ 0 = omega arith in ap (passed_from c σ row p) l
