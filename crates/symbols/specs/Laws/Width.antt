-- The widths: symbols fill a byte.
use Rattle.std.specs.Prelude.{◌≡◌, ℕ, suc, ◌+◌, ◌*◌, ◌/◌, ◌≤◌, ◌<◌}
use Rattle.std.proofs.Math.Path.{refl, subst⁻¹}
use Rattle.std.proofs.Common.{⊎_elim, mul-le-mul_left, arith}
use Rattle.symbols.specs.Paper.Symbols.{per, shift}
use Rattle.symbols.specs.Helpers.Widths.{Width}

-- by cases, with the width put in
pub by_width {ℓ} : (P : ℕ → Type ℓ) {k : ℕ} → Width k → P 2 → P 4 → P k
by_width P w two four = ⊎_elim (λ e. subst⁻¹ P e two) (λ e. subst⁻¹ P e four) w

module _ {k : ℕ} (w : Width k) where
  pub fills : k * per k ≡ 8
  unfolding per
  fills = by_width (λ k. k * (8 / k) ≡ 8) w refl refl

  pub per_pos : 0 < per k
  unfolding per
  per_pos = by_width (λ k. 0 < 8 / k) w (omega arith) (omega arith)

  pub per_few : per k ≤ 4
  unfolding per
  per_few = by_width (λ k. 8 / k ≤ 4) w (omega arith) (omega arith)

  pub narrow : k < 8
  narrow = by_width (λ k. k < 8) w (omega arith) (omega arith)

  pub wide : 0 < k
  wide = by_width (λ k. 0 < k) w (omega arith) (omega arith)

  -- a symbol, and those before it, lie within the byte
  pub ends_within : {t : ℕ} → t < per k → k * suc t ≤ 8
  ends_within h = rw fills at (mul-le-mul_left k h)

  pub shift_within : {t : ℕ} → t < per k → shift k t + k ≤ 8
  unfolding shift
  shift_within h = omega (arith, ends_within h)
