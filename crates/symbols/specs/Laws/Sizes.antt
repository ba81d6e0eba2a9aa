-- Bytes for so many symbols, and the room of a buffer.
use Rattle.std.specs.Prelude.{◌≡◌, refl, ℕ, suc, ◌+◌, ◌-◌, ◌*◌, ◌/◌, ◌%◌, ◌≤◌, ◌<◌, leb}
use Rattle.std.proofs.Math.Path.{subst⁻¹}
use Rattle.std.proofs.Common.{le_refl, le_of_lt, le_trans, lt_of_mul-lt-mul_right, suc-mul, mod-lt, div-add-mod', arith, leb→le}
use Rattle.std.proofs.Math.Nat.{lt-div-mul-add, div-mul-le_self}
use Rattle.std.proofs.Math.Dec.{nleb→lt}
use Rattle.ground.specs.Paper.Limit.{limit}
use Rattle.ground.specs.Laws.Tests.{cond_yes, cond_no, by_test}
use Rattle.symbols.specs.Paper.Symbols.{per, bytes_for, room}
use Rattle.symbols.specs.Helpers.Widths.{Width}
use Rattle.symbols.specs.Laws.Width.{per_pos}

module _ {k : ℕ} (w : Width k) where
  -- the bytes hold the symbols, and one byte less would not
  pub bytes_for_enough : (h : ℕ) → h ≤ bytes_for k h * per k
  unfolding bytes_for
  bytes_for_enough h = omega (arith, per_pos w, lt-div-mul-add {a = h + (per k - 1)} {b = per k} (per_pos w))

  pub bytes_for_least : (h : ℕ) → bytes_for k h * per k < h + per k
  unfolding bytes_for
  bytes_for_least h = omega (arith, per_pos w, div-mul-le_self (h + (per k - 1)) (per k))

  pub bytes_for_within : (h n : ℕ) → h ≤ n * per k → bytes_for k h ≤ n
  bytes_for_within h n l =
      let q : bytes_for k h * per k < suc n * per k = omega (arith, bytes_for_least h, suc-mul n (per k)) in
      omega (arith, lt_of_mul-lt-mul_right (per k) q)

  pub bytes_for_mono : (g h : ℕ) → g ≤ h → bytes_for k g ≤ bytes_for k h
  bytes_for_mono g h l = bytes_for_within g (bytes_for k h) (le_trans l (bytes_for_enough h))

  -- and no other number does
  pub bytes_for_one : (h n : ℕ) → h ≤ n * per k → n * per k < h + per k → bytes_for k h ≡ n
  bytes_for_one h n l g =
      let q : n * per k < suc (bytes_for k h) * per k = omega (arith, bytes_for_enough h, suc-mul (bytes_for k h) (per k)) in
      omega (arith, bytes_for_within h n l, lt_of_mul-lt-mul_right (per k) q)

  -- whole bytes
  pub bytes_for_full : (n : ℕ) → bytes_for k (n * per k) ≡ n
  bytes_for_full n = bytes_for_one (n * per k) n (le_refl (n * per k)) (omega (arith, per_pos w))

  -- for this crate alone: with and without symbols in one byte more
  pub bytes_for_even : (h : ℕ) → h % per k ≡ 0 → bytes_for k h ≡ h / per k
  bytes_for_even h e = bytes_for_one h (h / per k) (omega (arith, div-add-mod' h (per k))) (omega (arith, div-add-mod' h (per k), per_pos w))

  pub bytes_for_odd : (h : ℕ) → (h % per k ≡ 0 → ⊥) → bytes_for k h ≡ h / per k + 1
  bytes_for_odd h e =
      bytes_for_one h (h / per k + 1)
      (omega (arith, div-add-mod' h (per k), mod-lt h (per_pos w)))
      (omega (arith, div-add-mod' h (per k)))

-- what holds of the limit, where the buffer holds more, and of all its symbols, where it does not, holds of the room
room_by : (k n : ℕ) (P : ℕ → Type 0) → (limit ≤ n * per k → P limit) → (n * per k < limit → P (n * per k)) → P (room k n)
unfolding room
room_by k n P f g =
    by_test (leb limit (n * per k))
    (λ t. subst⁻¹ P (cond_yes (leb limit (n * per k)) limit (n * per k) t) (f (leb→le _ _ t)))
    (λ t. subst⁻¹ P (cond_no (leb limit (n * per k)) limit (n * per k) t) (g (nleb→lt _ _ t)))

pub room_limit : (k n : ℕ) → room k n ≤ limit
room_limit k n = room_by k n (λ r. r ≤ limit) (λ l. le_refl limit) le_of_lt

pub room_within : (k n : ℕ) → room k n ≤ n * per k
room_within k n = room_by k n (λ r. r ≤ n * per k) (λ l. l) (λ l. le_refl (n * per k))

pub room_full : (k n : ℕ) → limit ≤ n * per k → room k n ≡ limit
room_full k n h = room_by k n (λ r. r ≡ limit) (λ l. refl) (λ l. omega arith)

pub room_all : (k n : ℕ) → n * per k < limit → room k n ≡ n * per k
room_all k n h = room_by k n (λ r. r ≡ n * per k) (λ l. omega arith) (λ l. refl)

pub room_bytes : {k : ℕ} → Width k → (h n : ℕ) → h ≤ room k n → bytes_for k h ≤ n
room_bytes {k} w h n l = bytes_for_within w h n (le_trans l (room_within k n))
