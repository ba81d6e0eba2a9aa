-- The digits of a number, and a row packed. That it reads back, and that a byte is its symbols, stands in proofs/Laws/Packing.
use Rattle.std.specs.Prelude.{◌≡◌, refl, List}
use Rattle.std.proofs.Math.Path.{sym, ap}
use Rattle.std.proofs.Common.{ap₂, ◌∙◌, le_refl, pow-suc, mul_comm, mul-zero, mul-suc, add-zero, add-suc, pow_pos, pow-add}
use Prim.Native.Nat.{ℕ, zero, suc, ◌+◌, ◌-◌, ◌*◌, ◌/◌, ◌%◌, ◌^◌, ◌<◌}
use Rattle.std.proofs.Math.Nat.{mod-one, one-le-pow, div-div-eq-div-mul, div-one, pow-zero}
use native.Mathlib.Omega.{arith}
use Rattle.std.proofs.Math.Arith.{mod-mul, digits_lt, digits_div, digits_mod}
use Rattle.std.proofs.Math.ListN.{length, get_or}
use Rattle.ground.specs.Helpers.Below.{Below}
use Rattle.ground.specs.Laws.Rows.{length_tab, tab_below, get_or_below}
use Rattle.symbols.specs.Paper.Symbols.{per, bytes_for, number, byte_at, bytes_of}
use Rattle.symbols.specs.Helpers.Widths.{Width}
use Rattle.symbols.specs.Laws.Width.{fills}

-- ---- digits

pub pow_mul : (n i j : ℕ) → n ^ (i * j) ≡ (n ^ i) ^ j
pow_mul n i zero = rw (mul-zero, pow-zero n, pow-zero (n ^ i))
pow_mul n i (suc j) = rw (mul-suc, pow-add, pow_mul n i j, pow-suc)

-- digit t, with d digits after it
number_digit : (m : ℕ) (f : ℕ → ℕ) → ((j : ℕ) → f j < m) → (t d : ℕ) → number m f (suc (t + d)) / m ^ d % m ≡ f t
unfolding number
number_digit m f h t zero = rw (add-zero, pow-zero, div-one) (digits_mod (number m f t) (h t))
number_digit m f h t (suc d) =
    rw (add-suc, pow-suc, mul_comm (m ^ d) m, ← div-div-eq-div-mul, digits_div (number m f (suc (t + d))) (h (suc (t + d)))) (number_digit m f h t d)

pub number_lt : (m : ℕ) (f : ℕ → ℕ) → ((j : ℕ) → f j < m) → (n : ℕ) → number m f n < m ^ n
unfolding number
number_lt m f h zero = rw pow-zero (omega arith)
number_lt m f h (suc n) = rw pow-suc (digits_lt (number_lt m f h n) (h n))

pub number_ext : (m : ℕ) (f g : ℕ → ℕ) (n : ℕ) → ((t : ℕ) → t < n → f t ≡ g t) → number m f n ≡ number m g n
unfolding number
number_ext m f g zero e = refl
number_ext m f g (suc n) e = ap₂ (λ (a b : ℕ). a * m + b) (number_ext m f g n (λ t h. e t (omega arith))) (e n (le_refl (suc n)))

-- the first n digits of N, read off b
pub number_back : (m b N : ℕ) → 0 < m → (n e : ℕ) → n + e ≡ N → number m (λ t. b / m ^ (N - suc t) % m) n ≡ b / m ^ e % m ^ n
unfolding number
number_back m b N h zero e q = rw (pow-zero m, mod-one)
number_back m b N h (suc n) e q =
    let r : N - suc n ≡ e = omega arith in
    rw (number_back m b N h n (suc e) (omega arith), r, pow-suc m e, ← div-div-eq-div-mul, pow-suc m n) (sym (mod-mul (b / m ^ e) (one-le-pow n m h) h))

-- digit t of n, in base 2 ^ k, by a shift
pub digit_shift : (k : ℕ) (f : ℕ → ℕ) → ((j : ℕ) → f j < 2 ^ k) → (n t d : ℕ) → n ≡ suc (t + d)
    → number (2 ^ k) f n / 2 ^ (k * n - k * suc t) % 2 ^ k ≡ f t
digit_shift k f h n t d e =
    let q : k * suc (t + d) - k * suc t ≡ k * d = omega arith in
    rw (e, q, pow_mul) (number_digit (2 ^ k) f h t d)

module _ {k : ℕ} (w : Width k) where
  -- ---- a row packed

  pub bytes_length : (xs : List ℕ) → length (bytes_of k xs) ≡ bytes_for k (length xs)
  unfolding bytes_of
  bytes_length xs = length_tab (byte_at k xs) 0 (bytes_for k (length xs))

  pub bytes_below : {xs : List ℕ} → Below (2 ^ k) xs → Below 256 (bytes_of k xs)
  unfolding bytes_of byte_at
  bytes_below {xs} h =
      let top : (2 ^ k) ^ per k ≡ 256 = sym (pow_mul 2 k (per k)) ∙ ap (λ (z : ℕ). 2 ^ z) (fills w) in
      tab_below (byte_at k xs) 256 0 _
      (λ j. rw top at (number_lt (2 ^ k) (λ t. get_or xs (j * per k + t) 0) (λ t. get_or_below h (pow_pos k) _) (per k)))
