-- A symbol cut out of a number that was put together of parts. Once over the width and the shift.
use mathlib.Core.Path.{◌≡◌, ◌∙◌, sym, ap, subst}
use Prim.Native.Nat.{ℕ, suc, ◌+◌, ◌*◌, ◌-◌, ◌/◌, ◌%◌, ◌^◌, ◌≤◌, ◌<◌}
use native.Mathlib.Nat.{mod-lt, mul-add}
use native.Mathlib.Omega.{arith}
use lib.Pow.{pow_pos, split, high, low, shr_lt, shr-shr, field, mod-mod-pow}
use Rattle.symbols.specs.Paper.Symbols.{per, shift}
use Rattle.symbols.specs.Helpers.Widths.{Width}
use Rattle.symbols.specs.Helpers.Bits.{cut_out, laid_in, joined}
use Rattle.symbols.specs.Laws.Width.{fills, ends_within}

-- above the s lowest bits, and among them
in_high : (k e s hi lo : ℕ) → lo < 2 ^ s → cut_out k (s + e) (hi * 2 ^ s + lo) ≡ cut_out k e hi
in_high k e s hi lo h =
    ap (λ (x : ℕ). x % 2 ^ k) (sym (shr-shr (hi * 2 ^ s + lo) s e) ∙ ap (λ (x : ℕ). x / 2 ^ e) (high hi s h))

in_low : (k t s hi lo : ℕ) → lo < 2 ^ s → t + k ≤ s → cut_out k t (hi * 2 ^ s + lo) ≡ cut_out k t lo
in_low k t s hi lo h le =
    let e : (s - (k + t)) + (k + t) ≡ s = omega arith in
    let cut : (n : ℕ) → n % 2 ^ s % 2 ^ (k + t) ≡ n % 2 ^ (k + t) =
    subst (λ (v : ℕ). (n : ℕ) → n % 2 ^ v % 2 ^ (k + t) ≡ n % 2 ^ (k + t)) e (λ n. mod-mod-pow n (s - (k + t)) (k + t)) in
    sym (field (hi * 2 ^ s + lo) k t)
    ∙ ap (λ (x : ℕ). x / 2 ^ t) (sym (cut (hi * 2 ^ s + lo)) ∙ ap (λ (x : ℕ). x % 2 ^ (k + t)) (low hi s h))
    ∙ field lo k t

-- ---- a number with a symbol laid in: at its own shift, at one above, at one below

pub same : (k s y b : ℕ) → y < 2 ^ k → cut_out k s (laid_in k s y b) ≡ y
same k s y b h =
    ap (λ (x : ℕ). x % 2 ^ k) (high (b / 2 ^ (k + s) * 2 ^ k + y) s (mod-lt b (pow_pos s)))
    ∙ low (b / 2 ^ (k + s)) k h

pub above : (k s t y b : ℕ) → y < 2 ^ k → s + k ≤ t → cut_out k t (laid_in k s y b) ≡ cut_out k t b
above k s t y b h le =
    let d = t - (s + k) in
    let e : s + (k + d) ≡ t = omega arith in
    let f : k + s + d ≡ t = omega arith in
    ap (λ (n : ℕ). cut_out k n (laid_in k s y b)) (sym e)
    ∙ in_high k (k + d) s (b / 2 ^ (k + s) * 2 ^ k + y) (b % 2 ^ s) (mod-lt b (pow_pos s))
    ∙ in_high k d k (b / 2 ^ (k + s)) y h
    ∙ ap (λ (x : ℕ). x % 2 ^ k) (shr-shr b (k + s) d)
    ∙ ap (λ (n : ℕ). cut_out k n b) f

pub below : (k s t y b : ℕ) → t + k ≤ s → cut_out k t (laid_in k s y b) ≡ cut_out k t b
below k s t y b le =
    in_low k t s (b / 2 ^ (k + s) * 2 ^ k + y) (b % 2 ^ s) (mod-lt b (pow_pos s)) le
    ∙ sym (in_low k t s (b / 2 ^ s) (b % 2 ^ s) (mod-lt b (pow_pos s)) le)
    ∙ ap (cut_out k t) (split b s)

-- ---- symbols of two bytes joined, from place p of the first on

module _ {k : ℕ} (w : Width k) (p hi lo : ℕ) (inside : p < per k) (small : lo < 2 ^ 8) where
  low_small : lo / 2 ^ (8 - k * p) < 2 ^ (k * p)
  low_small =
      let e : k * p + (8 - k * p) ≡ 8 = omega (arith, ends_within w inside) in
      shr_lt (k * p) (8 - k * p) (rw e small)

  pub from_first : (t : ℕ) → p + t < per k → cut_out k (shift k t) (joined (k * p) hi lo) ≡ cut_out k (shift k (p + t)) hi
  unfolding shift
  from_first t h =
      let e : k * p + (8 - k * suc (p + t)) ≡ 8 - k * suc t = omega (arith, ends_within w h) in
      let f : (k * t + k) + (8 - k * suc (p + t)) ≡ 8 - k * p = omega (arith, ends_within w h) in
      ap (λ (n : ℕ). cut_out k n (joined (k * p) hi lo)) (sym e)
      ∙ in_high k (8 - k * suc (p + t)) (k * p) (hi % 2 ^ (8 - k * p)) (lo / 2 ^ (8 - k * p)) low_small
      ∙ ap (λ (n : ℕ). cut_out k (8 - k * suc (p + t)) (hi % 2 ^ n)) (sym f)
      ∙ ap (λ (x : ℕ). x % 2 ^ k) (field hi (k * t + k) (8 - k * suc (p + t)))
      ∙ mod-mod-pow (hi / 2 ^ (8 - k * suc (p + t))) (k * t) k

  pub from_second : (t u : ℕ) → t < per k → p + t ≡ per k + u → cut_out k (shift k t) (joined (k * p) hi lo) ≡ cut_out k (shift k u) lo
  unfolding shift
  from_second t u h q =
      let m : k * p + k * t ≡ 8 + k * u = sym (mul-add k p t) ∙ ap (λ (n : ℕ). k * n) q ∙ mul-add k (per k) u ∙ ap (λ (n : ℕ). n + k * u) (fills w) in
      let e : (8 - k * p) + (8 - k * suc t) ≡ 8 - k * suc u = omega (arith, ends_within w h, ends_within w inside) in
      in_low k (8 - k * suc t) (k * p) (hi % 2 ^ (8 - k * p)) (lo / 2 ^ (8 - k * p)) low_small (omega (arith, ends_within w h))
      ∙ ap (λ (x : ℕ). x % 2 ^ k) (shr-shr lo (8 - k * p) (8 - k * suc t))
      ∙ ap (λ (n : ℕ). cut_out k n lo) e
