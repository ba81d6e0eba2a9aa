-- Shift and mask, in a word of w bits, once over the width k of a symbol, its shift and w.
--     mask     (1 << k) - 1
--     got      (b >> shift) & mask
--     stored   (b & !(mask << shift)) | (sym << shift)
--     shifted  (first << skip) | (second >> (w - skip))
use mathlib.Core.Path.{◌≡◌, ◌∙◌, sym, ap, ap₂, subst}
use Prim.Native.Nat.{ℕ, ◌+◌, ◌*◌, ◌-◌, ◌/◌, ◌%◌, ◌^◌, ◌≤◌, ◌<◌}
use native.Mathlib.Nat.{mod-eq_of_lt, mod-lt, one-mul, mul_assoc, mul-mod_left, add-zero}
use native.Mathlib.Omega.{arith}
use lib.Pow.{pow_pos, pow-add, shl_exact, shr_lt, split, mod-mod-pow, ones_split, ones_lt, mod-pow-add, shl-shr}
use lib.Bits.{bit_and, bit_or, and_mask, and_block, or_block, or_shifted, or_zero_r}
use Rattle.symbols.specs.Helpers.Bits.{cut_out, laid_in, joined}

pub one_shl : (w k : ℕ) → k < w → (1 * 2 ^ k) % 2 ^ w ≡ 2 ^ k
one_shl w k h = shl_exact 1 k w (omega arith) (omega arith) ∙ one-mul (2 ^ k)

pub got : (w k shift b : ℕ) → k < w → bit_and (b / 2 ^ shift) ((1 * 2 ^ k) % 2 ^ w - 1) ≡ cut_out k shift b
got w k shift b h = ap (λ (m : ℕ). bit_and (b / 2 ^ shift) (m - 1)) (one_shl w k h) ∙ and_mask (b / 2 ^ shift) k

-- !(mask << s): the j high bits and the s low ones
not_mask : (j k s : ℕ) → (2 ^ (j + (k + s)) - 1) - (2 ^ k - 1) * 2 ^ s ≡ (2 ^ j - 1) * 2 ^ (k + s) + (2 ^ s - 1)
not_mask j k s = omega (arith, ones_split j (k + s), ones_split k s)

cleared : (j k s b : ℕ) → b < 2 ^ (j + (k + s))
    → bit_and b ((2 ^ (j + (k + s)) - 1) - (2 ^ k - 1) * 2 ^ s) ≡ b / 2 ^ (k + s) * 2 ^ (k + s) + b % 2 ^ s
cleared j k s b h =
    ap₂ bit_and (sym (split b (k + s))) (not_mask j k s)
    ∙ and_block (k + s) (b / 2 ^ (k + s)) (2 ^ j - 1) (b % 2 ^ (k + s)) (2 ^ s - 1)
    (mod-lt b (pow_pos (k + s)))
    (omega (arith, ones_split k s, pow_pos s, pow_pos (k + s)))
    ∙ ap₂ (λ (x y : ℕ). x * 2 ^ (k + s) + y)
    (and_mask (b / 2 ^ (k + s)) j ∙ mod-eq_of_lt (shr_lt j (k + s) h))
    (and_mask (b % 2 ^ (k + s)) s ∙ mod-mod-pow b k s)

laid : (hi k s lo y : ℕ) → lo < 2 ^ s → y < 2 ^ k → bit_or (hi * 2 ^ (k + s) + lo) (y * 2 ^ s) ≡ (hi * 2 ^ k + y) * 2 ^ s + lo
laid hi k s lo y hl hy =
    ap₂ bit_or
    (ap (λ (x : ℕ). x + lo) (ap (λ (x : ℕ). hi * x) (pow-add 2 k s) ∙ sym (mul_assoc hi (2 ^ k) (2 ^ s))))
    (sym (add-zero (y * 2 ^ s)))
    ∙ or_block s (hi * 2 ^ k) y lo 0 hl (pow_pos s)
    ∙ ap₂ (λ (x z : ℕ). x * 2 ^ s + z) (or_shifted hi k y hy) (or_zero_r lo)

stored_at : (j k s b y : ℕ) → k < j + (k + s) → b < 2 ^ (j + (k + s)) → y < 2 ^ k
    → bit_or (bit_and b ((2 ^ (j + (k + s)) - 1) - (((1 * 2 ^ k) % 2 ^ (j + (k + s)) - 1) * 2 ^ s) % 2 ^ (j + (k + s))))
    ((y * 2 ^ s) % 2 ^ (j + (k + s)))
    ≡ laid_in k s y b
stored_at j k s b y hk hb hy =
    let w = j + (k + s) in
    let m : (((1 * 2 ^ k) % 2 ^ w - 1) * 2 ^ s) % 2 ^ w ≡ (2 ^ k - 1) * 2 ^ s =
    ap (λ (x : ℕ). ((x - 1) * 2 ^ s) % 2 ^ w) (one_shl w k hk) ∙ shl_exact k s w (ones_lt k) (omega arith) in
    ap₂ (λ (x z : ℕ). bit_or (bit_and b ((2 ^ w - 1) - x)) z) m (shl_exact k s w hy (omega arith))
    ∙ ap (λ (x : ℕ). bit_or x (y * 2 ^ s)) (cleared j k s b hb)
    ∙ laid (b / 2 ^ (k + s)) k s (b % 2 ^ s) y (mod-lt b (pow_pos s)) hy

pub stored : (w k s b y : ℕ) → k < w → s + k ≤ w → b < 2 ^ w → y < 2 ^ k
    → bit_or (bit_and b ((2 ^ w - 1) - (((1 * 2 ^ k) % 2 ^ w - 1) * 2 ^ s) % 2 ^ w)) ((y * 2 ^ s) % 2 ^ w) ≡ laid_in k s y b
stored w k s b y hk hs hb hy =
    let e : (w - (k + s)) + (k + s) ≡ w = omega arith in
    subst (λ (v : ℕ). k < v → b < 2 ^ v → bit_or (bit_and b ((2 ^ v - 1) - (((1 * 2 ^ k) % 2 ^ v - 1) * 2 ^ s) % 2 ^ v)) ((y * 2 ^ s) % 2 ^ v) ≡ laid_in k s y b)
    e (λ p q. stored_at (w - (k + s)) k s b y p q hy) hk hb

-- what is shifted out on the left is lost
shl_lost : (d s b : ℕ) → (b * 2 ^ s) % 2 ^ (d + s) ≡ b % 2 ^ d * 2 ^ s
shl_lost d s b =
    mod-pow-add (b * 2 ^ s) d s
    ∙ ap₂ (λ (x y : ℕ). x % 2 ^ d * 2 ^ s + y) (shl-shr b s) (mul-mod_left b (2 ^ s))
    ∙ add-zero (b % 2 ^ d * 2 ^ s)

pub shifted : (skip first second : ℕ) → skip ≤ 8 → second < 2 ^ 8
    → bit_or ((first * 2 ^ skip) % 2 ^ 8) (second / 2 ^ (8 - skip)) ≡ joined skip first second
shifted skip first second h small =
    let e : (8 - skip) + skip ≡ 8 = omega arith in
    let f : skip + (8 - skip) ≡ 8 = omega arith in
    ap (λ (x : ℕ). bit_or x (second / 2 ^ (8 - skip))) (rw e at (shl_lost (8 - skip) skip first))
    ∙ or_shifted (first % 2 ^ (8 - skip)) skip (second / 2 ^ (8 - skip)) (shr_lt skip (8 - skip) (rw f small))
