-- The laws of characters numbered by the codewords that end before them.
use Rattle.std.specs.Prelude.{◌≡◌, cond, ℕ, ◌+◌, ◌-◌, ◌*◌, ◌/◌, ◌%◌, ◌^◌, ◌≤◌, ◌<◌, T, ltb, length, take, drop, get_or}
use Rattle.std.proofs.Common.{sym, ap, ◌∙◌, zero-le, le_trans, zero-mul, add-mul, mul-le-mul_right, le_of_mul-le-mul_right, div-mul-le_self, le-div_iff_mul-le, add-one, arith, lt-ltb, le-ltb, length-take, take-suc, take-add}
use mathlib.Core.List.{List, [], ◌∷◌, ◌++◌}
use Rattle.std.proofs.Math.Nat.{lt-div-mul-add}
use Rattle.std.proofs.Math.Decide.{dec_lt}
use Rattle.std.proofs.Math.Arith.{digits_div, digits_mod}
use Rattle.stopper.specs.Paper.Table.{stoppers, good_code}
use Rattle.stopper.specs.Laws.Table.{code_width}
use Rattle.stopper.specs.declared.code.Code.{Code}
use Rattle.symbols.specs.Paper.Symbols.{per, symbols_of}
use Rattle.symbols.specs.Helpers.Widths.{Width}
use Rattle.symbols.specs.Laws.Width.{per_pos}
use Rattle.symbols.specs.Laws.Rows.{symbols_length, symbols_append, symbols_take, symbols_drop}
use Rattle.sound.specs.Helpers.Ends.{stops}
use Rattle.sound.specs.Laws.Ends.{stops_stop}
use Rattle.sound.specs.Laws.Stops.{stops_append, stops_continuer, stops_upto, stops_two}
use Rattle.jump.specs.Helpers.Counting.{number_at, Counts}

-- no more codewords end than there are symbols
pub number_upto : (c : Code) (buf : List ℕ) (a : ℕ) → number_at c buf a ≤ a
number_upto c buf a =
    let row = symbols_of c.k buf in
    omega (arith, stops_upto c (take a row), length-take a row)

-- nothing counted yet
pub counts_none : (c : Code) (buf : List ℕ) (a : ℕ) → Counts c buf a 0 0
unfolding stops
counts_none c buf a =
    record { number = ap (number_at c buf) (sym (zero-mul (per c.k))); before = rw zero-mul zero-le }

-- a later symbol
pub counts_later : {c : Code} {buf : List ℕ} {a b next ended : ℕ} → a ≤ b → Counts c buf a next ended → Counts c buf b next ended
counts_later h x = record { number = x.number; before = le_trans x.before h }

-- one symbol more
module _ (c : Code) (buf : List ℕ) (i : ℕ) (h : i < length (symbols_of c.k buf)) where
  abbrev y : ℕ
  y = get_or (symbols_of c.k buf) i 0

  symbol_more : number_at c buf (i + 1) ≡ number_at c buf i + stops (stoppers c) 0 (y ∷ [])
  symbol_more =
      ap (stops (stoppers c) 0) (rw add-one (take-suc (symbols_of c.k buf) i 0 h)) ∙ stops_append c (take i (symbols_of c.k buf)) (y ∷ [])

  pub number_stopper : y < stoppers c 0 → number_at c buf (i + 1) ≡ number_at c buf i + 1
  unfolding stops
  number_stopper l = omega (arith, symbol_more, stops_stop (stoppers c) 0 y [] l)

  pub number_continuer : stoppers c 0 ≤ y → number_at c buf (i + 1) ≡ number_at c buf i
  unfolding stops
  number_continuer l = omega (arith, symbol_more, stops_continuer c y [] l)

-- ---- the continuers of a byte of four symbols, by two sums

-- two symbols, each with four bits to itself, and what is added to both
carry_low : (d e c : ℕ) → d < 4 → c < 4 → (d + 16 * e + 17 * c) / 4 % 2 ≡ (d + c) / 4
carry_low d e c hd hc =
    let a : ℕ = (d + c) / 4 in
    let f : d + 16 * e + 17 * c ≡ (2 * (e + c) * 2 + a) * 4 + (d + c) % 4 = omega arith in
    ap (λ (n : ℕ). n / 4 % 2) f
    ∙ ap (λ (n : ℕ). n % 2) (digits_div (2 * (e + c) * 2 + a) {m = 4} {r = (d + c) % 4} (omega arith))
    ∙ digits_mod (2 * (e + c)) {m = 2} {r = a} (omega arith)

carry_high : (d e c : ℕ) → d < 4 → e < 4 → c < 4 → (d + 16 * e + 17 * c) / 64 % 2 ≡ (e + c) / 4
carry_high d e c hd he hc =
    let a : ℕ = (e + c) / 4 in
    let f : d + 16 * e + 17 * c ≡ a * 64 + (16 * ((e + c) % 4) + (d + c)) = omega arith in
    ap (λ (n : ℕ). n / 64 % 2) f
    ∙ ap (λ (n : ℕ). n % 2) (digits_div a {m = 64} {r = 16 * ((e + c) % 4) + (d + c)} (omega arith))
    ∙ omega arith

-- what is 1 where a test fails
else_one : {x y : ℕ} (a b : ℕ) → x ≡ y → (a < b → y ≡ 0) → (b ≤ a → y ≡ 1) → x + cond (ltb a b) 1 0 ≡ 1
else_one a b e f g =
    elim (dec_lt a b) [
      | yes h ↦ rw (e, lt-ltb a b h, f h)
      | no h ↦ rw (e, le-ltb a b (omega arith), g (omega arith))
    ]

-- two sums in one
parts : (n q r : ℕ) → n ≡ q * 16 + r → r < 16 → (n % 16 ≡ r) × (n / 16 ≡ q)
parts n q r e h = (ap (λ (x : ℕ). x % 16) e ∙ digits_mod q h, ap (λ (x : ℕ). x / 16) e ∙ digits_div q h)

module _ (s b : ℕ) (h : b < 256) (low : 0 < s) (high : s < 4) where
  -- every other symbol, and what is added to it
  abbrev odd : ℕ
  odd = b / 4 % 4 + 16 * (b / 64) + 17 * (4 - s)

  abbrev even : ℕ
  even = b % 4 + 16 * (b / 16 % 4) + 17 * (4 - s)

  abbrev both : ℕ
  both = odd / 4 % 2 + 16 * (odd / 64 % 2) + (even / 4 % 2 + 16 * (even / 64 % 2))

  pub continuers_both : (both % 16 + both / 16 + stops (λ _. s) 0 (symbols_of 2 (b ∷ [])) ≡ 4) × (both % 16 ≤ 2) × (both / 16 ≤ 2)
  continuers_both =
      let c : ℕ = 4 - s in
      rw (← stops_two s b h)
      (sums (odd / 64 % 2) (even / 64 % 2) (odd / 4 % 2) (even / 4 % 2)
      (cond (ltb b (64 * s)) 1 0) (cond (ltb (b % 64) (16 * s)) 1 0) (cond (ltb (b % 16) (4 * s)) 1 0) (cond (ltb (b % 4) s) 1 0)
      (else_one b (64 * s) (carry_high (b / 4 % 4) (b / 64) c (omega arith) (omega arith) (omega arith)) (λ l. omega arith) (λ l. omega arith))
      (else_one (b % 64) (16 * s) (carry_high (b % 4) (b / 16 % 4) c (omega arith) (omega arith) (omega arith)) (λ l. omega arith) (λ l. omega arith))
      (else_one (b % 16) (4 * s) (carry_low (b / 4 % 4) (b / 64) c (omega arith) (omega arith)) (λ l. omega arith) (λ l. omega arith))
      (else_one (b % 4) s (carry_low (b % 4) (b / 16 % 4) c (omega arith) (omega arith)) (λ l. omega arith) (λ l. omega arith)))
    where
      sums : (w x y z p q r t : ℕ) → w + p ≡ 1 → x + q ≡ 1 → y + r ≡ 1 → z + t ≡ 1
          → let n = y + 16 * w + (z + 16 * x) in (n % 16 + n / 16 + (p + q + r + t) ≡ 4) × (n % 16 ≤ 2) × (n / 16 ≤ 2)
      sums w x y z p q r t hw hx hy hz =
          let m = parts (y + 16 * w + (z + 16 * x)) (w + x) (y + z) (omega arith) (omega arith) in
          rw (m.0, m.1) (omega arith, omega arith, omega arith)

-- those of three bytes
pub three_sums : (x y z : ℕ) → x % 16 ≤ 2 → y % 16 ≤ 2 → z % 16 ≤ 2
    → (x + y + z) % 16 + (x + y + z) / 16 ≡ x % 16 + x / 16 + (y % 16 + y / 16) + (z % 16 + z / 16)
three_sums x y z hx hy hz =
    let m = parts (x + y + z) (x / 16 + y / 16 + z / 16) (x % 16 + y % 16 + z % 16) (omega arith) (omega arith) in
    rw (m.0, m.1) (omega arith)

module _ (c : Code) (g : T (good_code c)) (buf : List ℕ) where
  abbrev k : ℕ
  k = c.k

  abbrev row : List ℕ
  row = symbols_of k buf

  width : Width k
  width = code_width c g

  -- one byte more
  pub number_byte : (q : ℕ) → q < length buf
      → number_at c buf ((q + 1) * per k) ≡ number_at c buf (q * per k) + stops (stoppers c) 0 (symbols_of k (get_or buf q 0 ∷ []))
  number_byte q h =
      let st = stoppers c in
      let one = symbols_of k (get_or buf q 0 ∷ []) in
      ap (stops st 0)
      (rw add-one
      (symbols_take width _ buf
      ∙ ap (symbols_of k) (take-suc buf q 0 h)
      ∙ symbols_append width (take q buf) (get_or buf q 0 ∷ [])))
      ∙ stops_append c (symbols_of k (take q buf)) one
      ∙ ap (λ (ys : List ℕ). stops st 0 ys + stops st 0 one) (sym (symbols_take width q buf))

  -- so many symbols more, behind a whole byte
  pub number_behind : (q x : ℕ) → number_at c buf (q * per k + x) ≡ number_at c buf (q * per k) + number_at c (drop q buf) x
  number_behind q x =
      let st = stoppers c in
      ap (stops st 0) (take-add (q * per k) x row ∙ ap (λ (ys : List ℕ). take (q * per k) row ++ take x ys) (symbols_drop width q buf))
      ∙ stops_append c (take (q * per k) row) (take x (symbols_of k (drop q buf)))

  -- ---- bytes counted before byte e

  module _ (e : ℕ) where
    pub counts_next : {next ended : ℕ} → Counts c buf (e * per k) next ended → next ≤ e
    counts_next x = le_of_mul-le-mul_right x.before (per_pos width)

    pub counted : {next ended : ℕ} → next ≤ e → ended ≡ number_at c buf (next * per k) → Counts c buf (e * per k) next ended
    counted h x = record { number = x; before = mul-le-mul_right (per k) h }

    -- so many fit into 32 bits
    pub number_fits : e * per k ≤ 2 ^ 24 → (next : ℕ) → next ≤ e → number_at c buf (next * per k) < 2 ^ 32
    number_fits l next h = omega (arith, number_upto c buf (next * per k), mul-le-mul_right (per k) h)

  -- ---- the byte of symbol a

  module _ (a : ℕ) where
    pub end_inside : a ≤ length row → a / per k ≤ length buf
    end_inside h = le_of_mul-le-mul_right (omega (arith, div-mul-le_self a (per k), symbols_length k buf)) (per_pos width)

    pub end_behind : a < (a / per k + 1) * per k
    end_behind = omega (arith, lt-div-mul-add {a = a} (per_pos width), add-mul (a / per k) 1 (per k))

    pub counts_byte : {next ended : ℕ} → Counts c buf a next ended → Counts c buf (a / per k * per k) next ended
    counts_byte x = counted (a / per k) ((le-div_iff_mul-le (per_pos width)).1 x.before) x.number

    pub counts_symbol : {next ended : ℕ} → Counts c buf (a / per k * per k) next ended → Counts c buf a next ended
    counts_symbol x = record { number = x.number; before = le_trans x.before (div-mul-le_self a (per k)) }
