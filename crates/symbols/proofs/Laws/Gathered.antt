-- The digits of a byte, and symbols gathered in whole bytes.
use Rattle.std.specs.Prelude.{◌≡◌, ℕ, suc, ◌+◌, ◌-◌, ◌*◌, ◌/◌, ◌%◌, ◌^◌, ◌≤◌, ◌<◌, length, take, get_or, set}
use Rattle.std.proofs.Math.Path.{sym, ap}
use Rattle.std.proofs.Common.{ap₂, ◌∙◌, mul-add, one-mul, div-one, add-one, arith, pow_pos, shr-shr, take-add, take_at, take-suc-set, drop-cons}
use mathlib.Core.List.{List, [], ◌∷◌, ◌++◌, append_assoc}
use Rattle.std.proofs.Math.Nat.{mul-sub, div-div-eq-div-mul}
use Rattle.std.proofs.Math.ListN.{drop}
use Rattle.std.proofs.lemmas.List.{take-append-le}
use Rattle.ground.specs.Paper.Rows.{tab}
use Rattle.symbols.specs.Paper.Symbols.{per, shift, symbol_at, symbols_of}
use Rattle.symbols.specs.Helpers.Widths.{Width}
use Rattle.symbols.specs.Helpers.Gathered.{digits}
use Rattle.symbols.specs.Laws.Packing.{pow_mul}
use Rattle.symbols.specs.Laws.Rows.{symbols_length, symbols_append, symbols_take, symbols_drop}
use Rattle.symbols.specs.Laws.Width.{by_width, fills}
use Rattle.symbols.specs.Laws.Gathered.{digits_length, digits_mod_pow, digits_shifted}

module _ {k : ℕ} (w : Width k) where
  -- ---- symbols of a byte

  pub byte_digits : (b : ℕ) → symbols_of k (b ∷ []) ≡ digits (2 ^ k) (per k) b
  unfolding symbols_of symbol_at per shift tab digits
  byte_digits b =
      by_width (λ k. symbols_of k (b ∷ []) ≡ digits (2 ^ k) (per k) b) w (simp (div-div-eq-div-mul, div-one)) (simp div-one)

  -- the lowest byte of a number
  byte_low : (v : ℕ) → symbols_of k (v % 2 ^ 8 ∷ []) ≡ digits (2 ^ k) (per k) v
  byte_low v =
      let e : 2 ^ 8 ≡ (2 ^ k) ^ per k = ap (λ (n : ℕ). 2 ^ n) (sym (fills w)) ∙ pow_mul 2 k (per k) in
      byte_digits (v % 2 ^ 8) ∙ ap (λ (m : ℕ). digits (2 ^ k) (per k) (v % m)) e ∙ digits_mod_pow (2 ^ k) (per k) v (pow_pos k)

  -- the first n of a byte
  byte_front : (b n : ℕ) → n ≤ per k → digits (2 ^ k) n (b / 2 ^ (8 - k * n)) ≡ take n (symbols_of k (b ∷ []))
  byte_front b n h =
      let e : n + (per k - n) ≡ per k = omega arith in
      let f : k * (per k - n) ≡ 8 - k * n = mul-sub k (per k) n ∙ ap (λ (x : ℕ). x - k * n) (fills w) in
      sym (ap (take n) (byte_digits b ∙ ap (λ (x : ℕ). digits (2 ^ k) x b) (sym e) ∙ digits_shifted k n (per k - n) b)
      ∙ take_at (digits (2 ^ k) n (b / 2 ^ (k * (per k - n)))) (digits (2 ^ k) (per k - n) b) n (digits_length (2 ^ k) n _)
      ∙ ap (λ (x : ℕ). digits (2 ^ k) n (b / 2 ^ x)) f)

  -- ---- symbols gathered

  -- those of byte j before its symbol n
  pub begun : (buf : List ℕ) (j n : ℕ) → j < length buf → n ≤ per k
      → symbols_of k (take j buf) ++ digits (2 ^ k) n (get_or buf j 0 / 2 ^ (8 - k * n)) ≡ take (j * per k + n) (symbols_of k buf)
  begun buf j n h l =
      let b = get_or buf j 0 in
      let row = symbols_of k buf in
      sym (take-add (j * per k) n row
      ∙ ap₂ ◌++◌ (symbols_take w j buf)
      (ap (take n) (symbols_drop w j buf ∙ ap (symbols_of k) (drop-cons buf j 0 h) ∙ symbols_append w (b ∷ []) (drop (suc j) buf))
      ∙ take-append-le n (symbols_of k (b ∷ [])) _ (rw (symbols_length k (b ∷ []), one-mul) l)
      ∙ sym (byte_front b n l)))

  -- a byte stored, n symbols left
  pub stored_more : (front buf : List ℕ) (a n v next : ℕ) → next < length buf
      → symbols_of k (take next buf) ≡ front ++ digits (2 ^ k) a (v / 2 ^ (k * (n + per k)))
      → symbols_of k (take (next + 1) (set buf next (v / 2 ^ (k * n) % 2 ^ 8))) ≡ front ++ digits (2 ^ k) (a + per k) (v / 2 ^ (k * n))
  stored_more front buf a n v next h e =
      let x = v / 2 ^ (k * n) in
      let q : x / 2 ^ (k * per k) ≡ v / 2 ^ (k * (n + per k)) = shr-shr v (k * n) (k * per k) ∙ ap (λ (z : ℕ). v / 2 ^ z) (sym (mul-add k n (per k))) in
      rw (add-one next, take-suc-set buf next (x % 2 ^ 8) h)
      (symbols_append w (take next buf) (x % 2 ^ 8 ∷ [])
      ∙ ap₂ ◌++◌ e (byte_low x)
      ∙ append_assoc front _ (digits (2 ^ k) (per k) x)
      ∙ ap (λ (l : List ℕ). front ++ l) (sym (digits_shifted k a (per k) x ∙ ap (λ (z : ℕ). digits (2 ^ k) a z ++ digits (2 ^ k) (per k) x) q)))
