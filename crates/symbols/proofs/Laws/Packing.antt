-- A row packed and read again, and the other way round; a byte is its symbols.
use Rattle.std.specs.Prelude.{◌≡◌, List, ◌++◌, drop}
use Rattle.std.proofs.Math.Path.{sym, ap}
use Rattle.std.proofs.Common.{ap₂, ◌∙◌, append_assoc, le_trans, le_of_eq, mod-lt, add-zero, length-append, pow_pos, drop-drop}
use Prim.Native.Nat.{ℕ, suc, ◌+◌, ◌-◌, ◌*◌, ◌/◌, ◌%◌, ◌^◌, ◌≤◌, ◌<◌}
use Rattle.std.proofs.Math.Nat.{mul-sub, mod-eq_of_lt, div-add-mod', div-one, pow-zero, mul-le-mul_right, div-mul-le_self, zero-div, zero-mod}
use Rattle.std.proofs.Math.Decide.{dec_lt}
use native.Mathlib.Omega.{arith}
use Rattle.std.proofs.Math.ListN.{length, get_or, get_or-eq_default}
use Rattle.std.proofs.Math.Seq.{ext_get_or, drop-append-add, take-append_seam}
use Rattle.ground.specs.Paper.Rows.{zeros}
use Rattle.ground.specs.Paper.Runs.{over}
use Rattle.ground.specs.Helpers.Below.{Below}
use Rattle.ground.specs.Helpers.Moved.{cleared}
use Rattle.ground.specs.Laws.Rows.{tab_at, get_or_below, get_or_zeros_after, length_zeros, below_append, below_drop}
use Rattle.symbols.specs.Paper.Symbols.{per, bytes_for, shift, symbol_at, symbols_of, number, byte_at, bytes_of}
use Rattle.symbols.specs.Helpers.Widths.{Width}
use Rattle.symbols.specs.Laws.Width.{fills, per_pos}
use Rattle.symbols.specs.Laws.Sizes.{bytes_for_enough, bytes_for_full}
use Rattle.symbols.specs.Laws.Rows.{symbols_length, symbols_at, symbols_in, symbols_append, symbols_drop}
use Rattle.symbols.specs.Laws.Packing.{pow_mul, number_ext, number_back, digit_shift, bytes_length, bytes_below}

module _ {k : ℕ} (w : Width k) where
  -- ---- a byte is its symbols

  digit_at : (f : ℕ → ℕ) → ((j : ℕ) → f j < 2 ^ k) → (t : ℕ) → t < per k
      → number (2 ^ k) f (per k) / 2 ^ shift k t % 2 ^ k ≡ f t
  unfolding shift
  digit_at f h t ht = rw (fills w) at (digit_shift k f h (per k) t (per k - suc t) (omega arith))

  byte_back : (b : ℕ) → b < 2 ^ 8 → number (2 ^ k) (λ t. b / 2 ^ shift k t % 2 ^ k) (per k) ≡ b
  unfolding shift
  byte_back b h =
      let f : (t : ℕ) → (2 ^ k) ^ (per k - suc t) ≡ 2 ^ (8 - k * suc t)
      = λ t. sym (pow_mul 2 k (per k - suc t)) ∙ ap (λ (z : ℕ). 2 ^ z) (rw (mul-sub, fills w)) in
      let g : number (2 ^ k) (λ t. b / (2 ^ k) ^ (per k - suc t) % 2 ^ k) (per k) ≡ b
      = number_back (2 ^ k) b (per k) (pow_pos k) (per k) 0 (add-zero (per k))
      ∙ rw (pow-zero, div-one, ← pow_mul, fills w, mod-eq_of_lt h) in
      simp f at g

  -- past its end too
  pub byte_is : {bs : List ℕ} → Below 256 bs → (j : ℕ) → get_or bs j 0 ≡ byte_at k (symbols_of k bs) j
  unfolding byte_at
  byte_is {bs} h j =
      sym (number_ext (2 ^ k) _ _ (per k) (λ t ht. symbols_in w bs j t ht)
      ∙ byte_back (get_or bs j 0) (get_or_below h (pow_pos 8) j))

  -- ---- a row packed

  -- past its end too
  symbol_bytes : {xs : List ℕ} → Below (2 ^ k) xs → (i : ℕ) → symbol_at k (bytes_of k xs) i ≡ get_or xs i 0
  unfolding symbol_at bytes_of byte_at
  symbol_bytes {xs} h i =
      elim (dec_lt (i / per k) (bytes_for k (length xs))) [
        | yes a ↦
            rw (
              tab_at (byte_at k xs) (bytes_for k (length xs)) (i / per k) a,
              digit_at (λ t. get_or xs (i / per k * per k + t) 0) (λ j. get_or_below h (pow_pos k) _) (i % per k) (mod-lt i (per_pos w)),
              div-add-mod',
            )
        | no a ↦
            let past : bytes_for k (length xs) ≤ i / per k = omega arith in
            let out : length xs ≤ i
            = omega (arith, bytes_for_enough w (length xs), mul-le-mul_right (per k) past, div-mul-le_self i (per k)) in
            rw (
              get_or-eq_default (bytes_of k xs) 0 (le_trans (le_of_eq (bytes_length w xs)) past),
              zero-div,
              zero-mod,
              get_or-eq_default xs 0 out,
            )
      ]

  -- read again: the row, and 0 in the rest of the last byte
  pub symbols_bytes : {xs : List ℕ} → Below (2 ^ k) xs
      → symbols_of k (bytes_of k xs) ≡ xs ++ zeros (bytes_for k (length xs) * per k - length xs)
  symbols_bytes {xs} h =
      ext_get_or 0 _ _
      (simp (symbols_length, bytes_length w, length-append, length_zeros) (omega (arith, bytes_for_enough w (length xs))))
      (λ i hi. symbols_at w (bytes_of k xs) i ∙ symbol_bytes h i ∙ sym (get_or_zeros_after xs _ i))

  -- ---- a buffer, read and packed

  pub bytes_symbols : {bs : List ℕ} → Below 256 bs → bytes_of k (symbols_of k bs) ≡ bs
  unfolding bytes_of
  bytes_symbols {bs} h =
      let count : bytes_for k (length (symbols_of k bs)) ≡ length bs = rw symbols_length (bytes_for_full w (length bs)) in
      ext_get_or 0 _ _ (bytes_length w (symbols_of k bs) ∙ count)
      (λ j hj. tab_at (byte_at k (symbols_of k bs)) _ j (rw (bytes_length w) at hj) ∙ sym (byte_is h j))

  -- buffers with equal rows are equal
  pub symbols_one : {xs ys : List ℕ} → Below 256 xs → Below 256 ys → symbols_of k xs ≡ symbols_of k ys → xs ≡ ys
  symbols_one hx hy e = sym (bytes_symbols hx) ∙ ap (bytes_of k) e ∙ bytes_symbols hy

  -- a row packed at the front of a buffer, the rest of its last byte cleared, and the bytes after it as they were
  pub packed_over : {xs before after : List ℕ} → Below (2 ^ k) xs → Below 256 before → Below 256 after
      → symbols_of k after
      ≡ (xs ++ zeros (bytes_for k (length xs) * per k - length xs)) ++ drop (bytes_for k (length xs) * per k) (symbols_of k before)
      → after ≡ bytes_of k xs ++ drop (bytes_for k (length xs)) before
  packed_over {xs} {before} {after} hx hb ha e =
      symbols_one ha (below_append (bytes_below w hx) (below_drop hb (bytes_for k (length xs))))
      (e
      ∙ ap₂ ◌++◌ (sym (symbols_bytes hx)) (symbols_drop w (bytes_for k (length xs)) before)
      ∙ sym (symbols_append w (bytes_of k xs) (drop (bytes_for k (length xs)) before)))

  -- the same, where the row was laid over the front and the rest of its last byte was cleared after it
  pub packed_cleared : {xs before after : List ℕ} → Below (2 ^ k) xs → Below 256 before → Below 256 after
      → symbols_of k after
      ≡ cleared (over (symbols_of k before) 0 xs (length xs)) (length xs) (bytes_for k (length xs) * per k)
      → after ≡ bytes_of k xs ++ drop (bytes_for k (length xs)) before
  packed_cleared {xs} {before} {after} hx hb ha e =
      let row = symbols_of k before in
      let h = length xs in
      let end = bytes_for k h * per k in
      let q : h + (end - h) ≡ end = omega (arith, bytes_for_enough w h) in
      let past : drop end (xs ++ drop h row) ≡ drop end row
      = ap (λ (n : ℕ). drop n (xs ++ drop h row)) (sym q)
      ∙ drop-append-add xs (drop h row) (end - h)
      ∙ drop-drop (end - h) h row
      ∙ ap (λ (n : ℕ). drop n row) q in
      packed_over hx hb ha
      (e
      ∙ ap₂ (λ (a b : List ℕ). a ++ (zeros (end - h) ++ b)) (take-append_seam xs (drop h row)) past
      ∙ sym (append_assoc xs (zeros (end - h)) (drop end row)))
