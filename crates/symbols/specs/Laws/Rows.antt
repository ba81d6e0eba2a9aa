-- The row of a buffer's symbols: how long it is, what stands in it, and its parts.
use Rattle.std.specs.Prelude.{◌≡◌, List, [], ◌++◌, ℕ, ◌+◌, ◌-◌, ◌*◌, ◌/◌, ◌%◌, ◌^◌, ◌≤◌, ◌<◌, take, drop, get_or}
use Rattle.std.proofs.Math.Path.{sym}
use Rattle.std.proofs.Common.{ap, ◌∙◌, mod-lt, zero-mul, add-mul, mul-le-mul_right, div-lt_iff_lt-mul, le-div_iff_mul-le, lt_of_mul-lt-mul_right, arith, length-append, take-append-drop, drop_of_length-le, pow_pos, ext_get_or, take_at, drop_at, take_all, length-take-le}
use Rattle.std.proofs.Math.Nat.{zero-div, zero-mod, mul-add-div_right, mul-add-mod_self_right}
use Rattle.std.proofs.Math.Decide.{dec_le, dec_lt}
use Rattle.std.proofs.Math.Arith.{digits_div, digits_mod}
use Rattle.std.proofs.Math.ListN.{length, get_or-append, get_or-eq_default}
use Rattle.std.proofs.Math.Seq.{get_or-append-add}
use Rattle.ground.specs.Paper.Rows.{tab}
use Rattle.ground.specs.Helpers.Below.{Below}
use Rattle.ground.specs.Laws.Rows.{length_tab, tab_at, tab_below}
use Rattle.symbols.specs.Paper.Symbols.{per, bytes_for, room, shift, symbol_at, symbols_of}
use Rattle.symbols.specs.Helpers.Widths.{Width}
use Rattle.symbols.specs.Laws.Width.{per_pos}
use Rattle.symbols.specs.Laws.Sizes.{bytes_for_within, room_within}

pub symbols_length : (k : ℕ) (bs : List ℕ) → length (symbols_of k bs) ≡ length bs * per k
unfolding symbols_of
symbols_length k bs = length_tab (symbol_at k bs) 0 (length bs * per k)

pub room_row : (k : ℕ) (bs : List ℕ) (h : ℕ) → h ≤ room k (length bs) → h ≤ length (symbols_of k bs)
room_row k bs h l = omega (arith, room_within k (length bs), symbols_length k bs)

-- buffers of one length
pub symbols_even : (k : ℕ) (xs ys : List ℕ) → length xs ≡ length ys → length (symbols_of k xs) ≡ length (symbols_of k ys)
symbols_even k xs ys e = simp symbols_length (ap (λ (n : ℕ). n * per k) e)

pub symbols_none : (k : ℕ) → symbols_of k [] ≡ []
unfolding symbols_of tab
symbols_none k = rw zero-mul

pub symbols_below : (k : ℕ) (bs : List ℕ) → Below (2 ^ k) (symbols_of k bs)
unfolding symbols_of symbol_at
symbols_below k bs = tab_below _ (2 ^ k) 0 _ (λ j. mod-lt _ (pow_pos k))

module _ {k : ℕ} (w : Width k) where
  -- ---- for this crate alone: the byte of a symbol, and its bits

  -- the byte of a symbol of the row is in the buffer, and no other is
  pub byte_within : (bs : List ℕ) (i : ℕ) → i < length (symbols_of k bs) → i / per k < length bs
  byte_within bs i h = (div-lt_iff_lt-mul (per_pos w)).1 (omega (arith, symbols_length k bs))

  pub byte_beyond : (bs : List ℕ) (i : ℕ) → length (symbols_of k bs) ≤ i → length bs ≤ i / per k
  byte_beyond bs i h = (le-div_iff_mul-le (per_pos w)).1 (omega (arith, symbols_length k bs))

  -- past its end too
  pub symbols_at : (bs : List ℕ) (i : ℕ) → get_or (symbols_of k bs) i 0 ≡ symbol_at k bs i
  unfolding symbols_of symbol_at
  symbols_at bs i =
      elim (dec_lt i (length bs * per k)) [
        | yes a ↦ tab_at (symbol_at k bs) (length bs * per k) i a
        | no a ↦
            let out : length (symbols_of k bs) ≤ i = omega (arith, symbols_length k bs) in
            get_or-eq_default (symbols_of k bs) 0 out
            ∙ sym (rw (get_or-eq_default bs 0 (byte_beyond bs i out), zero-div, zero-mod))
      ]

  -- symbol t of byte j
  pub symbols_in : (bs : List ℕ) (j t : ℕ) → t < per k → get_or (symbols_of k bs) (j * per k + t) 0 ≡ get_or bs j 0 / 2 ^ shift k t % 2 ^ k
  unfolding symbol_at
  symbols_in bs j t h = symbols_at bs (j * per k + t) ∙ rw (digits_div j h, digits_mod j h)

  -- a symbol of two buffers, one after the other
  at_left : (xs ys : List ℕ) (i : ℕ) → i < length (symbols_of k xs) → symbol_at k (xs ++ ys) i ≡ symbol_at k xs i
  unfolding symbol_at
  at_left xs ys i h = rw (get_or-append xs ys 0 (i / per k) (byte_within xs i h))

  at_right : (xs ys : List ℕ) (i : ℕ) → symbol_at k (xs ++ ys) (length xs * per k + i) ≡ symbol_at k ys i
  unfolding symbol_at
  at_right xs ys i =
      rw (
        mul-add-div_right (per_pos w) (length xs) i,
        mul-add-mod_self_right (length xs) (per k) i,
        get_or-append-add xs ys (i / per k) 0,
      )

  -- ---- for every crate

  -- a byte that starts in the row is in the buffer
  pub starts_within : (bs : List ℕ) (j : ℕ) → j * per k < length (symbols_of k bs) → j < length bs
  starts_within bs j h = lt_of_mul-lt-mul_right (per k) (rw symbols_length at h)

  -- the bytes of symbols that are in the row are in it whole
  pub ends_inside : (bs : List ℕ) (h : ℕ) → h ≤ length (symbols_of k bs) → bytes_for k h * per k ≤ length (symbols_of k bs)
  ends_inside bs h l =
      rw symbols_length (mul-le-mul_right (per k) (bytes_for_within w h (length bs) (omega (arith, symbols_length k bs))))

  pub symbols_append : (xs ys : List ℕ) → symbols_of k (xs ++ ys) ≡ symbols_of k xs ++ symbols_of k ys
  symbols_append xs ys =
      ext_get_or 0 _ _
      (simp (symbols_length, length-append, add-mul))
      (λ i h. symbols_at (xs ++ ys) i ∙ in_either i (dec_lt i (length (symbols_of k xs))))
    where
      in_either : (i : ℕ) → Dec (i < length (symbols_of k xs)) → symbol_at k (xs ++ ys) i ≡ get_or (symbols_of k xs ++ symbols_of k ys) i 0
      in_either i (yes a) =
          at_left xs ys i a ∙ sym (get_or-append (symbols_of k xs) (symbols_of k ys) 0 i a ∙ symbols_at xs i)
      in_either i (no a) =
          let d = i - length (symbols_of k xs) in
          let e : i ≡ length (symbols_of k xs) + d = omega arith in
          let e' : i ≡ length xs * per k + d = omega (arith, symbols_length k xs) in
          ap (symbol_at k (xs ++ ys)) e'
          ∙ at_right xs ys d
          ∙ sym (ap (λ (n : ℕ). get_or (symbols_of k xs ++ symbols_of k ys) n 0) e
          ∙ get_or-append-add (symbols_of k xs) (symbols_of k ys) d 0
          ∙ symbols_at ys d)

  -- the first j bytes and the others
  parts : (j : ℕ) (bs : List ℕ) → symbols_of k bs ≡ symbols_of k (take j bs) ++ symbols_of k (drop j bs)
  parts j bs = ap (symbols_of k) (sym (take-append-drop j bs)) ∙ symbols_append (take j bs) (drop j bs)

  first_length : (j : ℕ) (bs : List ℕ) → j ≤ length bs → length (symbols_of k (take j bs)) ≡ j * per k
  first_length j bs h = symbols_length k (take j bs) ∙ ap (λ (n : ℕ). n * per k) (length-take-le j bs h)

  all_within : (j : ℕ) (bs : List ℕ) → length bs ≤ j → length (symbols_of k bs) ≤ j * per k
  all_within j bs h = rw (symbols_length k bs) (mul-le-mul_right (per k) h)

  pub symbols_take : (j : ℕ) (bs : List ℕ) → take (j * per k) (symbols_of k bs) ≡ symbols_of k (take j bs)
  symbols_take j bs =
      elim (dec_le j (length bs)) [
        | yes a ↦
            ap (take (j * per k)) (parts j bs)
            ∙ take_at (symbols_of k (take j bs)) (symbols_of k (drop j bs)) (j * per k) (first_length j bs a)
        | no a ↦
            let l : length bs ≤ j = omega arith in
            take_all (j * per k) (symbols_of k bs) (all_within j bs l) ∙ ap (symbols_of k) (sym (take_all j bs l))
      ]

  pub symbols_drop : (j : ℕ) (bs : List ℕ) → drop (j * per k) (symbols_of k bs) ≡ symbols_of k (drop j bs)
  symbols_drop j bs =
      elim (dec_le j (length bs)) [
        | yes a ↦
            ap (drop (j * per k)) (parts j bs)
            ∙ drop_at (symbols_of k (take j bs)) (symbols_of k (drop j bs)) (j * per k) (first_length j bs a)
        | no a ↦
            let l : length bs ≤ j = omega arith in
            drop_of_length-le (symbols_of k bs) (all_within j bs l)
            ∙ sym (ap (symbols_of k) (drop_of_length-le bs l) ∙ symbols_none k)
      ]
