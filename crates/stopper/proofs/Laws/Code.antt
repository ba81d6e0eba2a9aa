-- The laws of the code that say which symbols a codeword has: the rest of Laws/Code stands in specs/. They are here so that an edit of the definition is
-- refused at what rests on it.
use Rattle.std.specs.Prelude.{◌≡◌, length}
use Rattle.std.proofs.Common.{ap, ◌∙◌, div-lt_iff_lt-mul}
use mathlib.Core.List.{List, [], ◌∷◌}
use Prim.Native.Nat.{ℕ, zero, suc, ◌+◌, ◌-◌, ◌*◌, ◌<◌}
use Rattle.std.proofs.Math.Nat.{mod-lt, add-sub_cancel_left}
use native.Mathlib.Omega.{arith}
use Rattle.std.proofs.Math.Arith.{digits_lt, digits_div, digits_mod}
use Rattle.stopper.specs.Paper.Code.{Good, Within, IsCodeword, stop, more, opens, spell, codeword, rank_at, rank_from, rank_of}
use Rattle.stopper.specs.Laws.Code.{conts_pos, opens_pos, place_is, at_within, by_parts, through, spell_more, rank_stop, rank_more, length_iff}

module _ (m : ℕ) (s : ℕ → ℕ) (g : Good m s) where
  pub codeword_at : (i : ℕ) {x y : ℕ} → x < opens m s i → y < s i → codeword m s (rank_at m s i x y) ≡ spell m s i x (y ∷ [])
  unfolding codeword rank_at
  codeword_at i {x} {y} hx hy = rw (place_is m s g (at_within m s g i hx hy), add-sub_cancel_left, digits_div x hy, digits_mod x hy)

  -- ---- L1: a codeword is continuers and then one stopper

  spell_word : (i : ℕ) {x : ℕ} {w : List ℕ} → x < opens m s i → IsCodeword m s i w → IsCodeword m s 0 (spell m s i x w)
  unfolding spell opens
  spell_word zero hx hw = hw
  spell_word (suc i) {x} hx hw =
      spell_word i ((div-lt_iff_lt-mul (conts_pos m s g i)).1 hx)
      (more (omega arith) (omega (arith, mod-lt x (conts_pos m s g i))) hw)

  pub codeword_word : (r : ℕ) → IsCodeword m s 0 (codeword m s r)
  codeword_word = by_parts m s g (λ r. IsCodeword m s 0 (codeword m s r)) (λ i x y hx hy. rw (codeword_at i hx hy) (spell_word i hx (stop hy)))

  -- ---- L2: the rank of codeword r is r

  pub rank_codeword : (r : ℕ) → rank_of m s (codeword m s r) ≡ r
  unfolding rank_of
  rank_codeword = by_parts m s g (λ r. rank_of m s (codeword m s r) ≡ r) (λ i x y hx hy. rw (codeword_at i hx hy) (through m s g (rank_from m s) (λ i x y w a _. rank_more m s g i x y w a) i x (y ∷ []) hx ∙ rank_stop m s g i x y [] hy))

  -- ---- L3: a codeword is the codeword of its rank

  word_spell : {i : ℕ} {w : List ℕ} → IsCodeword m s i w → (x : ℕ) → x < opens m s i → codeword m s (rank_from m s i x w) ≡ spell m s i x w
  unfolding opens
  word_spell {i} (stop {y = y} h) x hx = rw (rank_stop m s g i x y [] h) (codeword_at i hx h)
  word_spell {i} (more {y = y} {w = w} a b h) x hx =
      let d : y - s i < m - s i = omega arith in
      rw (rank_more m s g i x y w a) (word_spell h (x * (m - s i) + (y - s i)) (digits_lt hx d) ∙ spell_more m s i x y w a b)

  pub codeword_rank : {w : List ℕ} → IsCodeword m s 0 w → codeword m s (rank_of m s w) ≡ w
  unfolding rank_of spell
  codeword_rank h = word_spell h 0 (opens_pos m s g 0)

  -- ---- L5: lengths

  -- so the ranks from shorter i up to shorter (i + 1) and the codewords of i + 1 symbols answer one to one
  pub rank_within : {w : List ℕ} {i : ℕ} → IsCodeword m s 0 w → length w ≡ suc i → Within m s (rank_of m s w) i
  rank_within {w} {i} h e = (length_iff m s g (rank_of m s w) i).0 (ap length (codeword_rank h) ∙ e)
