-- A symbol that is stored in its byte stands in the row at its place, and the others are as they were. Once over the width.
use mathlib.Core.Path.{◌≡◌, ◌∙◌, sym, ap, ap₂}
use mathlib.Core.Logic.{◌⊎◌, ⊎_elim, inl, inr}
use mathlib.Core.List.{List}
use Prim.Native.Nat.{ℕ, ◌+◌, ◌*◌, ◌/◌, ◌%◌, ◌^◌, ◌≤◌, ◌<◌}
use native.Mathlib.Nat.{mod-lt, div-add-mod', mul-le-mul_left}
use native.Mathlib.Decide.{ℕ_discrete, dec_lt}
use native.Mathlib.Omega.{arith}
use lib.ListN.{length, get_or, set, length-set}
use lib.Seq.{ext_get_or, get_or-set_same, get_or-set_other}
use Rattle.symbols.specs.Paper.Symbols.{per, shift, symbol_at, symbols_of}
use Rattle.symbols.specs.Helpers.Widths.{Width}
use Rattle.symbols.specs.Helpers.Bits.{cut_out, laid_in}
use Rattle.symbols.specs.Laws.Width.{per_pos, ends_within}
use Rattle.symbols.specs.Laws.Rows.{symbols_length, symbols_at, byte_within}
use Rattle.symbols.proofs.Cut.{same, above, below}

module _ {k : ℕ} (w : Width k) where
  -- two symbols of a byte are apart
  earlier : (t u : ℕ) → t < u → u < per k → shift k u + k ≤ shift k t
  unfolding shift
  earlier t u h l = omega (arith, ends_within w l, mul-le-mul_left k h)

  apart : (t u : ℕ) → (t ≡ u → ⊥) → t < per k → u < per k → (shift k t + k ≤ shift k u) ⊎ (shift k u + k ≤ shift k t)
  apart t u n ht hu =
      elim (dec_lt t u) [
        | yes a ↦ inr (earlier t u a hu)
        | no a ↦ inl (earlier u t (omega arith) ht)
      ]

  module _ (bs : List ℕ) (i y : ℕ) (inside : i < length (symbols_of k bs)) (h : y < 2 ^ k) where
    abbrev after : List ℕ
    after = set bs (i / per k) (laid_in k (shift k (i % per k)) y (get_or bs (i / per k) 0))

    read_back : symbol_at k after i ≡ y
    unfolding symbol_at
    read_back =
        ap (cut_out k (shift k (i % per k))) (get_or-set_same bs (i / per k) _ 0 (byte_within w bs i inside))
        ∙ same k (shift k (i % per k)) y (get_or bs (i / per k) 0) h

    other : (j : ℕ) → (j ≡ i → ⊥) → Dec (j / per k ≡ i / per k) → symbol_at k after j ≡ symbol_at k bs j
    unfolding symbol_at
    other j n (yes e) =
        let differ : (i % per k ≡ j % per k → ⊥)
        = λ p. n (sym (div-add-mod' j (per k)) ∙ ap₂ (λ (a b : ℕ). a * per k + b) e (sym p) ∙ div-add-mod' i (per k)) in
        rw e
        (ap (cut_out k (shift k (j % per k))) (get_or-set_same bs (i / per k) _ 0 (byte_within w bs i inside))
        ∙ ⊎_elim
        (λ p. above k (shift k (i % per k)) (shift k (j % per k)) y (get_or bs (i / per k) 0) h p)
        (λ p. below k (shift k (i % per k)) (shift k (j % per k)) y (get_or bs (i / per k) 0) p)
        (apart (i % per k) (j % per k) differ (mod-lt i (per_pos w)) (mod-lt j (per_pos w))))
    other j n (no d) = ap (cut_out k (shift k (j % per k))) (get_or-set_other bs (i / per k) (j / per k) _ 0 d)

    pub stored_row : symbols_of k after ≡ set (symbols_of k bs) i y
    stored_row =
        ext_get_or 0 _ _ (simp (symbols_length, length-set)) (λ j hj. symbols_at w after j ∙ entry j (ℕ_discrete j i))
      where
        entry : (j : ℕ) → Dec (j ≡ i) → symbol_at k after j ≡ get_or (set (symbols_of k bs) i y) j 0
        entry j (yes e) = rw e (read_back ∙ sym (get_or-set_same (symbols_of k bs) i y 0 inside))
        entry j (no n) =
            other j n (ℕ_discrete (j / per k) (i / per k))
            ∙ sym (get_or-set_other (symbols_of k bs) i j y 0 n ∙ symbols_at w bs j)
