-- The laws of the code.
use Rattle.std.specs.Prelude.{◌≡◌, ◌↔◌, true, false, ◌&&◌, T, leb, ltb, length}
use Rattle.std.proofs.Math.Path.{refl, sym, subst}
use Rattle.std.proofs.Common.{ap, ◌∙◌, pow-suc, le_trans, le_of_lt, le_refl, le_antisymm, lt_of_not-le, div-lt_iff_lt-mul, zero-add, lt-ltb, le-ltb, le-leb, leb→le, nltb→le}
use mathlib.Core.List.{List, [], ◌∷◌, ◌++◌}
use Prim.Native.Nat.{ℕ, zero, suc, ◌+◌, ◌-◌, ◌*◌, ◌/◌, ◌%◌, ◌^◌, ◌≤◌, ◌<◌, zero-le, suc-le-suc}
use Rattle.std.proofs.Math.Nat.{pow-zero, mul-zero, mul-suc, mul-add, suc_inj, add-sub_of_le, mul-pos, le-mul_of_pos_right, mod-lt, div-add-mod', add-zero, add-suc, suc-add, add-sub_cancel_left}
use Rattle.std.proofs.Math.Decide.{dec_le}
use native.Mathlib.Omega.{arith}
use Rattle.std.proofs.lemmas.Bool.{lt-leb}
use Rattle.std.proofs.Math.Facts.{and_yes, yes_and, yes_leb, yes_ltb, no_ltb}
use Rattle.std.proofs.Math.Dec.{ltb→lt}
use Rattle.std.proofs.Math.Arith.{lt-one, digits_lt, digits_div, digits_mod}
use Rattle.ground.specs.Laws.Tests.{cond_yes, cond_no, by_test}
use Rattle.stopper.specs.Paper.Code.{Good, Within, IsCodeword, stop, more, opens, shorter, first, place, spell, codeword, rank_at, rank_from, is_word}

sum_le : (p q : ℕ) → 0 < p → 0 < q → p + q ≤ p * q + 1
sum_le zero q hp hq = omega arith
sum_le (suc p) zero hp hq = omega arith
sum_le (suc p) (suc q) hp hq = omega arith

-- ---- spelling

module _ (m : ℕ) (s : ℕ → ℕ) where
  pub length_spell : (i x : ℕ) (w : List ℕ) → length (spell m s i x w) ≡ i + length w
  unfolding spell
  length_spell zero x w = sym (zero-add (length w))
  length_spell (suc i) x w = length_spell i _ _ ∙ omega arith

  pub spell_append : (i x : ℕ) (w v : List ℕ) → spell m s i x w ++ v ≡ spell m s i x (w ++ v)
  unfolding spell
  spell_append zero x w v = refl
  spell_append (suc i) x w v = spell_append i _ _ v

  -- one continuer more
  pub spell_more : (i x y : ℕ) (w : List ℕ) → s i ≤ y → y < m → spell m s (suc i) (x * (m - s i) + (y - s i)) w ≡ spell m s i x (y ∷ w)
  unfolding spell
  spell_more i x y w a b =
      let d : y - s i < m - s i = omega arith in
      rw (digits_div x d, digits_mod x d, add-sub_of_le a)

module _ (m : ℕ) (s : ℕ → ℕ) (g : Good m s) where
  -- ---- the counts

  pub conts_pos : (i : ℕ) → 0 < m - s i
  conts_pos i = omega (arith, g.high i)

  pub opens_pos : (i : ℕ) → 0 < opens m s i
  unfolding opens
  opens_pos zero = omega arith
  opens_pos (suc i) = mul-pos (opens_pos i) (conts_pos i)

  -- a codeword more at least for each length
  pub shorter_up : (i : ℕ) → shorter m s i < shorter m s (suc i)
  unfolding shorter
  shorter_up i = omega (arith, mul-pos (opens_pos i) (g.low i))

  pub shorter_mono : (i d : ℕ) → shorter m s i ≤ shorter m s (i + d)
  shorter_mono i zero = rw add-zero (omega arith)
  shorter_mono i (suc d) = rw add-suc (omega (arith, shorter_mono i d, shorter_up (i + d)))

  pub shorter_le : {i j : ℕ} → i ≤ j → shorter m s i ≤ shorter m s j
  shorter_le {i} {j} h = rw add-sub_of_le at (shorter_mono i (j - i))

  pub shorter_ge : (i : ℕ) → i ≤ shorter m s i
  shorter_ge zero = omega arith
  shorter_ge (suc i) = omega (arith, shorter_ge i, shorter_up i)

  -- ---- the place of the stopper: the one i with shorter i ≤ r < shorter (i + 1)

  pub within_le : {r r' i j : ℕ} → r ≤ r' → Within m s r i → Within m s r' j → i ≤ j
  within_le {i = i} {j = j} h p q = elim (dec_le i j) [ yes k ↦ k | no k ↦ omega (arith, shorter_le (lt_of_not-le k), p.above, q.below) ]

  look : (r many from : ℕ) → shorter m s from ≤ r → r < shorter m s (suc (from + many))
      → Within m s r (first (λ i. ltb r (shorter m s (suc i))) many from)
  unfolding first
  look r zero from a b = record { above = a; below = rw add-zero at b }
  look r (suc many) from a b =
      by_test (ltb r (shorter m s (suc from)))
      (λ t. rw (cond_yes (ltb r (shorter m s (suc from))) from _ t) (record { above = a; below = ltb→lt _ _ t }))
      (λ t. rw (cond_no (ltb r (shorter m s (suc from))) from _ t) (look r many (suc from) (nltb→le _ _ t) (rw suc-add (rw add-suc at b))))

  pub place_within : (r : ℕ) → Within m s r (place m s r)
  unfolding place shorter
  place_within r = look r r 0 zero-le (le_trans (omega arith) (shorter_ge (suc (0 + r))))

  pub place_is : {r i : ℕ} → Within m s r i → place m s r ≡ i
  place_is {r} w = le_antisymm (within_le (le_refl r) (place_within r) w) (within_le (le_refl r) w (place_within r))

  -- ---- a rank is a place, the value of its continuers and a stopper, in one way

  pub at_within : (i : ℕ) {x y : ℕ} → x < opens m s i → y < s i → Within m s (rank_at m s i x y) i
  unfolding rank_at shorter
  at_within i hx hy = record { above = omega arith; below = omega (arith, digits_lt hx hy) }

  -- what holds of each place, value and stopper holds of each rank
  pub by_parts {ℓ} : (P : ℕ → Type ℓ) → ((i x y : ℕ) → x < opens m s i → y < s i → P (rank_at m s i x y)) → (r : ℕ) → P r
  unfolding rank_at shorter
  by_parts P f r =
      let i : ℕ = place m s r in
      let q : ℕ = r - shorter m s i in
      let w : Within m s r i = place_within r in
      let hq : q < opens m s i * s i = omega (arith, w.above, w.below) in
      let e : shorter m s i + (q / s i * s i + q % s i) ≡ r = rw div-add-mod' (add-sub_of_le w.above) in
      subst P e (f i (q / s i) (q % s i) ((div-lt_iff_lt-mul (g.low i)).1 hq) (mod-lt q (g.low i)))

  -- what each continuer hands on to its digit, a spelling does
  pub through {ℓ} : {X : Type ℓ} (f : ℕ → ℕ → List ℕ → X)
      → ((i x y : ℕ) (w : List ℕ) → s i ≤ y → y < m → f i x (y ∷ w) ≡ f (suc i) (x * (m - s i) + (y - s i)) w)
      → (i x : ℕ) (w : List ℕ) → x < opens m s i → f 0 0 (spell m s i x w) ≡ f i x w
  unfolding spell opens
  through f on zero x w h = rw (lt-one h)
  through f on (suc i) x w h =
      through f on i (x / (m - s i)) _ ((div-lt_iff_lt-mul (conts_pos i)).1 h)
      ∙ on i (x / (m - s i)) _ w (omega arith) (omega (arith, mod-lt x (conts_pos i)))
      ∙ rw (add-sub_cancel_left, div-add-mod')

  -- ---- the rank, symbol by symbol

  pub rank_stop : (i x y : ℕ) (w : List ℕ) → y < s i → rank_from m s i x (y ∷ w) ≡ rank_at m s i x y
  unfolding rank_from
  rank_stop i x y w h = cond_yes (ltb y (s i)) _ _ (yes_ltb h)

  pub rank_more : (i x y : ℕ) (w : List ℕ) → s i ≤ y → rank_from m s i x (y ∷ w) ≡ rank_from m s (suc i) (x * (m - s i) + (y - s i)) w
  unfolding rank_from
  rank_more i x y w h = cond_no (ltb y (s i)) _ _ (no_ltb h)

  -- ---- L4, L5, L7: lengths

  pub length_codeword : (r : ℕ) → length (codeword m s r) ≡ suc (place m s r)
  unfolding codeword
  length_codeword r = length_spell m s (place m s r) _ _ ∙ omega arith

  pub length_mono : {r r' : ℕ} → r ≤ r' → length (codeword m s r) ≤ length (codeword m s r')
  length_mono {r} {r'} h = rw (length_codeword r, length_codeword r') (omega (arith, within_le h (place_within r) (place_within r')))

  -- codewords of length i + 1 are the ranks from shorter i on, and there are opens i * s i of them
  pub length_iff : (r i : ℕ) → (length (codeword m s r) ≡ suc i) ↔ Within m s r i
  length_iff r i = (
    (λ e. subst (Within m s r) (suc_inj (sym (length_codeword r) ∙ e)) (place_within r)),
    (λ w. length_codeword r ∙ ap suc (place_is w)),
  )

  -- with i places there are at least (m - 1) * i + 1 rows, finished or open
  rows : (i : ℕ) → m * i + 1 ≤ shorter m s i + opens m s i + i
  unfolding shorter opens
  rows zero = rw mul-zero (omega arith)
  rows (suc i) =
      let e : opens m s i * s i + opens m s i * (m - s i) ≡ opens m s i * m
      = rw (← mul-add, add-sub_of_le (le_of_lt (g.high i))) in
      rw mul-suc (omega (arith, rows i, e, sum_le (opens m s i) m (opens_pos i) (omega (arith, g.high i))))

  -- so a rank of at most (m - 1) * i has at most i + 1 symbols
  pub length_le : (r i : ℕ) → r + i ≤ m * i → length (codeword m s r) ≤ suc i
  unfolding shorter
  length_le r i h =
      let k : r < shorter m s (suc i) = omega (arith, rows i, le-mul_of_pos_right (opens m s i) (g.low i)) in
      let w : Within m s r (place m s r) = place_within r in
      rw length_codeword (elim (dec_le (place m s r) i) [ yes p ↦ suc-le-suc p | no p ↦ omega (arith, shorter_le (lt_of_not-le p), w.above, k) ])

  pub length_86 : 4 ≤ m → (r : ℕ) → r < 256 → length (codeword m s r) ≤ 86
  length_86 h r k = length_le r 85 (omega arith)

-- with one number for all places there are (m - s) ^ i rows of i continuers
pub opens_const : (m s i : ℕ) → opens m (λ _. s) i ≡ (m - s) ^ i
unfolding opens
opens_const m s zero = sym (pow-zero (m - s))
opens_const m s (suc i) = rw (opens_const m s i, pow-suc)

-- ---- the test of a codeword

word_step : (m : ℕ) (s : ℕ → ℕ) (i y z : ℕ) (w : List ℕ) → s i ≤ y → y < m → T (is_word m s (suc i) (z ∷ w)) → T (is_word m s i (y ∷ z ∷ w))
unfolding is_word
word_step m s i y z w a b h = yes_and (leb (s i) y && ltb y m) _ (yes_and (leb (s i) y) (ltb y m) (yes_leb a) (yes_ltb b)) h

pub word_test : {m : ℕ} {s : ℕ → ℕ} {i : ℕ} {w : List ℕ} → IsCodeword m s i w → T (is_word m s i w)
unfolding is_word
word_test (stop h) = yes_ltb h
word_test {m} {s} {i} (more {y = y} a b (stop {y = z} h)) = word_step m s i y z [] a b (yes_ltb h)
word_test {m} {s} {i} (more {y = y} a b (more {y = z} {w = w} c d h)) = word_step m s i y z w a b (word_test (more c d h))

pub test_word : (m : ℕ) (s : ℕ → ℕ) (i : ℕ) (w : List ℕ) → T (is_word m s i w) → IsCodeword m s i w
unfolding is_word
test_word m s i [] t = absurd t
test_word m s i (y ∷ []) t = stop (ltb→lt _ _ t)
test_word m s i (y ∷ z ∷ w) t =
    let u = and_yes (leb (s i) y && ltb y m) _ t in
    let v = and_yes (leb (s i) y) (ltb y m) u.0 in
    more (leb→le _ _ v.0) (ltb→lt _ _ v.1) (test_word m s (suc i) (z ∷ w) u.1)

-- a stopper ends the codeword
pub word_stop : (m : ℕ) (s : ℕ → ℕ) (i y z : ℕ) (w : List ℕ) → y < s i → is_word m s i (y ∷ z ∷ w) ≡ false
unfolding is_word
word_stop m s i y z w h = rw (lt-leb _ _ h)

pub word_last : (m : ℕ) (s : ℕ → ℕ) (i y : ℕ) → y < s i → is_word m s i (y ∷ []) ≡ true
unfolding is_word
word_last m s i y h = lt-ltb _ _ h

pub word_more : (m : ℕ) (s : ℕ → ℕ) (i y : ℕ) (w : List ℕ) → s i ≤ y → y < m → is_word m s i (y ∷ w) ≡ is_word m s (suc i) w
unfolding is_word
word_more m s i y [] h k = le-ltb _ _ h
word_more m s i y (z ∷ w) h k = rw (le-leb _ _ h, lt-ltb _ _ k)

-- no symbol is m or more
pub word_big : (m : ℕ) (s : ℕ → ℕ) (i y : ℕ) (w : List ℕ) → s i < m → m ≤ y → is_word m s i (y ∷ w) ≡ false
unfolding is_word
word_big m s i y [] h k = let e : s i ≤ y = omega arith in le-ltb _ _ e
word_big m s i y (z ∷ w) h k = let e : s i ≤ y = omega arith in rw (le-leb _ _ e, le-ltb _ _ k)
