-- The laws of beginnings: characters where they stand in a pattern, how large the bits are, and texts one after the other.
use Rattle.std.specs.Prelude.{◌≡◌, refl, Bool, true, false, cond, List, [], ◌∷◌, ◌++◌, ℕ, suc, ◌+◌, ◌-◌, ◌*◌, ◌/◌, ◌%◌, ◌^◌, ◌≤◌, ◌<◌, min, leb, eqb, length, take, get_or, set}
use Rattle.std.proofs.Common.{sym, ap₂, ◌∙◌, add-zero, add-suc, suc-add, pow-suc, mod-lt, mod-eq_of_lt, add-one, arith, eq-eqb, ne_eqb, leb→le, pow_pos, pow_mono, take-suc, length-take-le}
use Rattle.std.proofs.Math.Path.{ap}
use Rattle.std.proofs.Math.Nat.{mod-le, mod-eq-sub-mod}
use Rattle.std.specs.Int.Bits.{bit_and, and_step, and_zero_r}
use Rattle.std.proofs.lemmas.Nat.{and_le_l, and_le_r}
use Rattle.std.proofs.Math.Dec.{nleb→lt}
use Rattle.ground.specs.Laws.Rows.{tab_at, tab_set}
use Rattle.ground.specs.Laws.Tests.{by_test}
use Rattle.radio.specs.Paper.Matching.{grown, advanced, whole_bit, ends_there, matches, matches_all, named}
use Rattle.radio.specs.Helpers.Masks.{mask_of, masks_of}

-- ---- the places of a pattern where a character stands

pub mask_low : (p : List ℕ) (b : ℕ) → mask_of p b < 2 ^ length p
unfolding mask_of
mask_low [] b = omega arith
mask_low (x ∷ p) b = go (eqb x b) (mask_low p b)
  where
    go : (c : Bool) → mask_of p b < 2 ^ length p → cond c 1 0 + 2 * mask_of p b < 2 ^ suc (length p)
    go true h = omega (arith, pow-suc 2 (length p))
    go false h = omega (arith, pow-suc 2 (length p))

-- one character more
pub mask_more : (p : List ℕ) (x b : ℕ) → mask_of (p ++ (x ∷ [])) b ≡ mask_of p b + cond (eqb x b) (2 ^ length p) 0
unfolding mask_of
mask_more [] x b = omega arith
mask_more (y ∷ p) x b = go (eqb x b) (mask_more p x b)
  where
    go : (c : Bool) → mask_of (p ++ (x ∷ [])) b ≡ mask_of p b + cond c (2 ^ length p) 0
        → cond (eqb y b) 1 0 + 2 * mask_of (p ++ (x ∷ [])) b ≡ cond (eqb y b) 1 0 + 2 * mask_of p b + cond c (2 ^ suc (length p)) 0
    go true e = omega (arith, pow-suc 2 (length p))
    go false e = omega arith

pub masks_more : (p : List ℕ) (x : ℕ) → x < 256 → set (masks_of p) x (get_or (masks_of p) x 0 + 2 ^ length p) ≡ masks_of (p ++ (x ∷ []))
masks_more p x h =
    tab_set (mask_of p) (mask_of (p ++ (x ∷ []))) 256 x (get_or (masks_of p) x 0 + 2 ^ length p) h
    (mask_more p x x ∙ rw (eq-eqb x x refl, tab_at (mask_of p) 256 x h))
    (λ b n. mask_more p x b ∙ rw (ne_eqb x b (λ e. n (sym e)), add-zero))

-- the bits that go on, and where the character stands, are what has grown
and_grown : (p : List ℕ) (a e b : ℕ) → a ≤ 1 → bit_and (2 * e + a) (mask_of p b) ≡ grown a e p b
unfolding mask_of grown
and_grown [] a e b h = and_zero_r (2 * e + a)
and_grown (x ∷ p) a e b h =
    let same : (2 * e + a) / 2 ≡ 2 * (e / 2) + e % 2 = omega arith in
    and_step (2 * e + a) (mask_of (x ∷ p) b)
    ∙ ap₂ (λ (m n : ℕ). m * 2 + n) (ap₂ bit_and same (half (eqb x b)) ∙ and_grown p (e % 2) (e / 2) b (omega arith)) (odd (eqb x b))
    ∙ omega arith
  where
    half : (c : Bool) → (cond c 1 0 + 2 * mask_of p b) / 2 ≡ mask_of p b
    half true = omega arith
    half false = omega arith

    odd : (c : Bool) → min ((2 * e + a) % 2) ((cond c 1 0 + 2 * mask_of p b) % 2) ≡ cond c a 0
    odd true = omega arith
    odd false = omega arith

pub mask_grown : (p : List ℕ) (e b : ℕ) → bit_and (2 * e + 1) (mask_of p b) ≡ advanced p e b
mask_grown p e b = and_grown p 1 e b (omega arith)

-- ---- how large the bits are

module _ (p : List ℕ) (e b : ℕ) where
  pub grown_low : advanced p e b < 2 ^ length p
  grown_low = omega (arith, mask_grown p e b, and_le_r (2 * e + 1) (mask_of p b), mask_low p b)

  pub grown_count : (n : ℕ) → e < 2 ^ n → advanced p e b < 2 ^ suc n
  grown_count n h = omega (arith, mask_grown p e b, and_le_l (2 * e + 1) (mask_of p b), pow-suc 2 n)

  pub matches_low : matches p e b < whole_bit p
  matches_low = mod-lt (advanced p e b) (pow_pos (length p - 1))

  pub matches_count : (n : ℕ) → e < 2 ^ n → matches p e b < 2 ^ suc n
  matches_count n h = omega (arith, mod-le (advanced p e b) (whole_bit p), grown_count n h)

  -- a hit has all its characters
  pub hit_fits : (n : ℕ) → e < 2 ^ n → whole_bit p ≤ advanced p e b → length p ≤ suc n
  hit_fits n h w =
      by_test (leb (length p) (suc n)) (leb→le _ _)
      (λ t. absurd (omega (arith, grown_count n h, pow_mono (below (nleb→lt _ _ t)))))
    where
      below : suc n < length p → suc n ≤ length p - 1
      below h = omega arith

  pub hit_none : advanced p e b < whole_bit p → advanced p e b ≡ matches p e b
  hit_none h = sym (mod-eq_of_lt h)

  pub hit_rest : 0 < length p → whole_bit p ≤ advanced p e b → advanced p e b - whole_bit p ≡ matches p e b
  hit_rest h w =
      let whole : suc (length p - 1) ≡ length p = omega arith in
      sym (mod-eq-sub-mod w ∙ mod-eq_of_lt (omega (arith, grown_low, pow-suc 2 (length p - 1), ap (λ (k : ℕ). 2 ^ k) whole)))

pub all_low : (p : List ℕ) (e : ℕ) (t : List ℕ) → e < whole_bit p → matches_all p e t < whole_bit p
unfolding matches_all
all_low p e [] h = h
all_low p e (x ∷ t) h = all_low p (matches p e x) t (matches_low p e x)

pub all_count : (p : List ℕ) (e n : ℕ) (t : List ℕ) → e < 2 ^ n → matches_all p e t < 2 ^ (n + length t)
unfolding matches_all
all_count p e n [] h = rw add-zero h
all_count p e n (x ∷ t) h = rw (add-suc, ← suc-add) (all_count p (matches p e x) (suc n) t (matches_count p e x n h))

-- ---- texts one after the other

pub matches_append : (p : List ℕ) (e : ℕ) (t u : List ℕ) → matches_all p e (t ++ u) ≡ matches_all p (matches_all p e t) u
unfolding matches_all
matches_append p e [] u = refl
matches_append p e (x ∷ t) u = matches_append p (matches p e x) t u

pub named_append : (p : List ℕ) (e n : ℕ) (t u : List ℕ) → named p e n (t ++ u) ≡ named p e n t ++ named p (matches_all p e t) (n + length t) u
unfolding matches_all named
named_append p e n [] u = rw add-zero
named_append p e n (x ∷ t) u =
    rw (add-suc, ← suc-add, named_append p (matches p e x) (suc n) t u) (go (ends_there p e x) (named p (matches p e x) (suc n) t) (named p (matches_all p (matches p e x) t) (suc n + length t) u))
  where
    go : (c : Bool) (l r : List ℕ) → cond c ((suc n - length p) ∷ (l ++ r)) (l ++ r) ≡ cond c ((suc n - length p) ∷ l) l ++ r
    go true l r = refl
    go false l r = refl

pub named_few : (p : List ℕ) (e n : ℕ) (t : List ℕ) → length (named p e n t) ≤ length t
unfolding named
named_few p e n [] = omega arith
named_few p e n (x ∷ t) = go (ends_there p e x) (named p (matches p e x) (suc n) t) (named_few p (matches p e x) (suc n) t)
  where
    go : (c : Bool) (l : List ℕ) → length l ≤ length t → length (cond c ((suc n - length p) ∷ l) l) ≤ suc (length t)
    go true l h = omega arith
    go false l h = omega arith

-- one character more
module _ (p : List ℕ) (e n x : ℕ) where
  pub named_hit : ends_there p e x ≡ true → named p e n (x ∷ []) ≡ (suc n - length p) ∷ []
  unfolding named
  named_hit h = rw h

  pub named_none : ends_there p e x ≡ false → named p e n (x ∷ []) ≡ []
  unfolding named
  named_none h = rw h

-- one character more of a text
module _ (p : List ℕ) (e : ℕ) (t : List ℕ) (i : ℕ) (h : i < length t) where
  take_next : take (i + 1) t ≡ take i t ++ (get_or t i 0 ∷ [])
  take_next = rw (add-one i) (take-suc t i 0 h)

  pub matches_next : matches_all p e (take (i + 1) t) ≡ matches p (matches_all p e (take i t)) (get_or t i 0)
  unfolding matches_all
  matches_next = ap (matches_all p e) take_next ∙ matches_append p e (take i t) (get_or t i 0 ∷ [])

  pub named_next : (n : ℕ) → named p e n (take (i + 1) t) ≡ named p e n (take i t) ++ named p (matches_all p e (take i t)) (n + i) (get_or t i 0 ∷ [])
  named_next n =
      ap (named p e n) take_next
      ∙ named_append p e n (take i t) (get_or t i 0 ∷ [])
      ∙ ap (λ (k : ℕ). named p e n (take i t) ++ named p (matches_all p e (take i t)) (n + k) (get_or t i 0 ∷ [])) (length-take-le i t (omega arith))
