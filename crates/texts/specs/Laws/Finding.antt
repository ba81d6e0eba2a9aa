-- Searching step by step: the comparison, the list, and that the numbers that pass are the hits.
use Rattle.std.specs.Prelude.{◌≡◌, refl, ◌≢◌, Bool, true, false, cond, ◌&&◌, List, [], ◌∷◌, ◌++◌, ℕ, zero, suc, ◌+◌, ◌≤◌, ◌<◌, eqb, length, drop, get_or, set}
use Rattle.std.proofs.Common.{sym, ap, ◌∙◌, append-nil, add-zero, zero-add, arith, eq-eqb, ne_eqb, length-append, drop-cons, drop-drop, take_all}
use Rattle.std.proofs.Math.Path.{ap₂}
use Rattle.std.proofs.Math.Numerals.{add-one}
use Rattle.std.proofs.Math.ListN.{drop_of_length-le}
use Rattle.std.proofs.Math.Seq.{drop-length, take-nil, set-append_seam, append_snoc}
use Rattle.std.proofs.lemmas.List.{take-append-le}
use Rattle.texts.specs.Paper.Hits.{stands, hits_from, hits, listed}
use Rattle.texts.specs.Helpers.Passing.{grown, passing}

-- ---- the comparison

pub stands_end : (p t : List ℕ) → stands (drop (length p) p) t ≡ true
unfolding stands
stands_end p t = rw (drop-length p)

module _ (p t : List ℕ) (j i : ℕ) (hj : j < length p) where
  pub stands_past : length t ≤ i → stands (drop j p) (drop i t) ≡ false
  unfolding stands
  stands_past h = rw (drop-cons p j 0 hj, drop_of_length-le t h)

  module _ (hi : i < length t) where
    stands_step : stands (drop j p) (drop i t) ≡ (eqb (get_or p j 0) (get_or t i 0) && stands (drop (j + 1) p) (drop (i + 1) t))
    unfolding stands
    stands_step = ap₂ stands (drop-cons p j 0 hj) (drop-cons t i 0 hi) ∙ rw (add-one i, add-one j)

    pub stands_same : get_or t i 0 ≡ get_or p j 0 → stands (drop j p) (drop i t) ≡ stands (drop (j + 1) p) (drop (i + 1) t)
    stands_same e = stands_step ∙ rw (eq-eqb _ _ (sym e))

    pub stands_differ : get_or t i 0 ≢ get_or p j 0 → stands (drop j p) (drop i t) ≡ false
    stands_differ n = stands_step ∙ rw (ne_eqb _ _ (λ e. n (sym e)))

-- ---- the list

pub passing_more : (f : ℕ → Bool) (n : ℕ) {b : Bool} → b ≡ f n → passing f (n + 1) ≡ grown b n (passing f n)
unfolding passing
passing_more f n e = rw (add-one n, e)

pub listed_none : (slice : List ℕ) → listed [] slice ≡ slice
listed_none slice = ap (λ (l : List ℕ). l ++ slice) (take-nil (length slice))

module _ (found slice : List ℕ) (x : ℕ) where
  pub listed_more : length found < length slice → listed (found ++ (x ∷ [])) slice ≡ set (listed found slice) (length found) x
  listed_more h =
      let n : length (found ++ (x ∷ [])) ≡ suc (length found) = length-append found (x ∷ []) ∙ add-one (length found) in
      ap₂ (λ (a b : List ℕ). a ++ b) (take_all (length slice) (found ++ (x ∷ [])) (omega arith)) (ap (λ (k : ℕ). drop k slice) n)
      ∙ append_snoc found x (drop (suc (length found)) slice)
      ∙ sym (set-append_seam found (get_or slice (length found) 0) (drop (suc (length found)) slice) x)
      ∙ ap₂ (λ (a b : List ℕ). set (a ++ b) (length found) x) (sym (take_all (length slice) found (omega arith))) (sym (drop-cons slice (length found) 0 h))

  pub listed_full : length slice ≤ length found → listed (found ++ (x ∷ [])) slice ≡ listed found slice
  listed_full h =
      let k : length slice ≤ length (found ++ (x ∷ [])) = omega (arith, length-append found (x ∷ [])) in
      ap₂ (λ (a b : List ℕ). a ++ b) (take-append-le (length slice) found (x ∷ []) h) (drop_of_length-le slice k ∙ sym (drop_of_length-le slice h))

-- ---- the numbers that pass are the hits

pub passing_same : {f g : ℕ → Bool} (n : ℕ) → ((i : ℕ) → i < n → f i ≡ g i) → passing f n ≡ passing g n
unfolding passing
passing_same zero e = refl
passing_same (suc n) e = rw (e n (omega arith), passing_same n (λ i h. e i (omega arith)))

passing_hits : (p whole t : List ℕ) (i : ℕ) → drop i whole ≡ t
    → passing (λ j. stands p (drop j whole)) (i + length t) ≡ passing (λ j. stands p (drop j whole)) i ++ hits_from p i t
unfolding passing hits_from
passing_hits p whole [] i e = rw (add-zero, append-nil)
passing_hits p whole (x ∷ t) i e =
    let f : ℕ → Bool = λ j. stands p (drop j whole) in
    let n : i + suc (length t) ≡ suc i + length t = omega arith in
    ap (passing f) n
    ∙ passing_hits p whole t (suc i) (next whole i e)
    ∙ go (stands p (drop i whole)) (stands p (x ∷ t)) (ap (stands p) e) (passing f i) (hits_from p (suc i) t)
  where
    next : (whole : List ℕ) (i : ℕ) → drop i whole ≡ x ∷ t → drop (suc i) whole ≡ t
    next whole i e = ap (λ (n : ℕ). drop n whole) (sym (add-one i)) ∙ sym (drop-drop 1 i whole) ∙ ap (drop 1) e

    go : (a b : Bool) → a ≡ b → (found later : List ℕ) → grown a i found ++ later ≡ found ++ cond b (i ∷ later) later
    go true true q found later = append_snoc found i later
    go true false q found later = let z : ◌≡◌ {A = ℕ} 0 1 = cc in absurd (omega arith)
    go false true q found later = let z : ◌≡◌ {A = ℕ} 0 1 = cc in absurd (omega arith)
    go false false q found later = refl

pub passing_all : (p t : List ℕ) → passing (λ j. stands p (drop j t)) (length t) ≡ hits p t
unfolding passing hits
passing_all p t = ap (passing (λ j. stands p (drop j t))) (sym (zero-add (length t))) ∙ passing_hits p t t 0 refl
