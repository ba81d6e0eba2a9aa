-- Hits are the places where the pattern stands, ascending; and characters stand where their ranks stand.
use Rattle.std.specs.Prelude.{◌≡◌, ◌↔◌, ◌⊎◌, Bool, true, false, cond, ◌&&◌, List, [], ◌∷◌, ◌++◌, map, ℕ, zero, suc, ◌+◌, ◌≤◌, ◌<◌, eqb, length, drop, get_or}
use Rattle.std.proofs.Math.Path.{refl, ap₂, subst}
use Rattle.std.proofs.Common.{sym, ap, ◌∙◌, inl, inr, suc-add, add-suc, add-zero, not-suc-le-zero, le_of_suc-le-suc, eqb→eq}
use mathlib.Core.List.Memᴰ
use Rattle.std.proofs.Math.Nat.{zero-add}
use native.Mathlib.Omega.{arith}
use Rattle.std.proofs.Math.Facts.{yes_eqb}
use Rattle.std.proofs.Math.Dec.{T, eqb_refl}
use Rattle.ground.specs.Laws.Tests.{same_test}
use Rattle.stopper.specs.Paper.Table.{has, rank_in}
use Rattle.stopper.specs.Laws.Characters.{◌∈◌}
use Rattle.texts.specs.Paper.Characters.{first_foreign}
use Rattle.texts.specs.Paper.Hits.{stands, hits_from, hits}
use Rattle.texts.specs.Laws.Characters.{InTable, empty, char, rank_character, known_foreign}

-- ---- a pattern stands at the start of a text exactly if the text is the pattern and more

abbrev pub Front : List ℕ → List ℕ → Type 0
Front p t = (r : List ℕ) × (t ≡ p ++ r)

pub stands_front : (p t : List ℕ) → T (stands p t) → Front p t
unfolding stands
stands_front [] t h = (t, refl)
stands_front (x ∷ p) [] h = absurd h
stands_front (x ∷ p) (y ∷ t) h = go (eqb x y) (eqb→eq x y) (stands_front p t) h
  where
    go : (c : Bool) → (T c → x ≡ y) → (T (stands p t) → Front p t) → T (c && stands p t) → Front (x ∷ p) (y ∷ t)
    go true e ih k = let (r, q) = ih k in (r, ap₂ {C = List ℕ} ◌∷◌ (sym (e tt)) q)
    go false e ih k = absurd k

front_itself : (p r : List ℕ) → T (stands p (p ++ r))
unfolding stands
front_itself [] r = tt
front_itself (x ∷ p) r = go (eqb x x) (eqb_refl x) (front_itself p r)
  where
    go : (c : Bool) → T c → T (stands p (p ++ r)) → T (c && stands p (p ++ r))
    go true t k = k
    go false t k = absurd t

pub front_stands : (p t : List ℕ) → Front p t → T (stands p t)
front_stands p t f = rw f.1 (front_itself p f.0)

-- ---- the hits are the places where the pattern stands

-- j is i + d, and p stands at place d of t
abbrev HitAt : List ℕ → List ℕ → ℕ → ℕ → Type 0
HitAt p t i j = (d : ℕ) × (j ≡ i + d) × (d < length t) × T (stands p (drop d t))

mem_hits : (p t : List ℕ) (i j : ℕ) → j ∈ hits_from p i t → HitAt p t i j
unfolding hits_from
mem_hits p [] i j m = absurd (Memᴰ.not-nil m)
mem_hits p (y ∷ t) i j m = go (stands p (y ∷ t)) (λ k. k) (mem_hits p t (suc i) j) m
  where
    old : HitAt p t (suc i) j → HitAt p (y ∷ t) i j
    old h = let (d, e, k, q) = h in (suc d, omega arith, omega arith, q)

    new : T (stands p (y ∷ t)) → (j ∈ hits_from p (suc i) t → HitAt p t (suc i) j) → (j ≡ i) ⊎ (j ∈ hits_from p (suc i) t) → HitAt p (y ∷ t) i j
    new k ih (inl e) = (0, omega arith, omega arith, k)
    new k ih (inr n) = old (ih n)

    go : (c : Bool) → (T c → T (stands p (y ∷ t))) → (j ∈ hits_from p (suc i) t → HitAt p t (suc i) j)
        → j ∈ cond c (i ∷ hits_from p (suc i) t) (hits_from p (suc i) t) → HitAt p (y ∷ t) i j
    go true k ih n = new (k tt) ih (Memᴰ.cases_cons n)
    go false k ih n = old (ih n)

hits_mem : (p t : List ℕ) (i d : ℕ) → d < length t → T (stands p (drop d t)) → (i + d) ∈ hits_from p i t
unfolding hits_from
hits_mem p [] i d h k = absurd (not-suc-le-zero h)
hits_mem p (y ∷ t) i zero h k = rw add-zero (go (stands p (y ∷ t)) k)
  where
    go : (c : Bool) → T c → i ∈ cond c (i ∷ hits_from p (suc i) t) (hits_from p (suc i) t)
    go true q = Memᴰ.head refl
    go false q = absurd q
hits_mem p (y ∷ t) i (suc d) h k = rw (add-suc, ← suc-add) (go (stands p (y ∷ t)) (hits_mem p t (suc i) d (le_of_suc-le-suc h) k))
  where
    go : (c : Bool) → (suc i + d) ∈ hits_from p (suc i) t → (suc i + d) ∈ cond c (i ∷ hits_from p (suc i) t) (hits_from p (suc i) t)
    go true q = Memᴰ.tail q
    go false q = q

-- a row that rises from n on
pub data Rising : ℕ → List ℕ → Type 0 where
  none : {n : ℕ} → Rising n []
  next : {n x : ℕ} {xs : List ℕ} → n ≤ x → Rising (suc x) xs → Rising n (x ∷ xs)

rising_lower : {n : ℕ} {xs : List ℕ} → Rising (suc n) xs → Rising n xs
rising_lower none = none
rising_lower {n} (next {x = x} h k) = next {n = n} {x = x} (omega arith) k

hits_rise : (p t : List ℕ) (i : ℕ) → Rising i (hits_from p i t)
unfolding hits_from
hits_rise p [] i = none
hits_rise p (y ∷ t) i = go (stands p (y ∷ t)) (hits_rise p t (suc i))
  where
    go : (c : Bool) → Rising (suc i) (hits_from p (suc i) t) → Rising i (cond c (i ∷ hits_from p (suc i) t) (hits_from p (suc i) t))
    go true k = next {n = i} {x = i} (omega arith) k
    go false k = rising_lower k

hits_few : (p t : List ℕ) (i : ℕ) → length (hits_from p i t) ≤ length t
unfolding hits_from
hits_few p [] i = omega arith
hits_few p (y ∷ t) i = go (stands p (y ∷ t)) (hits_few p t (suc i))
  where
    go : (c : Bool) → length (hits_from p (suc i) t) ≤ length t → length (cond c (i ∷ hits_from p (suc i) t) (hits_from p (suc i) t)) ≤ suc (length t)
    go true k = omega arith
    go false k = omega arith

module _ (p t : List ℕ) where
  pub hit_is : (i : ℕ) → i ∈ hits p t ↔ ((i < length t) × T (stands p (drop i t)))
  unfolding hits
  hit_is i = (
    (λ m.
        let (d, e, h, k) = mem_hits p t 0 i m in
        let q : d ≡ i = omega arith in
        (omega arith, subst (λ (n : ℕ). T (stands p (drop n t))) q k)),
    (λ h. rw zero-add at (hits_mem p t 0 i h.0 h.1)),
  )

  pub hits_rising : Rising 0 (hits p t)
  unfolding hits
  hits_rising = hits_rise p t 0

  pub hits_length : length (hits p t) ≤ length t
  unfolding hits
  hits_length = hits_few p t 0

-- two rising rows of the same numbers are equal: so no other row is the hits
rising_least : {n x : ℕ} {xs : List ℕ} → Rising n xs → x ∈ xs → n ≤ x
rising_least none m = absurd (Memᴰ.not-nil m)
rising_least {n} {x} (next {x = y} {xs = ys} h k) m = go (rising_least k) (Memᴰ.cases_cons m)
  where
    go : (x ∈ ys → suc y ≤ x) → (x ≡ y) ⊎ (x ∈ ys) → n ≤ x
    go later (inl e) = omega arith
    go later (inr q) = omega (arith, later q)

pub rising_one : {a b : ℕ} {xs ys : List ℕ} → Rising a xs → Rising b ys → ((i : ℕ) → i ∈ xs ↔ i ∈ ys) → xs ≡ ys
rising_one none none e = refl
rising_one none (next {x = y} h k) e = absurd (Memᴰ.not-nil ((e y).1 (Memᴰ.head refl)))
rising_one (next {x = x} h k) none e = absurd (Memᴰ.not-nil ((e x).0 (Memᴰ.head refl)))
rising_one {xs = x ∷ xs} {ys = y ∷ ys} (next h k) (next h' k') e =
    ap₂ {C = List ℕ} ◌∷◌ same (rising_one k k' (λ i. (later i, earlier i)))
  where
    least : (a : ℕ) (more : List ℕ) (b : ℕ) → Rising (suc a) more → (b ≡ a) ⊎ (b ∈ more) → a ≤ b
    least a more b r (inl q) = omega arith
    least a more b r (inr q) = omega (arith, rising_least r q)

    same : x ≡ y
    same =
        let p : y ≤ x = least y ys x k' (Memᴰ.cases_cons ((e x).0 (Memᴰ.head refl))) in
        let q : x ≤ y = least x xs y k (Memᴰ.cases_cons ((e y).1 (Memᴰ.head refl))) in
        omega arith

    past : (a : ℕ) (more other : List ℕ) (b i : ℕ) → a ≡ b → Rising (suc a) more → i ∈ more → (i ≡ b) ⊎ (i ∈ other) → i ∈ other
    past a more other b i e r m (inl q) = absurd (omega (arith, rising_least r m))
    past a more other b i e r m (inr q) = q

    later : (i : ℕ) → i ∈ xs → i ∈ ys
    later i m = past x xs ys y i same k m (Memᴰ.cases_cons ((e i).0 (Memᴰ.tail m)))

    earlier : (i : ℕ) → i ∈ ys → i ∈ xs
    earlier i m = past y ys xs x i (sym same) k' m (Memᴰ.cases_cons ((e i).1 (Memᴰ.tail m)))

pub hits_one : (p t found : List ℕ) → Rising 0 found → ((i : ℕ) → i ∈ found ↔ ((i < length t) × T (stands p (drop i t)))) → found ≡ hits p t
hits_one p t found r e = rising_one r (hits_rising p t) (λ i. ((λ m. (hit_is p t i).1 ((e i).0 m)), (λ m. (e i).1 ((hit_is p t i).0 m))))

-- ---- characters stand where their ranks stand

module _ (l : List ℕ) where
  eqb_ranks : (a b : ℕ) → T (has a l) → T (has b l) → eqb (rank_in l a) (rank_in l b) ≡ eqb a b
  eqb_ranks a b ha hb =
      same_test _ _
      (λ t. yes_eqb (sym (rank_character l a ha) ∙ ap (λ (r : ℕ). get_or l r 0) (eqb→eq _ _ t) ∙ rank_character l b hb))
      (λ t. yes_eqb (ap (rank_in l) (eqb→eq _ _ t)))

  pub stands_ranks : {p t : List ℕ} → InTable l p → InTable l t → stands (map (rank_in l) p) (map (rank_in l) t) ≡ stands p t
  unfolding stands
  stands_ranks empty ht = refl
  stands_ranks (char ha hp) empty = refl
  stands_ranks (char {b = a} ha hp) (char {b = b} hb ht) = ap₂ (λ (x y : Bool). x && y) (eqb_ranks a b ha hb) (stands_ranks hp ht)

  known_front : (p r : List ℕ) → InTable l (p ++ r) → InTable l p
  known_front [] r h = empty
  known_front (x ∷ p) r (char a h) = char a (known_front p r h)

  -- a pattern with a character that is not in the table stands nowhere
  module _ (p : List ℕ) (f : first_foreign l p < length p) where
    pub foreign_nowhere : {t : List ℕ} → InTable l t → stands p t ≡ false
    foreign_nowhere {t} h =
        same_test (stands p t) false
        (λ k.
        let (r, e) = stands_front p t k in
        let q : InTable l p = known_front p r (rw e at h) in
        omega (arith, known_foreign l q))
        (λ k. absurd k)

    foreign_from : (i : ℕ) {t : List ℕ} → InTable l t → hits_from p i t ≡ []
    unfolding hits_from
    foreign_from i empty = refl
    foreign_from i (char {b = b} {text = t} a h) = rw (foreign_nowhere (char a h)) (foreign_from (suc i) h)

    pub foreign_hits : {t : List ℕ} → InTable l t → hits p t ≡ []
    unfolding hits
    foreign_hits h = foreign_from 0 h
