-- Laws of rows of numbers.
use Rattle.std.specs.Prelude.{◌≡◌, Bool, take, drop, get_or, set, replicate, T, eqb}
use Rattle.std.proofs.Math.Path.{refl}
use Rattle.std.proofs.Common.{sym, ap, ◌∙◌, ⊎_elim, le_trans, add-zero, zero-add, add-suc, suc-add, not-suc-le-zero, le_of_suc-le-suc, length-append, length-set, take_at, drop-cons, ext_get_or, get_or-set_same, get_or-set_other}
use Rattle.std.proofs.Math.Bool.{true, false, cond}
use mathlib.Core.List.Memᴰ
use mathlib.Core.List.{List, [], ◌∷◌, ◌++◌, map, Memᴰ}
use Prim.Native.Nat.{ℕ, zero, suc, ◌+◌, ◌-◌, ◌≤◌, ◌<◌}
use Rattle.std.proofs.Math.Nat.{sub-zero, zero-sub, suc-sub-suc}
use Rattle.std.proofs.Math.Decide.{ℕ_discrete}
use native.Mathlib.Omega.{arith}
use Rattle.std.proofs.Math.Facts.{and_yes, eqb_yes}
use Rattle.std.proofs.Math.ListN.{length, get_or-append}
use Rattle.std.proofs.lemmas.List.{length-replicate, get_or-replicate, replicate-append-replicate}
use Rattle.std.proofs.Math.Seq.{drop-length}
use Rattle.ground.specs.Paper.Rows.{tab, zeros, padded, all_zero, first_where}
use Rattle.ground.specs.Helpers.Below.{Below, none, also}

-- ---- numbers below n

pub get_or_below : {n : ℕ} {xs : List ℕ} → Below n xs → 0 < n → (i : ℕ) → get_or xs i 0 < n
get_or_below none h i = h
get_or_below (also a b) h zero = a
get_or_below (also a b) h (suc i) = get_or_below b h i

pub below_at : {n : ℕ} {xs : List ℕ} → Below n xs → (i : ℕ) → i < length xs → get_or xs i 0 < n
below_at none i h = absurd (not-suc-le-zero h)
below_at (also a b) zero h = a
below_at (also a b) (suc i) h = below_at b i (le_of_suc-le-suc h)

pub below_mem : {n : ℕ} {xs : List ℕ} → Below n xs → (x : ℕ) → Memᴰ x xs → x < n
below_mem none x m = absurd (Memᴰ.not-nil m)
below_mem (also a b) x m = ⊎_elim (λ e. rw e a) (below_mem b x) (Memᴰ.cases_cons m)

-- from its members
pub below_from : (n : ℕ) (xs : List ℕ) → ((x : ℕ) → Memᴰ x xs → x < n) → Below n xs
below_from n [] h = none
below_from n (x ∷ xs) h = also (h x (Memᴰ.head refl)) (below_from n xs (λ y m. h y (Memᴰ.tail m)))

pub below_more : {m n : ℕ} {xs : List ℕ} → m ≤ n → Below m xs → Below n xs
below_more h none = none
below_more h (also a b) = also (le_trans a h) (below_more h b)

pub below_append : {n : ℕ} {xs ys : List ℕ} → Below n xs → Below n ys → Below n (xs ++ ys)
below_append none k = k
below_append (also a h) k = also a (below_append h k)

pub below_drop : {n : ℕ} {xs : List ℕ} → Below n xs → (i : ℕ) → Below n (drop i xs)
below_drop none zero = none
below_drop none (suc i) = none
below_drop (also a h) zero = also a h
below_drop (also a h) (suc i) = below_drop h i

pub below_take : {n : ℕ} {xs : List ℕ} → Below n xs → (i : ℕ) → Below n (take i xs)
below_take h zero = none
below_take none (suc i) = none
below_take (also a h) (suc i) = also a (below_take h i)

-- from its entries
pub below_all : (n : ℕ) (xs : List ℕ) → ((i : ℕ) → get_or xs i 0 < n) → Below n xs
below_all n [] h = none
below_all n (x ∷ xs) h = also (h 0) (below_all n xs (λ i. h (suc i)))

-- ---- a row through a function

pub map_at : (f : ℕ → ℕ) (xs : List ℕ) (i : ℕ) → i < length xs → get_or (map f xs) i 0 ≡ f (get_or xs i 0)
map_at f [] i h = absurd (not-suc-le-zero h)
map_at f (x ∷ xs) zero h = refl
map_at f (x ∷ xs) (suc i) h = map_at f xs i (le_of_suc-le-suc h)

-- ---- tables

pub length_tab : (f : ℕ → ℕ) (i n : ℕ) → length (tab f i n) ≡ n
unfolding tab
length_tab f i zero = refl
length_tab f i (suc n) = ap suc (length_tab f (suc i) n)

pub get_or_tab : (f : ℕ → ℕ) (i n j d : ℕ) → j < n → get_or (tab f i n) j d ≡ f (i + j)
unfolding tab
get_or_tab f i zero j d h = absurd (not-suc-le-zero h)
get_or_tab f i (suc n) zero d h = rw add-zero
get_or_tab f i (suc n) (suc j) d h = get_or_tab f (suc i) n j d (le_of_suc-le-suc h) ∙ rw (suc-add, add-suc)

-- from 0 on
pub tab_at : (f : ℕ → ℕ) (n j : ℕ) → j < n → get_or (tab f 0 n) j 0 ≡ f j
tab_at f n j h = get_or_tab f 0 n j 0 h ∙ ap f (zero-add j)

-- a list that has the table's entries is the table
pub tab_ext : (f : ℕ → ℕ) (n : ℕ) (l : List ℕ) → length l ≡ n → ((i : ℕ) → i < n → get_or l i 0 ≡ f i) → l ≡ tab f 0 n
tab_ext f n l e h =
    ext_get_or 0 l (tab f 0 n) (e ∙ sym (length_tab f 0 n)) (λ i p. h i (omega arith) ∙ sym (tab_at f n i (omega arith)))

-- one entry stored
pub tab_set : (f g : ℕ → ℕ) (n b v : ℕ) → b < n → g b ≡ v → ((j : ℕ) → (j ≡ b → ⊥) → g j ≡ f j) → set (tab f 0 n) b v ≡ tab g 0 n
tab_set f g n b v h e o =
    tab_ext g n (set (tab f 0 n) b v) (length-set (tab f 0 n) b v ∙ length_tab f 0 n) (λ i p. at_entry i p (ℕ_discrete i b))
  where
    at_entry : (i : ℕ) → i < n → Dec (i ≡ b) → get_or (set (tab f 0 n) b v) i 0 ≡ g i
    at_entry i p (yes q) = rw q (get_or-set_same (tab f 0 n) b v 0 (rw (length_tab f 0 n) h) ∙ sym e)
    at_entry i p (no q) = get_or-set_other (tab f 0 n) b i v 0 q ∙ tab_at f n i p ∙ sym (o i q)

pub tab_below : (f : ℕ → ℕ) (n i c : ℕ) → ((j : ℕ) → f j < n) → Below n (tab f i c)
unfolding tab
tab_below f n i zero h = none
tab_below f n i (suc c) h = also (h i) (tab_below f n (suc i) c h)

-- ---- zeros

pub length_zeros : (n : ℕ) → length (zeros n) ≡ n
unfolding zeros
length_zeros n = length-replicate n 0

pub drop_zeros : (i n : ℕ) → drop i (zeros n) ≡ zeros (n - i)
unfolding zeros
drop_zeros zero n = rw sub-zero
drop_zeros (suc i) zero = rw zero-sub
drop_zeros (suc i) (suc n) = rw suc-sub-suc (drop_zeros i n)

pub tab_zeros : (f : ℕ → ℕ) (n : ℕ) → ((i : ℕ) → f i ≡ 0) → zeros n ≡ tab f 0 n
unfolding zeros
tab_zeros f n z = tab_ext f n (replicate n 0) (length-replicate n 0) (λ i p. get_or-replicate n i 0 0 p ∙ sym (z i))

-- past their end too
pub get_or_zeros : (n i : ℕ) → get_or (zeros n) i 0 ≡ 0
unfolding zeros
get_or_zeros zero i = refl
get_or_zeros (suc n) zero = refl
get_or_zeros (suc n) (suc i) = get_or_zeros n i

-- a row with zeros after it
pub get_or_zeros_after : (xs : List ℕ) (n i : ℕ) → get_or (xs ++ zeros n) i 0 ≡ get_or xs i 0
get_or_zeros_after [] n i = get_or_zeros n i
get_or_zeros_after (x ∷ xs) n zero = refl
get_or_zeros_after (x ∷ xs) n (suc i) = get_or_zeros_after xs n i

pub zeros_append : (m n : ℕ) → zeros m ++ zeros n ≡ zeros (m + n)
unfolding zeros
zeros_append m n = replicate-append-replicate m n 0

-- ---- padded rows

pub length_padded : (n : ℕ) (row : List ℕ) → length row ≤ n → length (padded n row) ≡ n
unfolding padded
length_padded n row h = length-append row (zeros (n - length row)) ∙ omega (arith, length_zeros (n - length row))

-- a row laid over zeros
pub padded_over : (n : ℕ) (row : List ℕ) → row ++ drop (length row) (zeros n) ≡ padded n row
unfolding padded
padded_over n row = ap (λ (l : List ℕ). row ++ l) (drop_zeros (length row) n)

-- the row is what stands in its places
pub take_padded : (n : ℕ) (row : List ℕ) → take (length row) (padded n row) ≡ row
unfolding padded
take_padded n row = take_at row (zeros (n - length row)) (length row) refl

pub get_or_padded : (n : ℕ) (row : List ℕ) (i : ℕ) → i < length row → get_or (padded n row) i 0 ≡ get_or row i 0
unfolding padded
get_or_padded n row i h = get_or-append row (zeros (n - length row)) 0 i h

-- ---- the parts of a row through a function

pub map_drop : (f : ℕ → ℕ) (i : ℕ) (t : List ℕ) → drop i (map f t) ≡ map f (drop i t)
map_drop f zero t = refl
map_drop f (suc i) [] = refl
map_drop f (suc i) (x ∷ t) = map_drop f i t

pub map_take : (f : ℕ → ℕ) (i : ℕ) (t : List ℕ) → take i (map f t) ≡ map f (take i t)
map_take f zero t = refl
map_take f (suc i) [] = refl
map_take f (suc i) (x ∷ t) = ap {B = List ℕ} (λ l. f x ∷ l) (map_take f i t)

-- ---- all 0

pub zeros_zero : (n : ℕ) → T (all_zero (zeros n))
unfolding all_zero zeros
zeros_zero zero = tt
zeros_zero (suc n) = zeros_zero n

pub zero_zeros : (l : List ℕ) → T (all_zero l) → l ≡ zeros (length l)
unfolding all_zero zeros
zero_zeros [] t = refl
zero_zeros (x ∷ l) t =
    let p = and_yes (eqb x 0) (all_zero l) t in
    let q : x ≡ 0 = eqb_yes p.0 in
    rw q (ap (λ (r : List ℕ). 0 ∷ r) (zero_zeros l p.1))

-- zeros are below any number but 0
pub below_zeros : (n i : ℕ) → 0 < n → Below n (zeros i)
below_zeros n i h = below_all n (zeros i) (λ j. rw (get_or_zeros i j) h)

-- ---- the first number that a test picks

module _ (picks : ℕ → Bool) where
  pub first_here : (x : ℕ) (row : List ℕ) → picks x ≡ true → first_where picks (x ∷ row) ≡ 0
  unfolding first_where
  first_here x row e = rw e

  pub first_later : (x : ℕ) (row : List ℕ) → picks x ≡ false → first_where picks (x ∷ row) ≡ suc (first_where picks row)
  unfolding first_where
  first_later x row e = rw e

  pub first_none : first_where picks [] ≡ 0
  unfolding first_where
  first_none = refl

  pub first_within : (row : List ℕ) → first_where picks row ≤ length row
  unfolding first_where
  first_within [] = omega arith
  first_within (x ∷ row) = go (picks x) (first_within row)
    where
      go : (b : Bool) → first_where picks row ≤ length row → cond b 0 (suc (first_where picks row)) ≤ suc (length row)
      go true h = omega arith
      go false h = omega arith

  -- from place i of a row on
  module _ (row : List ℕ) (i : ℕ) (h : i < length row) where
    pub first_at : picks (get_or row i 0) ≡ true → first_where picks (drop i row) ≡ 0
    first_at e = ap (first_where picks) (drop-cons row i 0 h) ∙ first_here (get_or row i 0) (drop (suc i) row) e

    pub first_past : picks (get_or row i 0) ≡ false → first_where picks (drop i row) ≡ suc (first_where picks (drop (suc i) row))
    first_past e = ap (first_where picks) (drop-cons row i 0 h) ∙ first_later (get_or row i 0) (drop (suc i) row) e

  pub first_end : (row : List ℕ) → first_where picks (drop (length row) row) ≡ 0
  first_end row = ap (first_where picks) (drop-length row) ∙ first_none

-- tests that agree on the numbers of a row pick the same
pub first_same : (p q : ℕ → Bool) {n : ℕ} {row : List ℕ} → Below n row → ((x : ℕ) → x < n → p x ≡ q x) → first_where p row ≡ first_where q row
unfolding first_where
first_same p q none e = refl
first_same p q (also {x = x} h hs) e = rw (e x h, first_same p q hs e)
