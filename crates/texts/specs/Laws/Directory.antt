-- The laws of directories over lengths: how many entries, which, and the first wrong one.
use Rattle.std.specs.Prelude.{◌≡◌, refl, List, [], ◌∷◌, ◌≢◌, ℕ, zero, suc, ◌+◌, ◌*◌, ◌/◌, ◌≤◌, ◌<◌, length, take, get_or, drop}
use Rattle.std.proofs.Common.{sym, ap, ◌∙◌, ap₂, zero-add, add-zero, suc-add, add-one, take-suc}
use native.Mathlib.Omega.{arith}
use Rattle.std.proofs.Math.Decide.{ℕ_discrete}
use borrow.Author.Tests.{eq-eqb, ne_eqb}
use Rattle.std.proofs.Math.ListN.{drop_of_length-le}
use Rattle.std.proofs.Math.Seq.{drop-cons, drop-length}
use Rattle.ground.specs.Laws.Rows.{length_tab, tab_at}
use Rattle.texts.specs.Paper.Directory.{entries, start_at, directory_of, first_wrong}

-- ---- how many entries

module _ (j : ℕ) where
  pub entries_upto : {n : ℕ} → j ≤ n → entries j ≤ entries n
  unfolding entries
  entries_upto h = omega arith

  pub entries_inside : {n : ℕ} → j < n → j / 32 < entries n
  unfolding entries
  entries_inside h = omega arith

  -- an entry of the characters before j is that of one of them, and a later one is not
  pub entries_before : {i : ℕ} → i < entries j → i * 32 < j
  unfolding entries
  entries_before h = omega arith

  pub entries_behind : (i : ℕ) → j ≤ (entries j + i) * 32
  unfolding entries
  entries_behind i = omega arith

-- ---- the entries

pub directory_length : (lengths : List ℕ) → length (directory_of lengths) ≡ entries (length lengths)
unfolding directory_of
directory_length lengths = length_tab _ 0 (entries (length lengths))

pub directory_at : (lengths : List ℕ) (i : ℕ) → i < entries (length lengths) → get_or (directory_of lengths) i 0 ≡ start_at lengths (i * 32)
unfolding directory_of
directory_at lengths i h = tab_at _ (entries (length lengths)) i h

-- ---- the first wrong entry

-- behind entries that agree
wrong_after : (i : ℕ) (wanted dir : List ℕ) → i ≤ length wanted → take i dir ≡ take i wanted → first_wrong wanted dir ≡ i + first_wrong (drop i wanted) (drop i dir)
unfolding first_wrong
wrong_after zero wanted dir h a = sym (zero-add (first_wrong wanted dir))
wrong_after (suc i) [] dir h a = absurd (omega arith)
wrong_after (suc i) (e ∷ wanted) [] h a = let z : ◌≡◌ {A = ℕ} 0 1 = cc in absurd (omega arith)
wrong_after (suc i) (e ∷ wanted) (x ∷ dir) h a =
    let p : e ≡ x = cc in
    let q : take i dir ≡ take i wanted = cc in
    rw (eq-eqb e x p, suc-add) (ap suc (wrong_after i wanted dir (omega arith) q))

module _ (wanted dir : List ℕ) (i : ℕ) (a : take i dir ≡ take i wanted) where
  -- all agree
  pub wrong_none : i ≡ length wanted → first_wrong wanted dir ≡ i
  unfolding first_wrong
  wrong_none e = wrong_after i wanted dir (omega arith) a ∙ rw (e, drop-length wanted, add-zero)

  module _ (h : i < length wanted) where
    -- entry i is missing, or another
    pub wrong_missing : length dir ≤ i → first_wrong wanted dir ≡ i
    unfolding first_wrong
    wrong_missing l =
        wrong_after i wanted dir (omega arith) a ∙ rw (drop-cons wanted i 0 h, drop_of_length-le dir l, add-zero)

    pub wrong_differs : i < length dir → get_or dir i 0 ≢ get_or wanted i 0 → first_wrong wanted dir ≡ i
    unfolding first_wrong
    wrong_differs l d =
        wrong_after i wanted dir (omega arith) a
        ∙ rw (drop-cons wanted i 0 h, drop-cons dir i 0 l, ne_eqb (get_or wanted i 0) (get_or dir i 0) (λ e. d (sym e)), add-zero)

    -- or it agrees too
    pub agree_more : i < length dir → get_or dir i 0 ≡ get_or wanted i 0 → take (i + 1) dir ≡ take (i + 1) wanted
    agree_more l e = rw (add-one, take-suc dir i 0 l, take-suc wanted i 0 h, a, e)

pub wrong_within : (wanted dir : List ℕ) → first_wrong wanted dir ≤ length wanted
unfolding first_wrong
wrong_within [] dir = omega arith
wrong_within (e ∷ wanted) [] = omega arith
wrong_within (e ∷ wanted) (x ∷ dir) = go (ℕ_discrete e x) (wrong_within wanted dir)
  where
    go : Dec (e ≡ x) → first_wrong wanted dir ≤ length wanted → first_wrong (e ∷ wanted) (x ∷ dir) ≤ suc (length wanted)
    go (yes p) later = rw (eq-eqb e x p) (omega arith)
    go (no p) later = rw (ne_eqb e x p) (omega arith)

-- none is wrong: all agree
pub none_wrong : (wanted dir : List ℕ) → first_wrong wanted dir ≡ length wanted → take (length wanted) dir ≡ wanted
unfolding first_wrong
none_wrong [] dir e = refl
none_wrong (e ∷ wanted) [] n = absurd (omega arith)
none_wrong (e ∷ wanted) (x ∷ dir) n = go (ℕ_discrete e x) (none_wrong wanted dir)
  where
    go : Dec (e ≡ x) → (first_wrong wanted dir ≡ length wanted → take (length wanted) dir ≡ wanted) → x ∷ take (length wanted) dir ≡ e ∷ wanted
    go (yes p) later =
        let q : suc (first_wrong wanted dir) ≡ suc (length wanted) = rw (eq-eqb e x p) at n in
        ap₂ ◌∷◌ (sym p) (later (omega arith))
    go (no p) later = let q : 0 ≡ suc (length wanted) = rw (ne_eqb e x p) at n in absurd (omega arith)
