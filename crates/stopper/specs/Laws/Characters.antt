-- The characters of a table, place by place.
use Rattle.std.specs.Prelude.{◌≡◌, refl, ◌⊎◌, ◌≢◌, Bool, true, false, cond, ◌||◌, ℕ, zero, suc, ◌<◌, T, ltb, length, drop, get_or}
use Rattle.std.proofs.Common.{sym, ◌∙◌, inl, inr, arith, eq-eqb, ne_eqb, lt-ltb, drop-cons}
use mathlib.Core.List.Memᴰ
use mathlib.Core.List.{List, [], ◌∷◌, Memᴰ}
use Rattle.std.proofs.Math.Facts.{or_yes, eqb_yes, yes_eqb}
use Rattle.std.proofs.Math.Dec.{eqb, leb-suc-suc}
use Rattle.std.proofs.Math.Seq.{drop-length}
use Rattle.ground.specs.Paper.Rows.{first_where}
use Rattle.ground.specs.Laws.Rows.{first_at, first_past, first_end}
use Rattle.stopper.specs.Paper.Table.{has, repeats, rank_in}

infix 50 ◌∈◌
abbrev pub ◌∈◌ : ℕ → List ℕ → Type 0
◌∈◌ x l = Memᴰ x l

pub mem_at : (l : List ℕ) (i : ℕ) → i < length l → get_or l i 0 ∈ l
mem_at [] i h = absurd (omega arith)
mem_at (x ∷ l) zero h = Memᴰ.head refl
mem_at (x ∷ l) (suc i) h = Memᴰ.tail (mem_at l i (omega arith))

module _ (l : List ℕ) (i : ℕ) (h : i < length l) where
  pub rank_here : (b : ℕ) → get_or l i 0 ≡ b → rank_in (drop i l) b ≡ 0
  unfolding rank_in
  rank_here b e = first_at (λ x. eqb x b) l i h (eq-eqb _ _ e)

  pub rank_next : (b : ℕ) → get_or l i 0 ≢ b → rank_in (drop i l) b ≡ suc (rank_in (drop (suc i) l) b)
  unfolding rank_in
  rank_next b e = first_past (λ x. eqb x b) l i h (ne_eqb _ _ e)

  pub has_next : (b : ℕ) → has b (drop i l) ≡ (eqb (get_or l i 0) b || has b (drop (suc i) l))
  unfolding has
  has_next b = rw (drop-cons l i 0)

  pub repeats_next : repeats (drop i l) ≡ (has (get_or l i 0) (drop (suc i) l) || repeats (drop (suc i) l))
  unfolding repeats
  repeats_next = rw (drop-cons l i 0)

-- past the last place there is nothing
pub rank_end : (l : List ℕ) (b : ℕ) → rank_in (drop (length l) l) b ≡ 0
unfolding rank_in
rank_end l b = first_end (λ x. eqb x b) l

pub has_end : (l : List ℕ) (b : ℕ) → has b (drop (length l) l) ≡ false
unfolding has
has_end l b = rw drop-length

pub repeats_none : (l : List ℕ) → repeats (drop (length l) l) ≡ false
unfolding repeats
repeats_none l = rw drop-length

-- what repeats in an end of a row repeats in the row
pub repeats_end : (l : List ℕ) (i : ℕ) → repeats (drop i l) ≡ true → repeats l ≡ true
unfolding repeats
repeats_end l zero e = e
repeats_end [] (suc i) e = e
repeats_end (x ∷ l) (suc i) e = rw (repeats_end l i e) (or_true (has x l))
  where
    or_true : (b : Bool) → (b || true) ≡ true
    or_true true = refl
    or_true false = refl

-- a character is in the row if its rank is below the row's length
pub has_rank : (l : List ℕ) (b : ℕ) → has b l ≡ ltb (rank_in l b) (length l)
unfolding has rank_in first_where
has_rank [] b = refl
has_rank (x ∷ l) b = go (eqb x b) (has_rank l b)
  where
    go : (t : Bool) → has b l ≡ ltb (rank_in l b) (length l) → (t || has b l) ≡ ltb (cond t 0 (suc (rank_in l b))) (suc (length l))
    go true e = sym (lt-ltb 0 (suc (length l)) (omega arith))
    go false e = e ∙ sym (leb-suc-suc (suc (rank_in l b)) (length l))

-- the test of membership
pub has_mem : (l : List ℕ) (b : ℕ) → T (has b l) → Memᴰ b l
unfolding has
has_mem [] b t = absurd t
has_mem (x ∷ l) b t = go (has_mem l b) (or_yes (eqb x b) (has b l) t)
  where
    go : (T (has b l) → Memᴰ b l) → T (eqb x b) ⊎ T (has b l) → Memᴰ b (x ∷ l)
    go later (inl e) = Memᴰ.head (sym (eqb_yes e))
    go later (inr h) = Memᴰ.tail (later h)

pub mem_has : (l : List ℕ) (b : ℕ) → Memᴰ b l → T (has b l)
unfolding has
mem_has [] b m = absurd (Memᴰ.not-nil m)
mem_has (x ∷ l) b m = go (eqb x b) (λ e. yes_eqb (sym e)) (mem_has l b) (Memᴰ.cases_cons m)
  where
    go : (t : Bool) → (b ≡ x → T t) → (Memᴰ b l → T (has b l)) → (b ≡ x) ⊎ Memᴰ b l → T (t || has b l)
    go true here later k = tt
    go false here later (inl e) = absurd (here e)
    go false here later (inr k) = later k
