-- What a character counts as: its count as lent, but each of the twelve at least 1.
use Rattle.std.specs.Prelude.{◌≡◌, ◌⊎◌, ◌↔◌, Bool, true, cond, ℕ, ◌≤◌, ◌<◌, T, ltb, eqb, length, get_or}
use Rattle.std.proofs.Math.Path.{refl, sym, ap, ap₂}
use Rattle.std.proofs.Common.{subst, ◌∙◌, inl, inr, ⊎_elim, zero-add, arith, ltb→lt, nltb→le}
use Rattle.std.proofs.Math.Bool.{false}
use mathlib.Core.List.{List, [], ◌∷◌, ◌++◌}
use Rattle.std.proofs.Math.Decide.{ℕ_discrete, dec_lt}
use borrow.Author.Tests.{eq-eqb, ne_eqb, lt-ltb, le-ltb}
use Rattle.std.proofs.Math.ListN.{get_or-eq_default}
use Rattle.ground.specs.Helpers.Below.{Below, none, also}
use Rattle.ground.specs.Laws.Tests.{cond_yes, by_test, by_value, true_yes, neither}
use Rattle.ground.specs.Laws.Rows.{tab_at, below_mem, take_padded}
use Rattle.stopper.specs.Paper.Table.{has, repeats, good_width, characters, table_of}
use Rattle.stopper.specs.Laws.Characters.{has_mem, mem_has, ◌∈◌}
use Rattle.stopper.specs.declared.table.Table.{Table}
use Rattle.choosing.specs.Paper.Ranking.{ranked}
use Rattle.choosing.specs.Paper.Choosing.{occurs, counts_of, twelve, at_least, counted, total, chosen, chosen_table}
use Rattle.choosing.specs.Laws.Counting.{occurs_append, occurs_pos}
use Rattle.choosing.specs.Laws.Ranking.{ranking}
use Rattle.choosing.specs.Laws.Choosing.{ranked_ext, chosen_ext, fewest_ext}

-- ---- the twelve

twelve_below : Below 256 twelve
unfolding twelve
twelve_below =
    also (ltb→lt 10 256 tt) (also (ltb→lt 43 256 tt) (also (ltb→lt 48 256 tt) (also (ltb→lt 49 256 tt) (also (ltb→lt 50 256 tt) (also (ltb→lt 51 256 tt)
    (also (ltb→lt 52 256 tt) (also (ltb→lt 53 256 tt) (also (ltb→lt 54 256 tt) (also (ltb→lt 55 256 tt) (also (ltb→lt 56 256 tt) (also (ltb→lt 57 256 tt) none)))))))))))

-- they are bytes
pub twelve_byte : (b : ℕ) → b ∈ twelve → b < 256
twelve_byte = below_mem twelve_below

at_most : (b : ℕ) → at_least b ≤ 1
unfolding at_least
at_most b = by_value (has b twelve) (λ e. rw e (omega arith)) (λ e. rw e (omega arith))

pub twelve_least : (b : ℕ) → b ∈ twelve → at_least b ≡ 1
unfolding at_least
twelve_least b m = cond_yes (has b twelve) 1 0 (mem_has twelve b m)

-- ---- the count as it is lent, or the least

module _ (counts : List ℕ) (b : ℕ) where
  counted_more : get_or counts b 0 < at_least b → counted counts b ≡ at_least b
  unfolding counted
  counted_more h = rw (lt-ltb _ _ h)

  counted_as : at_least b ≤ get_or counts b 0 → counted counts b ≡ get_or counts b 0
  unfolding counted
  counted_as h = rw (le-ltb _ _ h)

  either : ((get_or counts b 0 < at_least b) × (counted counts b ≡ at_least b)) ⊎ ((at_least b ≤ get_or counts b 0) × (counted counts b ≡ get_or counts b 0))
  either =
      by_test (ltb (get_or counts b 0) (at_least b))
      (λ t. let h = ltb→lt (get_or counts b 0) (at_least b) t in inl (h, counted_more h))
      (λ t. let h = nltb→le (get_or counts b 0) (at_least b) t in inr (h, counted_as h))

  pub counted_lower : get_or counts b 0 ≤ counted counts b
  counted_lower = ⊎_elim (λ p. omega (arith, p.0, p.1)) (λ p. omega (arith, p.1)) either

  pub counted_least : at_least b ≤ counted counts b
  counted_least = ⊎_elim (λ p. omega (arith, p.1)) (λ p. omega (arith, p.0, p.1)) either

  -- it is the least number that is at least both
  pub counted_one : (n : ℕ) → get_or counts b 0 ≤ n → at_least b ≤ n → n ≤ counted counts b → n ≡ counted counts b
  counted_one n h k l = ⊎_elim (λ p. omega (arith, p.1)) (λ p. omega (arith, p.1)) either

  pub counted_none : get_or counts b 0 ≡ 0 → counted counts b ≡ at_least b
  counted_none e = ⊎_elim (λ p. p.1) (λ p. omega (arith, p.0, p.1)) either

-- in plain words: as lent if it is counted or none of the twelve; else 1
module _ (counts : List ℕ) (b : ℕ) where
  pub counted_lent : (0 < get_or counts b 0) ⊎ (b ∈ twelve → ⊥) → counted counts b ≡ get_or counts b 0
  unfolding at_least
  counted_lent (inl h) = counted_as counts b (omega (arith, at_most b))
  counted_lent (inr n) = by_value (has b twelve) (λ e. absurd (n (has_mem twelve b (true_yes _ e)))) (λ e. counted_as counts b (rw e (omega arith)))

  pub counted_raised : b ∈ twelve → get_or counts b 0 ≡ 0 → counted counts b ≡ 1
  counted_raised m e = counted_none counts b e ∙ twelve_least b m

-- ---- a text's counts are ranked as if those of the twelve that it does not hold stood behind it, once each

-- the characters of a row that the text does not hold
unfoldable pub without : List ℕ → List ℕ → List ℕ
without text [] = []
without text (b ∷ l) = let more : List ℕ = without text l in cond (has b text) more (b ∷ more)

-- those of the twelve that the text does not hold: the raised ones
unfoldable pub unheld : List ℕ → List ℕ
unheld text = without text twelve

twelve_once : repeats twelve ≡ false
unfolding twelve repeats has
twelve_once = refl

module _ (b : ℕ) where
  pub occurs_not : (text : List ℕ) → has b text ≡ false → occurs text b ≡ 0
  unfolding has occurs
  occurs_not [] e = refl
  occurs_not (x ∷ text) e = let p = neither (eqb x b) (has b text) e in rw (p.0, occurs_not text p.1)

  -- in a row that holds no character twice
  occurs_once : (l : List ℕ) → repeats l ≡ false → occurs l b ≡ cond (has b l) 1 0
  unfolding has repeats occurs
  occurs_once [] e = refl
  occurs_once (x ∷ l) e =
      let p = neither (has x l) (repeats l) e in
      elim (ℕ_discrete x b) [
        | yes q ↦ let n : has b l ≡ false = ap (λ (y : ℕ). has y l) (sym q) ∙ p.0 in rw (eq-eqb x b q, occurs_not l n)
        | no q ↦ rw (ne_eqb x b q) (omega (arith, occurs_once l p.1))
      ]

  occurs_without : (text l : List ℕ) → occurs (without text l) b ≡ cond (has b text) 0 (occurs l b)
  unfolding without occurs
  occurs_without text [] = by_value (has b text) (λ e. rw e) (λ e. rw e)
  occurs_without text (x ∷ l) =
      elim (ℕ_discrete x b) [
        | yes q ↦
            let same : has x text ≡ has b text = ap (λ (y : ℕ). has y text) q in
            by_value (has b text)
            (λ e. rw (same, e, occurs_without text l, e))
            (λ e. rw (same, e, eq-eqb x b q, occurs_without text l, e))
        | no q ↦
            let later = occurs_without text l in
            by_value (has x text)
            (λ e. rw (e, ne_eqb x b q) (later ∙ ap (cond (has b text) 0) (sym (zero-add _))))
            (λ e. rw (e, ne_eqb x b q) (zero-add _ ∙ later ∙ ap (cond (has b text) 0) (sym (zero-add _))))
      ]

  pub occurs_twelve : occurs twelve b ≡ at_least b
  unfolding at_least
  occurs_twelve = occurs_once twelve twelve_once

pub counted_is : (text : List ℕ) (b : ℕ) → b < 256 → counted (counts_of text) b ≡ occurs (text ++ unheld text) b
unfolding counts_of unheld
counted_is text b h =
    let n : get_or (counts_of text) b 0 ≡ occurs text b = tab_at (occurs text) 256 b h in
    let both = occurs_append text (unheld text) b in
    let behind : (t : Bool) → has b text ≡ t → occurs (unheld text) b ≡ cond t 0 (occurs twelve b)
    = λ t e. occurs_without b text twelve ∙ ap (λ (x : Bool). cond x 0 (occurs twelve b)) e in
    by_value (has b text)
    (λ e.
    let c = counted_as (counts_of text) b (omega (arith, n, at_most b, occurs_pos text b (has_mem text b (true_yes _ e)))) in
    omega (arith, n, c, both, behind true e))
    (λ e.
    let z = occurs_not b text e in
    omega (arith, counted_none (counts_of text) b (n ∙ z), z, both, behind false e, occurs_twelve b))

below_without : (text : List ℕ) {l : List ℕ} → Below 256 l → Below 256 (without text l)
unfolding without
below_without text none = none
below_without text (also {x = x} {xs = l} a h) = go (has x text) (below_without text h)
  where
    go : (t : Bool) → Below 256 (without text l) → Below 256 (cond t (without text l) (x ∷ without text l))
    go true k = k
    go false k = also a k

pub unheld_below : (text : List ℕ) → Below 256 (unheld text)
unfolding unheld
unheld_below text = below_without text twelve_below

-- ---- the chosen table

module _ (k : ℕ) (counts : List ℕ) where
  pub chosen_row : characters (chosen_table k (counted counts)) ≡ ranked (counted counts)
  unfolding chosen_table
  chosen_row = take_padded 256 (ranked (counted counts))

  -- a character is in it exactly if it was counted or is one of the twelve
  pub chosen_mem : length counts ≡ 256 → (b : ℕ) → b ∈ characters (chosen_table k (counted counts)) ↔ ((0 < get_or counts b 0) ⊎ (b ∈ twelve))
  chosen_mem l b = (λ m. there (rw chosen_row at m), λ p. rw chosen_row (back p))
    where
      there : b ∈ ranked (counted counts) → (0 < get_or counts b 0) ⊎ (b ∈ twelve)
      there m =
          by_value (has b twelve)
          (λ e. inr (has_mem twelve b (true_yes _ e)))
          (λ e. inl (omega (arith, ((ranking (counted counts)).only b m).1, counted_lent counts b (inr (λ t. subst T e (mem_has twelve b t))))))

      back : (0 < get_or counts b 0) ⊎ (b ∈ twelve) → b ∈ ranked (counted counts)
      back (inl h) =
          (ranking (counted counts)).all b
          (elim (dec_lt b 256) [ yes p ↦ p | no p ↦ absurd (omega (arith, get_or-eq_default counts 0 {n = b} (omega (arith, l)))) ])
          (omega (arith, counted_lower counts b))
      back (inr t) = (ranking (counted counts)).all b (twelve_byte b t) (omega (arith, twelve_least b t, counted_least counts b))

  -- all counts 0: the table and the total are those of twelve counts of 1
  pub all_zero_lem : T (good_width k) → ((b : ℕ) → b < 256 → get_or counts b 0 ≡ 0)
      → (chosen_table k (counted counts) ≡ chosen_table k (occurs twelve)) × (total (chosen k (counted counts)) (counted counts) ≡ total (chosen k (occurs twelve)) (occurs twelve))
  unfolding chosen_table
  all_zero_lem w z =
      let same : (b : ℕ) → b < 256 → counted counts b ≡ occurs twelve b = λ b h. counted_none counts b (z b h) ∙ sym (occurs_twelve b) in (
        ap₂ {C = Table} table_of (chosen_ext (counted counts) (occurs twelve) same k w) (ranked_ext (counted counts) (occurs twelve) same),
        fewest_ext (counted counts) (occurs twelve) same k w,
      )
