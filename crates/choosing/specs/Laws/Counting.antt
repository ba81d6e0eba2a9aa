-- How often a byte stands in a text.
use Rattle.std.specs.Prelude.{◌≡◌, refl, cond, List, [], ◌∷◌, ◌++◌, ℕ, suc, ◌+◌, ◌≤◌, ◌<◌, eqb, length, get_or, take}
use Rattle.std.proofs.Common.{sym, ap, ◌∙◌, ⊎_elim, arith, eq-eqb, ne_eqb, take-suc}
use mathlib.Core.List.Memᴰ
use Rattle.std.proofs.Math.Decide.{ℕ_discrete}
use Rattle.stopper.specs.Laws.Characters.{◌∈◌}
use Rattle.choosing.specs.Paper.Choosing.{occurs}

pub occurs_none : (b : ℕ) → occurs [] b ≡ 0
unfolding occurs
occurs_none b = refl

pub occurs_append : (s t : List ℕ) (b : ℕ) → occurs (s ++ t) b ≡ occurs s b + occurs t b
unfolding occurs
occurs_append [] t b = omega arith
occurs_append (x ∷ s) t b = ap (λ (n : ℕ). cond (eqb x b) 1 0 + n) (occurs_append s t b) ∙ omega arith

-- one character more
pub occurs_more : (s : List ℕ) (i b : ℕ) → i < length s → occurs (take (suc i) s) b ≡ occurs (take i s) b + cond (eqb (get_or s i 0) b) 1 0
unfolding occurs
occurs_more s i b h = ap (λ (l : List ℕ). occurs l b) (take-suc s i 0 h) ∙ occurs_append (take i s) (get_or s i 0 ∷ []) b ∙ omega arith

pub occurs_le : (s : List ℕ) (b : ℕ) → occurs s b ≤ length s
unfolding occurs
occurs_le [] b = omega arith
occurs_le (x ∷ s) b =
    elim (ℕ_discrete x b) [
      | yes p ↦ rw (eq-eqb x b p) (omega (arith, occurs_le s b))
      | no p ↦ rw (ne_eqb x b p) (omega (arith, occurs_le s b))
    ]

pub occurs_pos : (text : List ℕ) (x : ℕ) → x ∈ text → 0 < occurs text x
unfolding occurs
occurs_pos [] x m = absurd (Memᴰ.not-nil m)
occurs_pos (y ∷ text) x m =
    ⊎_elim
    (λ e. rw (eq-eqb y x (sym e)) (omega arith))
    (λ k. omega (arith, occurs_pos text x k))
    (Memᴰ.cases_cons m)
