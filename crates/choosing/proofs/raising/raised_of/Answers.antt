-- `choosing::raising::raised_of` meets its contract.
use Rattle.std.proofs.Common.{◌≡◌, refl, sym, ap, subst, ◌∙◌, ⊎_elim, ℕ, suc, ◌+◌, ◌≤◌, ◌<◌, List, [], ◌∷◌, length, get_or, set, length-set, get_or-set_same, get_or-set_other, arith}
use mathlib.Core.List.Memᴰ
use Rattle.std.proofs.Math.Decide.{ℕ_discrete}
use Rattle.ground.specs.Paper.Rows.{tab}
use Rattle.ground.specs.Laws.Rows.{tab_ext}
use Rattle.ground.specs.Laws.Tests.{by_value, true_yes}
use Rattle.stopper.specs.Paper.Table.{has}
use Rattle.stopper.specs.Laws.Characters.{◌∈◌, has_mem, mem_at}
use Rattle.choosing.specs.Paper.Choosing.{twelve, at_least, counted}
use Rattle.choosing.specs.Laws.Raised.{twelve_byte, twelve_least, counted_lower, counted_least, counted_one}
use Rattle.choosing.proofs.raising.raised_of.Invariants.{Upto}
use Rattle.choosing.proofs.raising.raised_of.Goals as goal
use Rattle.choosing.proofs.raising.raised_of.Goals.{then-raised-b-eq0, else-raised-b-eq0}

-- what holds at each place of a row holds of its members
each : (P : ℕ → Type 0) (l : List ℕ) → ((j : ℕ) → j < length l → P (get_or l j 0)) → (b : ℕ) → b ∈ l → P b
each P [] h b m = absurd (Memᴰ.not-nil m)
each P (x ∷ l) h b m =
    ⊎_elim
    (λ e. subst P (sym e) (h 0 (omega arith)))
    (λ k. each P l (λ j q. h (suc j) (omega arith)) b k)
    (Memᴰ.cases_cons m)

start : {counts copy : List ℕ} → copy ≡ counts → length counts ≡ 256 → Upto counts copy 0
start {counts} e l = rw e (record { long = l; low = λ b. omega arith; high = counted_lower counts; first = λ j k. absurd (omega arith) })

-- so many are they
twelve_long : length twelve ≡ 12
unfolding twelve
twelve_long = refl

module _ {counts raised : List ℕ} {i : ℕ} (u : Upto counts raised i) where
  module _ (h : i < 12) where
    abbrev x : ℕ
    x = get_or twelve i 0

    x_of : x ∈ twelve
    x_of = mem_at twelve i (omega (arith, twelve_long))

    kept : 0 < get_or raised x 0 → Upto counts raised (i + 1)
    kept p = record { long = u.long; low = u.low; high = u.high; first = λ j k. by j k (ℕ_discrete j i) }
      where
        by : (j : ℕ) → j < i + 1 → Dec (j ≡ i) → 0 < get_or raised (get_or twelve j 0) 0
        by j k (yes q) = rw q p
        by j k (no q) = u.first j (omega arith)

    lifted : get_or raised x 0 ≡ 0 → Upto counts (set raised x 1) (i + 1)
    lifted z = record {
      long = length-set raised x 1 ∙ u.long;
      low = λ b. low b (ℕ_discrete b x);
      high = λ b. high b (ℕ_discrete b x);
      first = λ j k. by j k (ℕ_discrete (get_or twelve j 0) x);
    }
      where
        here : get_or (set raised x 1) x 0 ≡ 1
        here = get_or-set_same raised x 1 0 (omega (arith, u.long, twelve_byte x x_of))

        low : (b : ℕ) → Dec (b ≡ x) → get_or counts b 0 ≤ get_or (set raised x 1) b 0
        low b (yes q) = rw q (omega (arith, here, z, u.low x))
        low b (no q) = rw (get_or-set_other raised x b 1 0 q) (u.low b)

        high : (b : ℕ) → Dec (b ≡ x) → get_or (set raised x 1) b 0 ≤ counted counts b
        high b (yes q) = rw q (omega (arith, here, twelve_least x x_of, counted_least counts x))
        high b (no q) = rw (get_or-set_other raised x b 1 0 q) (u.high b)

        by : (j : ℕ) → j < i + 1 → Dec (get_or twelve j 0 ≡ x) → 0 < get_or (set raised x 1) (get_or twelve j 0) 0
        by j k (yes q) = rw q (omega (arith, here))
        by j k (no q) =
            let n : j ≡ i → ⊥ = λ e. q (ap (λ (y : ℕ). get_or twelve y 0) e) in
            rw (get_or-set_other raised x (get_or twelve j 0) 1 0 q) (u.first j (omega (arith, n)))

  done : 12 ≤ i → raised ≡ tab (counted counts) 0 256
  unfolding at_least
  done h = tab_ext (counted counts) 256 raised u.long (λ b k. counted_one counts b (get_or raised b 0) (u.low b) (least b) (u.high b))
    where
      least : (b : ℕ) → at_least b ≤ get_or raised b 0
      least b =
          by_value (has b twelve)
          (λ e.
          let m = has_mem twelve b (true_yes _ e) in
          omega (arith, twelve_least b m, each (λ (y : ℕ). 0 < get_or raised y 0) twelve (λ j k. u.first j (omega (arith, twelve_long))) b m))
          (λ e. rw e (omega arith))

pub loop-b-init : goal.loop-b-init
loop-b-init c = start c.copy_from_slice.ensures.after c.requires

pub loop-b-preserved : goal.loop-b-preserved
unfolding twelve
loop-b-preserved c =
    let h = c.loop-b-test.true in
    let e = c.from-b.ensures in
    elim c.if-raised-b-eq0.branch [
      | then-raised-b-eq0 w ↦ rw (w.raised-is, e) (lifted c.loop-b.invariant h (rw e at w.if-raised-b-eq0.true))
      | else-raised-b-eq0 w ↦ rw w.raised-is (kept c.loop-b.invariant h (omega (arith, rw e at w.if-raised-b-eq0.false)))
    ]

pub returns : goal.returns
returns c = done c.loop-b.invariant c.loop-b-test.false
