-- A refused call changes nothing it was lent; an accepted one leaves what it says; accepted is what no row refuses.
use Rattle.std.specs.Prelude.{◌≡◌, refl, ◌⊎◌, Bool, true, false, cond, List, [], ◌∷◌, ℕ}
use Rattle.std.proofs.Common.{sym, ◌∙◌, inl, inr, arith}
use Rattle.ground.specs.Paper.Refusals.{Row, Outcome, accepted, refused, judged, ◌then◌, kept}

pub refused_keeps : {A B : Type 0} {o : Outcome A} {n v : ℕ} → o ≡ refused n v → (before after : B) → kept o before after ≡ before
refused_keeps e before after = rw e

pub accepted_leaves : {A B : Type 0} {o : Outcome A} {a : A} → o ≡ accepted a → (before after : B) → kept o before after ≡ after
accepted_leaves e before after = rw e

-- ---- accepted exactly if no row applies

abbrev pub Accepted : Outcome (Unit {0}) → Type 0
Accepted o = o ≡ accepted tt

abbrev pub NoneApplies : List Row → Type 0
NoneApplies [] = Unit {0}
NoneApplies (r ∷ rows) = (r.applies ≡ false) × NoneApplies rows

pub accepted_none : {A : Type 0} (rows : List Row) (answer : A) {a : A} → judged rows answer ≡ accepted a → NoneApplies rows
accepted_none [] answer e = tt
accepted_none {A} (r ∷ rows) answer {a} e = go r.applies (accepted_none rows answer) e
  where
    go : (b : Bool) → (judged rows answer ≡ accepted a → NoneApplies rows) → cond b (refused r.number r.value) (judged rows answer) ≡ accepted a
        → (b ≡ false) × NoneApplies rows
    go true later e = let z : ◌≡◌ {A = ℕ} 0 1 = cc in absurd (omega arith)
    go false later e = (refl, later e)

pub none_accepted : {A : Type 0} (rows : List Row) {answer : A} → NoneApplies rows → judged rows answer ≡ accepted answer
none_accepted [] p = refl
none_accepted (r ∷ rows) p = rw p.0 (none_accepted rows p.1)

-- what is accepted is the answer
pub accepted_answer : {A : Type 0} (rows : List Row) (answer : A) {a : A} → judged rows answer ≡ accepted a → answer ≡ a
accepted_answer rows answer e = let same = sym (none_accepted rows {answer = answer} (accepted_none rows answer e)) ∙ e in cc

-- ---- refused by the first row that applies

abbrev pub Refuses : List Row → ℕ → ℕ → Type 0
Refuses [] n v = ⊥
Refuses (r ∷ rows) n v = ((r.applies ≡ true) × (r.number ≡ n) × (r.value ≡ v)) ⊎ ((r.applies ≡ false) × Refuses rows n v)

pub refused_row : {A : Type 0} (rows : List Row) (answer : A) {n v : ℕ} → judged rows answer ≡ refused n v → Refuses rows n v
refused_row [] answer e = let z : ◌≡◌ {A = ℕ} 0 1 = cc in absurd (omega arith)
refused_row {A} (r ∷ rows) answer {n} {v} e = go r.applies (refused_row rows answer) e
  where
    go : (b : Bool) → (judged rows answer ≡ refused n v → Refuses rows n v) → cond b (refused r.number r.value) (judged rows answer) ≡ refused n v
        → ((b ≡ true) × (r.number ≡ n) × (r.value ≡ v)) ⊎ ((b ≡ false) × Refuses rows n v)
    go true later e = inl (refl, cc, cc)
    go false later e = inr (refl, later e)

-- by the first rows, or by those after
pub refused_parts : {A : Type 0} (o : Outcome (Unit {0})) {next : Outcome A} {n v : ℕ} → (o then next) ≡ refused n v → (o ≡ refused n v) ⊎ (Accepted o × (next ≡ refused n v))
refused_parts (accepted u) e = inr (refl, e)
refused_parts (refused m w) e = inl cc

-- one and then the other is accepted exactly if both are
pub accepted_parts : {A : Type 0} (o : Outcome (Unit {0})) {next : Outcome A} {a : A} → (o then next) ≡ accepted a → Accepted o × (next ≡ accepted a)
accepted_parts (accepted u) e = (refl, e)
accepted_parts (refused n v) e = let z : ◌≡◌ {A = ℕ} 0 1 = cc in absurd (omega arith)
