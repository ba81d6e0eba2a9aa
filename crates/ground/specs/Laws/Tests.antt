-- A test that passes, a test that fails.
use Rattle.std.specs.Prelude.{◌≡◌, refl, Bool, true, false, not, cond, ◌||◌, ℕ, T}
use Rattle.std.proofs.Common.{sym, subst, arith}

pub cond_yes {ℓ} : {X : Type ℓ} (b : Bool) (x y : X) → T b → cond b x y ≡ x
cond_yes true x y t = refl
cond_yes false x y t = absurd t

pub cond_no {ℓ} : {X : Type ℓ} (b : Bool) (x y : X) → T (not b) → cond b x y ≡ y
cond_no true x y t = absurd t
cond_no false x y t = refl

-- by cases on a test
pub by_test {ℓ} : {X : Type ℓ} (b : Bool) → (T b → X) → (T (not b) → X) → X
by_test true f g = f tt
by_test false f g = g tt

pub by_value {ℓ} : {X : Type ℓ} (b : Bool) → (b ≡ true → X) → (b ≡ false → X) → X
by_value true f g = f refl
by_value false f g = g refl

-- two tests that pass together are one
pub same_test : (a b : Bool) → (T a → T b) → (T b → T a) → a ≡ b
same_test true true f g = refl
same_test true false f g = absurd (f tt)
same_test false true f g = absurd (g tt)
same_test false false f g = refl

-- a test, as a proof and as an equation
pub yes_true : (b : Bool) → T b → b ≡ true
yes_true true t = refl
yes_true false t = absurd t

pub true_yes : (b : Bool) → b ≡ true → T b
true_yes b e = subst T (sym e) tt

-- neither of two tests passes
pub neither : (a b : Bool) → (a || b) ≡ false → (a ≡ false) × (b ≡ false)
neither true b e = let z : ◌≡◌ {A = ℕ} 0 1 = cc in absurd (omega arith)
neither false b e = (refl, e)
