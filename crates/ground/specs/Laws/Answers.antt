-- An answer is what it says: two that say the same are equal.
use Rattle.std.specs.Prelude.{◌≡◌, refl, cond, eqb, ℕ, Result, Ok, Err}
use Rattle.std.specs.Result.{result_unwrap_or}
use Rattle.std.proofs.Common.{sym, ap, ap₂, ◌∙◌, inl, inr, arith}
use Rattle.ground.specs.Paper.Refusals.{Outcome, accepted, refused, ◌then◌, kept}
use Rattle.ground.specs.Laws.Refusals.{Accepted, accepted_parts, refused_parts, refused_keeps}
use Rattle.ground.specs.Paper.Answers.{number_of, value_of, outcome_of}
use Rattle.ground.specs.declared.refusal.Refusal.{Refusal}
use Rattle.ground.specs.declared.refusal.Refusal.TheVariants.{BadTable, BadCounts, NotInTable, NoRoom, BadSymbolCount, BadCodeword, BadCharacterCount, BadUnused, BadEntry, BadRange, BadPattern, ShortDirectory, ShortOutput, ShortHits, BadLine}

-- what the rows say of an answer that is known
pub says_as : {A : Type 0} {a b : Result A Refusal} {o : Outcome A} → outcome_of a ≡ o → a ≡ b → o ≡ outcome_of b
says_as p e = sym p ∙ ap outcome_of e

-- the refusal of a number and a value
abbrev refusal_of : ℕ → ℕ → Refusal
refusal_of n v =
    cond (eqb n 1) BadTable
    (cond (eqb n 2) (BadCounts v)
    (cond (eqb n 3) (NotInTable v)
    (cond (eqb n 4) (NoRoom v)
    (cond (eqb n 5) (BadSymbolCount v)
    (cond (eqb n 6) (BadCodeword v)
    (cond (eqb n 7) (BadCharacterCount v)
    (cond (eqb n 8) BadUnused
    (cond (eqb n 9) (BadEntry v)
    (cond (eqb n 10) BadRange
    (cond (eqb n 11) BadPattern
    (cond (eqb n 12) (ShortDirectory v)
    (cond (eqb n 13) (ShortOutput v)
    (cond (eqb n 14) (ShortHits v) (BadLine v))))))))))))))

back : (e : Refusal) → refusal_of (number_of e) (value_of e) ≡ e
back BadTable = refl
back (BadCounts v) = refl
back (NotInTable v) = refl
back (NoRoom v) = refl
back (BadSymbolCount v) = refl
back (BadCodeword v) = refl
back (BadCharacterCount v) = refl
back BadUnused = refl
back (BadEntry v) = refl
back BadRange = refl
back BadPattern = refl
back (ShortDirectory v) = refl
back (ShortOutput v) = refl
back (ShortHits v) = refl
back (BadLine v) = refl

pub refusal_one : (a b : Refusal) → number_of a ≡ number_of b → value_of a ≡ value_of b → a ≡ b
refusal_one a b n v = sym (back a) ∙ ap₂ refusal_of n v ∙ back b

pub says_one : {A : Type 0} (a b : Result A Refusal) → outcome_of a ≡ outcome_of b → a ≡ b
says_one (Ok x) (Ok y) e = cc
says_one (Ok x) (Err q) e = let z : ◌≡◌ {A = ℕ} 0 1 = cc in absurd (omega arith)
says_one (Err p) (Ok y) e = let z : ◌≡◌ {A = ℕ} 0 1 = cc in absurd (omega arith)
says_one (Err p) (Err q) e =
    let n : number_of p ≡ number_of q = cc in
    let v : value_of p ≡ value_of q = cc in
    ap Err (refusal_one p q n v)

-- ---- an answer of an operation that says o first and then answers x

module _ {A : Type 0} {o : Outcome (Unit {0})} {r : Result A Refusal} (x : A) (says : outcome_of r ≡ (o then accepted x)) where
  pub accepted_ok : Accepted o → r ≡ Ok x
  accepted_ok a = says_one r (Ok x) (says ∙ ap (λ (p : Outcome (Unit {0})). p then accepted x) a)

  pub ok_accepted : {y : A} → r ≡ Ok y → Accepted o × (y ≡ x)
  ok_accepted e =
      let (a, b) = accepted_parts o (says_as {b = Ok _} says e) in
      (a, let z = sym b in cc)

  pub err_refused : {e : Refusal} → r ≡ Err e → o ≡ refused (number_of e) (value_of e)
  err_refused {e} p = elim (refused_parts o (says_as {b = Err e} says p)) [ inl q ↦ q | inr q ↦ (let w = q.1 in let z : ◌≡◌ {A = ℕ} 0 1 = cc in absurd (omega arith)) ]

-- ---- what is answered, or what is put beside a refusal

pub beside_kept : {A : Type 0} (o : Outcome (Unit {0})) (r : Result A Refusal) (before after : A) → outcome_of r ≡ (o then accepted (kept o before after))
    → result_unwrap_or r before ≡ kept o before after
beside_kept o (Ok answer) before after says = (ok_accepted (kept o before after) says refl).1
beside_kept o (Err refusal) before after says = sym (refused_keeps (err_refused (kept o before after) says refl) before after)
