-- Refusals: a list in the paper's order, each row with its test, its number and its value. The first row that applies is the
-- outcome; if none applies the work is accepted.
use Rattle.std.specs.Prelude.{Bool, cond, List, [], ◌∷◌, ℕ}

infixr 20 ◌then◌
pub record Row : Type 0 where
  pub applies : Bool
  pub number : ℕ
  pub value : ℕ

abbrev pub refuse : ℕ → ℕ → Bool → Row
refuse number value applies = record { applies = applies; number = number; value = value }

-- accepted, with what is answered; or refused, with the number and the value
pub data Outcome (A : Type 0) : Type 0 where
  accepted : A → Outcome A
  refused : ℕ → ℕ → Outcome A

abbrev pub judged : {A : Type 0} → List Row → A → Outcome A
judged [] answer = accepted answer
judged (r ∷ rows) answer = cond r.applies (refused r.number r.value) (judged rows answer)

-- refused as the first is, or else what the second says
abbrev pub ◌then◌ : {A B : Type 0} → Outcome A → Outcome B → Outcome B
accepted answer then next = next
refused number value then next = refused number value

-- what is lent: `before` if the work is refused, else `after`; or what stands beside the answer, `before` being what is put beside a refusal
abbrev pub kept : {A B : Type 0} → Outcome A → B → B → B
kept (accepted answer) before after = after
kept (refused number value) before after = before
