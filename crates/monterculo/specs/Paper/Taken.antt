-- Answers as numbers.
use Rattle.std.specs.Prelude.{◌≡◌, ℕ, Result}
use Rattle.ground.specs.Paper.Refusals.{Outcome, accepted, refused}
use Rattle.ground.specs.Paper.Answers.{outcome_of}
use Rattle.ground.specs.declared.refusal.Refusal.{Refusal}
use Rattle.monterculo.specs.declared.taken.Told.{Told}

-- 0 and what is answered, or the refusal's number and value
abbrev pub told : Outcome ℕ → Told
told (accepted answer) = record { number = 0; value = answer }
told (refused number value) = record { number = number; value = value }

-- what an answer is in numbers
abbrev pub in_numbers : Result ℕ Refusal → Told → Type 0
in_numbers answer t = t ≡ told (outcome_of answer)
