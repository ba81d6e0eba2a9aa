-- The paper's number and value for each refusal, and what an answer says.
use Rattle.std.specs.Prelude.{ℕ, Result, Ok, Err}
use Rattle.ground.specs.Paper.Refusals.{Outcome, accepted, refused}
use Rattle.ground.specs.declared.refusal.Refusal.{Refusal}
use Rattle.ground.specs.declared.refusal.Refusal.TheVariants.{BadTable, BadCounts, NotInTable, NoRoom, BadSymbolCount, BadCodeword, BadCharacterCount, BadUnused, BadEntry, BadRange, BadPattern, ShortDirectory, ShortOutput, ShortHits, BadLine}

abbrev pub number_of : Refusal → ℕ
number_of BadTable = 1
number_of (BadCounts value) = 2
number_of (NotInTable value) = 3
number_of (NoRoom value) = 4
number_of (BadSymbolCount value) = 5
number_of (BadCodeword value) = 6
number_of (BadCharacterCount value) = 7
number_of BadUnused = 8
number_of (BadEntry value) = 9
number_of BadRange = 10
number_of BadPattern = 11
number_of (ShortDirectory value) = 12
number_of (ShortOutput value) = 13
number_of (ShortHits value) = 14
number_of (BadLine value) = 15

-- 0 where there is none
abbrev pub value_of : Refusal → ℕ
value_of BadTable = 0
value_of (BadCounts value) = value
value_of (NotInTable value) = value
value_of (NoRoom value) = value
value_of (BadSymbolCount value) = value
value_of (BadCodeword value) = value
value_of (BadCharacterCount value) = value
value_of BadUnused = 0
value_of (BadEntry value) = value
value_of BadRange = 0
value_of BadPattern = 0
value_of (ShortDirectory value) = value
value_of (ShortOutput value) = value
value_of (ShortHits value) = value
value_of (BadLine value) = value

-- what is answered: accepted with the value of an `Ok`, or refused
abbrev pub outcome_of : {A : Type 0} → Result A Refusal → Outcome A
outcome_of (Ok answer) = accepted answer
outcome_of (Err refusal) = refused (number_of refusal) (value_of refusal)
