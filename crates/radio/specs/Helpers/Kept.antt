-- A searcher asked, and what stands beside refusals.
use Rattle.std.specs.Prelude.{◌≡◌, Result, Err}
use Rattle.ground.specs.Paper.Answers.{outcome_of}
use Rattle.ground.specs.declared.refusal.Refusal.{Refusal}
use Rattle.radio.specs.Paper.Operations.{kept_says}
use Rattle.radio.specs.declared.records.Searcher.{Searcher}
use Rattle.radio.specs.declared.feed.Fed.{Fed}

pub record Kept (s : Searcher) (answer : Result (Unit {0}) Refusal) : Type 0 where
  pub says : outcome_of answer ≡ kept_says s

unfoldable pub refused_fed : Searcher → Refusal → Fed
refused_fed s refusal = record { answer = Err refusal; hits = 0; searcher = s }
