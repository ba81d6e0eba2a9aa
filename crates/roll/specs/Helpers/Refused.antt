-- A roll whose table and h are asked, one checked with a pattern, one with its directory, and one that is changed.
use Rattle.std.specs.Prelude.{◌≡◌, List, ℕ, Result}
use Rattle.ground.specs.Paper.Refusals.{accepted, judged, ◌then◌}
use Rattle.ground.specs.Paper.Answers.{outcome_of}
use Rattle.ground.specs.declared.refusal.Refusal.{Refusal}
use Rattle.sound.specs.declared.records.Roll.{Roll}
use Rattle.roll.specs.Paper.Operations.{fit_says, check_says, search_rows, directory_says, edit_says, edit_roll, edit_leaves, edit_directory}

pub record Fitting (r : Roll) (buf : List ℕ) (answer : Result (Unit {0}) Refusal) : Type 0 where
  pub says : outcome_of answer ≡ fit_says r buf

pub record PatternChecked (r : Roll) (buf pattern : List ℕ) (answer : Result (Unit {0}) Refusal) : Type 0 where
  pub says : outcome_of answer ≡ (check_says r buf then judged (search_rows pattern) tt)

pub record DirectoryChecked (r : Roll) (buf dir : List ℕ) (answer : Result (Unit {0}) Refusal) : Type 0 where
  pub says : outcome_of answer ≡ directory_says r buf dir

-- an edit that answers the record after it, or its refusal
pub record Changing (r : Roll) (buf dir : List ℕ) (start end : ℕ) (text : List ℕ) (e : Result Roll Refusal) (after dir_after : List ℕ) : Type 0 where
  pub says : outcome_of e ≡ (edit_says r buf dir start end text then accepted (edit_roll r buf dir start end text))
  pub leaves : after ≡ edit_leaves r buf dir start end text
  pub directory : dir_after ≡ edit_directory r buf dir start end text
