-- An edited text: its length, and its characters.
use Rattle.std.specs.Prelude.{◌≡◌, List, ◌++◌, ℕ, ◌+◌, ◌-◌, ◌≤◌, length, take, drop}
use Rattle.std.proofs.Common.{arith, length-append, length-drop, length-take-le}
use Rattle.texts.specs.Paper.Edited.{edited}
use Rattle.texts.specs.Laws.Characters.{InTable, known_append, known_take, known_drop}

module _ (text : List ℕ) (start end : ℕ) (new : List ℕ) where
  pub edited_length : start ≤ end → end ≤ length text → length (edited text start end new) ≡ start + length new + (length text - end)
  edited_length h k =
      omega (
        arith,
        length-append (take start text) (new ++ drop end text),
        length-append new (drop end text),
        length-take-le start text (omega arith),
        length-drop end text,
      )

  pub edited_known : {l : List ℕ} → InTable l text → InTable l new → InTable l (edited text start end new)
  edited_known a b = known_append (known_take a start) (known_append b (known_drop a end))
