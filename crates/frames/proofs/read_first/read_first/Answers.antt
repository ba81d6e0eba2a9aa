-- `frames::read_first::read_first` meets its contract.
use Rattle.std.proofs.Common.{◌≡◌, sym, ap, ◌∙◌, Bool, List, ℕ}
use Rattle.ground.specs.Laws.Tests.{true_yes}
use Rattle.stopper.specs.Paper.Table.{good_width}
use Rattle.sound.specs.declared.records.Roll.{Roll}
use Rattle.frames.specs.Paper.Frames.{record_in}
use Rattle.frames.specs.Laws.Operations.{first_refused, first_yes, first_15, first_1, first_accepted}
use Rattle.frames.proofs.read_first.read_first.Goals as goal

-- the width asked is that in the line
width : (line : List ℕ) {r : Roll} {asked answer : Bool} → asked ≡ good_width r.table.code.k → r ≡ record_in line → asked ≡ answer → good_width (record_in line).table.code.k ≡ answer
width line e p q = sym (e ∙ ap (λ (r : Roll). good_width r.table.code.k) p) ∙ q

pub returns-then-not-is_first : goal.returns-then-not-is_first
returns-then-not-is_first c = first_refused (first_15 _ (sym c.is_first.ensures ∙ c.if-not-is_first.true))

pub record_in-roll-requires : goal.record_in-roll-requires
record_in-roll-requires c = true_yes _ (sym c.is_first.ensures ∙ c.if-not-is_first.false)

pub returns-then-not-good_width : goal.returns-then-not-good_width
returns-then-not-good_width c =
    first_refused (first_1 _ (sym c.is_first.ensures ∙ c.if-not-is_first.false) (width _ c.good_width.ensures c.record_in-roll.ensures c.if-not-good_width.true))

pub returns : goal.returns
returns c =
    first_yes (first_accepted _ (sym c.is_first.ensures ∙ c.if-not-is_first.false) (width _ c.good_width.ensures c.record_in-roll.ensures c.if-not-good_width.false)) c.record_in-roll.ensures
