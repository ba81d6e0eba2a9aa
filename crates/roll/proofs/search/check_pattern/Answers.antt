-- `roll::search::check_pattern` meets its contract.
use Rattle.std.proofs.Common.{sym, ◌∙◌}
use Rattle.std.proofs.lemmas.Result.{err_from_is_err_and}
use Rattle.roll.specs.Laws.Accepting.{sound_accepted}
use Rattle.roll.specs.Laws.Operations.{check_sound}
use Rattle.roll.proofs.search.check_pattern.Goals as goal

pub returns-in_err-check : goal.returns-in_err-check
returns-in_err-check c =
    let p = err_from_is_err_and c.from_residual.result c.from_residual.ensures.1 in
    rw (p.1, p.2) (record { says = rw (sym c.in_err-check.ensures.says) })

pub returns-then-not-good_pattern : goal.returns-then-not-good_pattern
returns-then-not-good_pattern c =
    record { says = rw (sound_accepted (check_sound c.in_ok-check.ensures), sym c.good_pattern.ensures ∙ c.if-not-good_pattern.true) }

pub returns : goal.returns
returns c =
    record { says = rw (sound_accepted (check_sound c.in_ok-check.ensures), sym c.good_pattern.ensures ∙ c.if-not-good_pattern.false) }
