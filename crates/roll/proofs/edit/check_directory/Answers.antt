-- `roll::edit::check_directory` meets its contract.
use Rattle.std.proofs.Common.{arith, sym, rules}
use Rattle.std.proofs.lemmas.Result.{err_from_is_err_and}
use borrow.Author.Tests.{lt-ltb}
use Rattle.roll.specs.Paper.Operations.{directory_says}
use Rattle.roll.specs.Laws.Accepting.{sound_accepted, right_accepted}
use Rattle.roll.specs.Laws.Operations.{check_sound}
use Rattle.roll.proofs.edit.check_directory.Goals as goal

pub returns-in_err-check : goal.returns-in_err-check
unfolding directory_says
returns-in_err-check c =
    let p = err_from_is_err_and c.from_residual.result c.from_residual.ensures.1 in
    rw (p.1, p.2) (record { says = rw (sym c.in_err-check.ensures.says) })

pub invariant_of-sound : goal.invariant_of-sound
invariant_of-sound c = record { sound = check_sound c.in_ok-check.ensures; places = search rules; bytes = λ i. omega (arith, c.type_inv.buf i) }

pub returns-in-Some : goal.returns-in-Some
unfolding directory_says
returns-in-Some c =
    let (e, h) = c.in-Some.ensures in
    record { says = rw (sound_accepted (check_sound c.in_ok-check.ensures), e, lt-ltb _ _ (rw e at h)) }

pub returns : goal.returns
returns c = record { says = rw (right_accepted _ _ _ (check_sound c.in_ok-check.ensures) c.in_default.ensures) }
