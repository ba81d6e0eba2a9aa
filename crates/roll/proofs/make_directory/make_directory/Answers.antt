-- `roll::make_directory::make_directory` meets its contract.
use Rattle.std.proofs.Common.{sym, arith, rules}
use Rattle.std.proofs.lemmas.Result.{err_from_is_err_and}
use borrow.Author.Tests.{lt-ltb}
use Rattle.roll.specs.Paper.Operations.{make_says}
use Rattle.roll.specs.Laws.Accepting.{sound_accepted}
use Rattle.roll.specs.Laws.Operations.{check_sound, make_refused, make_yes}
use Rattle.roll.proofs.make_directory.make_directory.Goals as goal

pub returns-in_err-check : goal.returns-in_err-check
unfolding make_says
returns-in_err-check c =
    let p = err_from_is_err_and c.from_residual.result c.from_residual.ensures.1 in
    rw (p.1, p.2) (make_refused (rw (sym c.in_err-check.ensures.says)))

pub returns-then-dir-needed : goal.returns-then-dir-needed
unfolding make_says
returns-then-dir-needed c =
    let e = c.entries_for-needed.ensures in
    make_refused (rw (sound_accepted (check_sound c.in_ok-check.ensures), e, lt-ltb _ _ (rw e at c.if-dir-needed.true)))

pub make_sound-requires : goal.make_sound-requires
make_sound-requires c = omega (arith, c.entries_for-needed.ensures, c.if-dir-needed.false)

pub invariant_of-sound : goal.invariant_of-sound
invariant_of-sound c = record { sound = check_sound c.in_ok-check.ensures; places = search rules; bytes = λ i. omega (arith, c.type_inv.buf i) }

pub returns : goal.returns
returns c =
    make_yes (check_sound c.in_ok-check.ensures) (omega (arith, c.entries_for-needed.ensures, c.if-dir-needed.false)) c.make_sound.ensures
