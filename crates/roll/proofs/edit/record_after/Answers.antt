-- `roll::edit::record_after` meets its contract.
use Rattle.std.proofs.Common.{sym, inl, inr}
use Rattle.std.proofs.lemmas.Result.{err_from_is_err_and}
use Rattle.roll.specs.Paper.Operations.{edit_says}
use Rattle.roll.specs.Laws.Operations.{directory_sound, change_refused}
use Rattle.roll.proofs.Ranges.{bad_range}
use Rattle.roll.proofs.edit.record_after.Goals as goal
use Rattle.roll.proofs.edit.record_after.Goals.{then-end-start-via-then-end-start, then-end-start-via-else-end-start+then-roll-end}

pub returns-in_err-check_directory : goal.returns-in_err-check_directory
unfolding edit_says
returns-in_err-check_directory c =
    let p = err_from_is_err_and c.from_residual.result c.from_residual.ensures.1 in
    rw (p.1, p.2) (change_refused (rw (sym c.in_err-check_directory.ensures.says)))

pub returns-then-end-start : goal.returns-then-end-start
unfolding edit_says
returns-then-end-start c =
    change_refused (rw (sym c.in_ok-check_directory.ensures.says, bad_range c.args.start c.args.end c.args.roll.n (elim c.then-end-start.branch [ then-end-start-via-then-end-start w ↦ inl w.if-end-start.true | then-end-start-via-else-end-start+then-roll-end w ↦ inr (w.if-end-start.false, w.if-roll-end.true) ])))

pub change-requires : goal.change-requires
change-requires c =
    let (sound, right) = directory_sound c.in_ok-check_directory.ensures in
    (sound, right, c.if-end-start.false, c.if-roll-end.false)
