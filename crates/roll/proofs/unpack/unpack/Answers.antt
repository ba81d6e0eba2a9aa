-- `roll::unpack::unpack` meets its contract.
use Rattle.std.proofs.Common.{arith, sym, inl, inr, rules}
use Rattle.std.proofs.lemmas.Result.{err_from_is_err_and}
use borrow.Author.Tests.{lt-ltb, le-ltb}
use Rattle.roll.specs.Paper.Operations.{unpack_says}
use Rattle.roll.specs.Laws.Accepting.{sound_accepted}
use Rattle.roll.specs.Laws.Operations.{check_sound, unpack_refused, unpack_yes}
use Rattle.roll.proofs.Ranges.{bad_range}
use Rattle.roll.proofs.unpack.unpack.Goals as goal
use Rattle.roll.proofs.unpack.unpack.Goals.{then-end-start-via-then-end-start, then-end-start-via-else-end-start+then-roll-end}

pub returns-in_err-check : goal.returns-in_err-check
unfolding unpack_says
returns-in_err-check c =
    let p = err_from_is_err_and c.from_residual.result c.from_residual.ensures.1 in
    rw (p.1, p.2) (unpack_refused (rw (sym c.in_err-check.ensures.says)))

pub returns-then-end-start : goal.returns-then-end-start
unfolding unpack_says
returns-then-end-start c =
    unpack_refused (rw (sound_accepted (check_sound c.in_ok-check.ensures), bad_range c.args.start c.args.end c.args.roll.n (elim c.then-end-start.branch [ then-end-start-via-then-end-start w ↦ inl w.if-end-start.true | then-end-start-via-else-end-start+then-roll-end w ↦ inr (w.if-end-start.false, w.if-roll-end.true) ])))

pub returns-then-out-end : goal.returns-then-out-end
unfolding unpack_says
returns-then-out-end c =
    unpack_refused (rw (sound_accepted (check_sound c.in_ok-check.ensures), le-ltb _ _ c.if-end-start.false, le-ltb _ _ c.if-roll-end.false, lt-ltb _ _ c.if-out-end.true))

pub invariant_of-sound : goal.invariant_of-sound
invariant_of-sound c = record { sound = check_sound c.in_ok-check.ensures; places = search rules; bytes = λ i. omega (arith, c.type_inv.buf i) }

pub unpack_sound-requires : goal.unpack_sound-requires
unpack_sound-requires c = (c.if-end-start.false, c.if-roll-end.false, c.if-out-end.false)

pub returns : goal.returns
returns c =
    unpack_yes
    (record { sound = check_sound c.in_ok-check.ensures; ordered = c.if-end-start.false; inside = c.if-roll-end.false; fits = c.if-out-end.false })
    c.unpack_sound.ensures
