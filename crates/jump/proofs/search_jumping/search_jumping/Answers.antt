-- `jump::search_jumping::search_jumping` meets its contract.
use Rattle.std.proofs.Common.{arith, rules}
use Rattle.std.proofs.lemmas.Result.{err_from_is_err_and}
use Rattle.roll.specs.Laws.Operations.{pattern_sound, search_refused, search_yes}
use Rattle.jump.proofs.search_jumping.search_jumping.Goals as goal

pub returns-in_err-check_pattern : goal.returns-in_err-check_pattern
returns-in_err-check_pattern c =
    let p = err_from_is_err_and c.from_residual.result c.from_residual.ensures.1 in
    rw (p.1, p.2) (search_refused c.in_err-check_pattern.ensures)

pub invariant_of-sound : goal.invariant_of-sound
invariant_of-sound c = record { sound = (pattern_sound c.in_ok-check_pattern.ensures).0; places = search rules; bytes = λ i. omega (arith, c.type_inv.buf i) }

pub jump_sound-requires : goal.jump_sound-requires
jump_sound-requires c = (pattern_sound c.in_ok-check_pattern.ensures).1

pub returns : goal.returns
returns c =
    let (sound, good) = pattern_sound c.in_ok-check_pattern.ensures in
    search_yes sound good c.jump_sound.ensures.total c.jump_sound.ensures.list
