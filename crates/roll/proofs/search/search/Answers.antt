-- `roll::search::search` meets its contract.
use Rattle.std.proofs.Common.{arith, rules}
use Rattle.std.proofs.lemmas.Result.{err_from_is_err_and}
use Rattle.roll.specs.Laws.Operations.{pattern_sound, search_refused, search_yes}
use Rattle.roll.proofs.search.search.Goals as goal

pub returns-in_err-check_pattern : goal.returns-in_err-check_pattern
returns-in_err-check_pattern c =
    let p = err_from_is_err_and c.from_residual.result c.from_residual.ensures.1 in
    rw (p.1, p.2) (search_refused c.in_err-check_pattern.ensures)

pub invariant_of-sound : goal.invariant_of-sound
invariant_of-sound c = let (sound, _) = pattern_sound c.in_ok-check_pattern.ensures in record { sound = sound; places = search rules; bytes = λ i. omega (arith, c.type_inv.buf i) }

pub search_sound-requires : goal.search_sound-requires
search_sound-requires c = let (_, good) = pattern_sound c.in_ok-check_pattern.ensures in good

pub returns : goal.returns
returns c =
    let (sound, good) = pattern_sound c.in_ok-check_pattern.ensures in
    search_yes sound good c.search_sound.ensures.total c.search_sound.ensures.list
