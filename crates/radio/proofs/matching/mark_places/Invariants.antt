use Rattle.std.proofs.Common.{◌≡◌, take}
use Rattle.radio.specs.Helpers.Masks.{masks_of}
use Rattle.radio.proofs.matching.mark_places.Given as goal

abbrev pub invariant-loop-j : goal.invariant-loop-j
invariant-loop-j l = l.masks ≡ masks_of (take l.j l.pattern)
