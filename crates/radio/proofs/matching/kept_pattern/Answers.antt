-- `radio::matching::kept_pattern` meets its contract.
use Rattle.std.proofs.lemmas.List.{drop-replicate}
use Rattle.ground.specs.Paper.Rows.{zeros, padded}
use Rattle.radio.proofs.matching.kept_pattern.Goals as goal

pub returns : goal.returns
unfolding zeros padded
returns c = rw (c.copy_from_slice.ensures.after, drop-replicate)
