-- `radio::feed::refused` meets its contract.
use mathlib.Core.Path.{refl}
use Rattle.radio.specs.Helpers.Kept.{refused_fed}
use Rattle.radio.proofs.feed.refused.Goals as goal

pub returns : goal.returns
unfolding refused_fed
returns c = refl
