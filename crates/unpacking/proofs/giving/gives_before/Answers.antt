-- `unpacking::giving::gives_before` meets its contract.
use Rattle.unpacking.proofs.giving.gives_before.Goals as goal

pub returns-else-from-stoppers_at : goal.returns-else-from-stoppers_at
returns-else-from-stoppers_at c = λ w l f. c.more_gives.ensures c.args.places.now w f
