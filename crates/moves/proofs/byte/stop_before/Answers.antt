-- `moves::byte::stop_before` meets its contract: a stopper that ends a codeword of rank below σ, and then what m does.
use Rattle.std.proofs.Common.{arith}
use Rattle.moves.specs.Laws.Moves.{goes_stop}
use Rattle.moves.proofs.byte.stop_before.Goals as goal

pub returns : goal.returns
returns c =
    let good = rw c.stoppers_at.ensures at c.upto.ensures.0 in (
      record { bound = omega arith; times = omega arith; plus = c.requires.0.plus; stops = omega arith },
      λ w h. goes_stop c.args.ranks.good.code c.args.ranks.sigma c.args.y c.upto.result h c.requires.1 (omega arith) (λ x l. omega (arith, good x l)),
    )
