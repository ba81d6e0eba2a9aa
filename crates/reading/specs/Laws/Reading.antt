-- Readings: a whole one, and one with a codeword ahead.
use Rattle.std.specs.Prelude.{◌≡◌, refl, false, List, ◌∷◌, ℕ}
use Rattle.std.proofs.Common.{ap, arith}
use Rattle.stopper.specs.Paper.Reading.{Reading, done, bad, ahead}
use Rattle.reading.specs.Paper.Reading.{is_bad, ranks_read, first_bad}

pub whole_is : (o : Reading) → is_bad o ≡ false → o ≡ done (ranks_read o)
unfolding is_bad ranks_read
whole_is (done rs) e = refl
whole_is (bad f p rs) e = let z : ◌≡◌ {A = ℕ} 0 1 = cc in absurd (omega arith)

pub done_whole : {o : Reading} {rs : List ℕ} → o ≡ done rs → is_bad o ≡ false
unfolding is_bad
done_whole e = ap is_bad e

pub done_ranks : {o : Reading} {rs : List ℕ} → o ≡ done rs → ranks_read o ≡ rs
unfolding ranks_read
done_ranks e = ap ranks_read e

pub ranks_ahead : (r : ℕ) (o : Reading) → ranks_read (ahead r o) ≡ r ∷ ranks_read o
unfolding ahead ranks_read
ranks_ahead r (done rs) = refl
ranks_ahead r (bad f p rs) = refl

pub bad_ahead : (h r : ℕ) (o : Reading) → first_bad h (ahead r o) ≡ first_bad h o
unfolding ahead first_bad
bad_ahead h r (done rs) = refl
bad_ahead h r (bad f p rs) = refl
