-- A range that is refused 10.
use Rattle.std.proofs.Common.{◌≡◌, true, ◌||◌, ℕ, ◌≤◌, ◌<◌, ltb, ◌⊎◌, inl, inr}
use borrow.Author.Tests.{lt-ltb, le-ltb}

pub bad_range : (start end n : ℕ) → (end < start) ⊎ ((start ≤ end) × (n < end)) → (ltb end start || ltb n end) ≡ true
bad_range start end n (inl h) = rw (lt-ltb _ _ h)
bad_range start end n (inr (a, h)) = rw (le-ltb _ _ a, lt-ltb _ _ h)
