-- The widths that there are. A good code has one (`stopper`: code_width), so no promise speaks of it.
use Rattle.std.specs.Prelude.{◌≡◌, ◌⊎◌, ℕ}

abbrev pub Width : ℕ → Type 0
Width k = (k ≡ 2) ⊎ (k ≡ 4)
