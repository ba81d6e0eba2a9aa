-- What is known of a pattern's symbols and the windows in which they are looked for.
use Rattle.std.specs.Prelude.{ℕ, ◌^◌, length}
use Rattle.std.proofs.Common.{subst}
use Rattle.ground.specs.Helpers.Below.{Below}
use Rattle.ground.specs.Laws.Rows.{below_all}
use Rattle.stopper.specs.Laws.Table.{code_width}
use Rattle.symbols.specs.Helpers.Widths.{Width}
use Rattle.jump.specs.Helpers.Windows.{Fits}
use Rattle.jump.specs.declared.windows.Sought.{Sought}
use Rattle.jump.specs.declared.scanning.Windows.{Windows}

-- the width of a symbol
pub sought_width : (s : Sought) → Width s.good.code.k
sought_width s = code_width s.good.code s.good.good

-- each symbol has that width
pub sought_below : (s : Sought) → Below (2 ^ s.good.code.k) s.symbols.now
sought_below s = below_all _ _ s.below

-- the window fits symbols of the width that those searched have
pub windows_fit : (w : Windows) → Fits w.searched.good.code.k (length w.sought.symbols.now) w.sought.v
windows_fit w = subst (λ (k : ℕ). Fits k (length w.sought.symbols.now) w.sought.v) w.alike w.sought.fits
