-- `sound::ends::stops_by_byte` meets its contract: as the table has them, or counted.
use Rattle.std.proofs.Common.{◌≡◌, sym, ap, ◌∙◌, ℕ, ◌^◌, ◌<◌, [], ◌∷◌, T, arith}
use mathlib.Core.Logic.{⊎_elim}
use Rattle.ground.specs.Paper.Rows.{tab}
use Rattle.stopper.specs.Paper.Table.{stoppers, good_code}
use Rattle.stopper.specs.Laws.Table.{code_width, code_good}
use Rattle.stopper.specs.declared.code.Code.{Code}
use Rattle.symbols.specs.Paper.Symbols.{symbols_of}
use Rattle.sound.specs.Helpers.Ends.{stops, stops_by_byte}
use Rattle.sound.specs.Laws.Stops.{stops_table}
use Rattle.sound.proofs.ends.stops_by_byte.Goals as goal

-- s, the stoppers of a code of width 2
module _ (code : Code) (good : T (good_code code)) (two : code.k ≡ 2) {s : ℕ} (is : s ≡ stoppers code 0) where
  bounds : (0 < s) × (s < 4)
  bounds =
      let g = code_good code good in
      (omega (arith, g.low 0), omega (arith, g.high 0, ap (λ (k : ℕ). 2 ^ k) two))

  listed : tab (λ b. stops (λ _. s) 0 (symbols_of 2 (b ∷ []))) 0 256 ≡ stops_by_byte code
  listed = rw (sym two, is) (stops_table code)

pub overflow_cast-stoppers_at : goal.overflow_cast-stoppers_at
overflow_cast-stoppers_at c = omega (arith, bounds c.args.good.code c.args.good.good c.if-good-eq2.true c.stoppers_at.ensures)

pub stops_listed-requires : goal.stops_listed-requires
stops_listed-requires c = bounds c.args.good.code c.args.good.good c.if-good-eq2.true c.stoppers_at.ensures

pub returns-then-good-eq2 : goal.returns-then-good-eq2
returns-then-good-eq2 c = c.stops_listed.ensures ∙ listed c.args.good.code c.args.good.good c.if-good-eq2.true c.stoppers_at.ensures

pub stops_counted-requires : goal.stops_counted-requires
stops_counted-requires c = ⊎_elim (λ e. absurd (c.if-good-eq2.false e)) (λ e. e) (code_width c.args.good.code c.args.good.good)
