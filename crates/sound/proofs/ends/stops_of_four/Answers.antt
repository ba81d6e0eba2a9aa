-- `sound::ends::stops_of_four` meets its contract: a test for each symbol.
use Rattle.std.proofs.Common.{◌≡◌, ltb, ◌*◌, ◌%◌, refl, sym, ap, ◌∙◌, ℕ, ◌^◌, ◌≤◌, ◌<◌, Bool, true, false, cond, [], ◌∷◌, T, arith}
use Rattle.std.specs.Int.{from_bool}
use Rattle.stopper.specs.Paper.Table.{stoppers, good_code}
use Rattle.stopper.specs.Laws.Table.{code_good}
use Rattle.stopper.specs.declared.code.Code.{Code}
use Rattle.symbols.specs.Paper.Symbols.{symbols_of}
use Rattle.sound.specs.Helpers.Ends.{stops}
use Rattle.sound.specs.Laws.Stops.{stops_even, stops_four}
use Rattle.sound.proofs.ends.stops_of_four.Goals as goal

flag : (b : Bool) → (from_bool b ≡ cond b 1 0) × (from_bool b ≤ 1)
flag true = (refl, omega arith)
flag false = (refl, omega arith)

module _ (code : Code) {s : ℕ} (good : T (good_code code)) (four : code.k ≡ 4) (is : s ≡ stoppers code 0) where
  below : s < 16
  below = omega (arith, (code_good code good).high 0, ap (λ (k : ℕ). 2 ^ k) four)

  even : (b : ℕ) → stops (λ _. s) 0 (symbols_of 4 (b ∷ [])) ≡ stops (stoppers code) 0 (symbols_of code.k (b ∷ []))
  even b =
      ap (λ (n : ℕ). stops (λ _. n) 0 (symbols_of 4 (b ∷ []))) is
      ∙ stops_even code 0 (symbols_of 4 (b ∷ []))
      ∙ ap (λ (k : ℕ). stops (stoppers code) 0 (symbols_of k (b ∷ []))) (sym four)

pub overflow_cast-s : goal.overflow_cast-s
overflow_cast-s c = omega (arith, below c.args.good.code c.args.good.good c.requires c.stoppers_at-s.ensures)

pub overflow_mul-s : goal.overflow_mul-s
overflow_mul-s c = omega (arith, below c.args.good.code c.args.good.good c.requires c.stoppers_at-s.ensures)

pub returns : goal.returns
returns c =
    let s = c.stoppers_at-s.result in
    let b = c.args.b in
    let first = flag (ltb b (16 * s)) in
    let second = flag (ltb (b % 16) s) in (
      omega (arith, c.from.ensures, c.from-2.ensures, even c.args.good.code c.args.good.good c.requires c.stoppers_at-s.ensures b, stops_four s b c.ranges.b.fits),
      omega (arith, c.from.ensures, c.from-2.ensures),
    )
