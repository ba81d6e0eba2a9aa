-- `jump::counting::continuers_of` meets its contract.
use Rattle.std.proofs.Common.{◌≡◌, [], ◌∷◌, ℕ, ◌^◌, ◌<◌, T, sym, ap, ◌∙◌, rules, arith}
use Rattle.stopper.specs.Paper.Table.{stoppers, good_code}
use Rattle.stopper.specs.Laws.Table.{code_good}
use Rattle.stopper.specs.declared.code.Code.{Code}
use Rattle.symbols.specs.Paper.Symbols.{symbols_of}
use Rattle.sound.specs.Helpers.Ends.{stops}
use Rattle.sound.specs.Laws.Stops.{stops_even}
use Rattle.jump.specs.Laws.Counting.{continuers_both}
use Rattle.jump.proofs.counting.continuers_of.Goals as goal

bounds : (code : Code) → T (good_code code) → code.k ≡ 2 → (0 < stoppers code 0) × (stoppers code 0 < 4)
bounds code g k =
    let b = code_good code g in
    (omega (arith, b.low 0), omega (arith, b.high 0, ap (λ (n : ℕ). 2 ^ n) k))

pub overflow_cast-added : goal.overflow_cast-added
overflow_cast-added c = omega (arith, c.stoppers_at.ensures, bounds c.args.good.code c.args.good.good c.requires)

pub overflow_sub-added : goal.overflow_sub-added
overflow_sub-added c = omega (arith, c.stoppers_at.ensures, bounds c.args.good.code c.args.good.good c.requires)

pub returns : goal.returns
returns c =
    let code = c.args.good.code in
    let byte = c.args.b ∷ [] in
    let s : ℕ = c.stoppers_at.result in
    let h = bounds code c.args.good.good c.requires in
    let e : stops (λ _. s) 0 (symbols_of 2 byte) ≡ stops (stoppers code) 0 (symbols_of code.k byte)
    = ap (λ (n : ℕ). stops (λ _. n) 0 (symbols_of 2 byte)) c.stoppers_at.ensures
    ∙ stops_even code 0 (symbols_of 2 byte)
    ∙ ap (λ (k : ℕ). stops (stoppers code) 0 (symbols_of k byte)) (sym c.requires) in
    let z = continuers_both s c.args.b (search rules) (omega (arith, c.stoppers_at.ensures, h)) (omega (arith, c.stoppers_at.ensures, h)) in
    (rw e at z.0, z.1, z.2)
