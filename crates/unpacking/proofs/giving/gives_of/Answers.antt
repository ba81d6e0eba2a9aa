-- `unpacking::giving::gives_of` meets its contract: from the last symbol of the byte to the first.
use Rattle.std.proofs.Common.{◌≡◌, List, [], ◌∷◌, ℕ, suc, ◌-◌, ◌≤◌, ◌<◌, T, length, drop, get_or, sym, ap, ◌∙◌, arith, length-drop, drop-cons}
use Rattle.std.proofs.Math.ListN.{drop_of_length-le}
use Rattle.ground.specs.Laws.Rows.{below_at}
use Rattle.stopper.specs.Paper.Table.{good_code}
use Rattle.stopper.specs.Laws.Table.{code_width, code_base}
use Rattle.stopper.specs.declared.code.Code.{Code}
use Rattle.symbols.specs.Paper.Symbols.{per, symbols_of}
use Rattle.symbols.specs.Laws.Width.{per_few}
use Rattle.symbols.specs.Laws.Rows.{symbols_length, symbols_below}
use Rattle.unpacking.specs.Laws.Gives.{spells_none}
use Rattle.unpacking.proofs.giving.gives_of.Goals as goal

module _ (code : Code) (g : T (good_code code)) (b : ℕ) where
  -- the symbols of a byte
  abbrev all : List ℕ
  all = symbols_of code.k (b ∷ [])

  module _ (t : ℕ) (some : 0 < t) (l : t ≤ per code.k) where
    inside : t - 1 < length all
    inside = omega (arith, symbols_length code.k (b ∷ []))

    small : get_or all (t - 1) 0 < 16
    small = omega (arith, code_base code g, below_at (symbols_below code.k (b ∷ [])) (t - 1) inside)

    -- the last of those before t, and the few after it
    split : drop (t - 1) all ≡ get_or all (t - 1) 0 ∷ drop t all
    split = let e : suc (t - 1) ≡ t = omega arith in rw e at (drop-cons all (t - 1) 0 inside)

    short : length (drop t all) ≤ 3
    short = omega (arith, length-drop t all, symbols_length code.k (b ∷ []), per_few (code_width code g))

pub per_byte-t-requires : goal.per_byte-t-requires
per_byte-t-requires c = code_width c.args.good.code c.args.good.good

pub loop-t-init : goal.loop-t-init
loop-t-init c =
    let all = symbols_of c.args.good.code.k (c.args.b ∷ []) in
    let none : drop c.per_byte-t.result all ≡ [] = drop_of_length-le all (omega (arith, symbols_length c.args.good.code.k (c.args.b ∷ []), c.per_byte-t.ensures)) in
    rw none (spells_none c.args.good.code c.args.places.now _)

pub get-requires : goal.get-requires
get-requires c = (code_width c.args.good.code c.args.good.good, inside c.args.good.code c.args.good.good c.args.b c.loop-t.t c.loop-t-test.true (omega (arith, c.per_byte-t.ensures)))

pub gives_before-requires : goal.gives_before-requires
gives_before-requires c =
    omega (arith, c.get.ensures, small c.args.good.code c.args.good.good c.args.b c.loop-t.t c.loop-t-test.true (omega (arith, c.per_byte-t.ensures)))

pub loop-t-preserved : goal.loop-t-preserved
loop-t-preserved c =
    let code = c.args.good.code in
    let b = c.args.b in
    let t = c.loop-t.t in
    let some = c.loop-t-test.true in
    let l : t ≤ per code.k = omega (arith, c.per_byte-t.ensures) in
    let rest = drop t (symbols_of code.k (b ∷ [])) in
    let e = split code c.args.good.good b t some l ∙ ap (λ (y : ℕ). y ∷ rest) (sym c.get.ensures) in
    rw e (c.in_ok-g.ensures rest (short code c.args.good.good b t some l) c.loop-t.invariant)

pub returns : goal.returns
returns c =
    let z : c.loop-t.t ≡ 0 = omega arith in
    rw z at c.loop-t.invariant
