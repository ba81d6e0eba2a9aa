-- `moves::byte::longer` meets its contract: the rows that symbol y and row w make, in the order of their numbers.
use Rattle.std.proofs.Common.{◌≡◌, List, ◌∷◌, ℕ, suc, ◌+◌, ◌*◌, ◌^◌, ◌<◌, ◌≤◌, length, get_or, set, ap, sym, ◌∙◌, arith, mul-le-mul_right, length-set, get_or-set_same, get_or-set_other}
use Rattle.std.proofs.Math.Nat.{pow-suc}
use Rattle.std.proofs.Math.Decide.{ℕ_discrete}
use Rattle.stopper.specs.Paper.Table.{base}
use Rattle.stopper.specs.Laws.Table.{code_base}
use Rattle.stopper.specs.declared.code.Code.{Code}
use Rattle.symbols.specs.Helpers.Gathered.{digits}
use Rattle.moves.specs.Helpers.Moves.{SymbolBefore}
use Rattle.moves.specs.Laws.Moves.{digits_before}
use Rattle.moves.proofs.byte.longer.Invariants.{Done}
use Rattle.moves.proofs.byte.longer.Goals as goal

-- the row that symbol y and row w make is done
one_more : (code : Code) (σ size : ℕ) (t r : List ℕ) (y w e : ℕ) → y < base code → w < size → y * size + w < length r → SymbolBefore code σ y (get_or t w 0) e
    → Done code σ size t r (y * size + w) → Done code σ size t (set r (y * size + w) e) (y * size + (w + 1))
one_more code σ size t r y w e h l k s d = λ n q m u b.
    let v = y * size + w in
    elim (ℕ_discrete u v) [
      | yes i ↦
          let f : digits (base code) (suc n) u ≡ y ∷ digits (base code) n w
          = ap (digits (base code) (suc n)) (i ∙ ap (λ (k : ℕ). y * k + w) q) ∙ digits_before code σ n y w h (omega (arith, q)) in
          rw (f, i, get_or-set_same r v e 0 k) (s (digits (base code) n w) (m w (omega (arith, q))))
      | no i ↦ rw (get_or-set_other r v u e 0 i) (d n q m u (omega arith))
    ]

-- there are few of them
few : (size b y w : ℕ) → size * b ≤ 256 → y < b → w < size → y * size + w < 256
few size b y w h l k = omega (arith, mul-le-mul_right size l)

pub symbol_before-requires : goal.symbol_before-requires
symbol_before-requires c = omega (arith, code_base c.args.ranks.good.code c.args.ranks.good.good)

pub loop-w-preserved : goal.loop-w-preserved
loop-w-preserved c =
    let code = c.args.ranks.good.code in
    let y : c.loop-y.y < base code = omega arith in (
      simp length-set c.loop-w.invariant.0,
      one_more code c.args.ranks.sigma c.args.size c.args.t.now c.loop-w.r c.loop-y.y c.loop-w.w c.symbol_before.result y c.loop-w-test.true
          (omega (arith, few c.args.size (base code) c.loop-y.y c.loop-w.w c.requires.1 y c.loop-w-test.true, c.loop-w.invariant.0)) c.symbol_before.ensures c.loop-w.invariant.1,
    )

pub returns : goal.returns
returns c = λ n e m u h.
    let b = base c.args.ranks.good.code in
    let s : b ^ suc n ≡ c.args.size * b = pow-suc b n ∙ ap (λ (k : ℕ). k * b) (sym e) in
    let l : b * c.args.size ≤ c.loop-y.y * c.args.size = mul-le-mul_right c.args.size (omega arith) in
    c.loop-y.invariant.1 n e m u (omega (arith, s))
