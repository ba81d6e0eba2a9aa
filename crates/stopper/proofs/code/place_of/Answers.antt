-- `stopper::code::place_of` meets its contract: the place with the property (`Within`) is the only one.
use Rattle.std.proofs.Common.{◌≡◌, sym, ap, ap₂, ◌∙◌, ℕ, zero, suc, ◌+◌, ◌-◌, ◌*◌, ◌≤◌, ◌<◌, T, arith, le_refl}
use Rattle.std.proofs.Math.Nat.{zero-add, one-mul, mul-pos, mul-le-mul}
use Rattle.stopper.specs.Paper.Code.{Good, Within, opens, shorter, place}
use Rattle.stopper.specs.Paper.Table.{base, stoppers, good_code}
use Rattle.stopper.specs.Helpers.Answers.{place_of}
use Rattle.stopper.specs.Laws.Code.{place_is}
use Rattle.stopper.specs.Laws.Table.{code_base, code_good}
use Rattle.stopper.specs.Laws.State.{stoppers_near}
use Rattle.stopper.specs.declared.code.Code.{Code}
use Rattle.stopper.specs.declared.code.Place.{Place}
use Rattle.stopper.proofs.Borders.{place_le, shorter_later, within_later}
use Rattle.stopper.proofs.code.place_of.Goals as goal

-- what was asked of the code: the number of base symbols, and the stoppers of the first place, the second and all later ones
record Asked (code : Code) (m a b u : ℕ) : Type 0 where
  good : T (good_code code)
  symbols : m ≡ base code
  first : a ≡ stoppers code 0
  second : b ≡ stoppers code 1
  later : u ≡ stoppers code 2

module _ {code : Code} {m a b u : ℕ} (k : Asked code m a b u) where
  -- each place has a stopper and a continuer, of 4 to 16 symbols
  sizes : (0 < a) × (a < m) × (0 < b) × (b < m) × (0 < u) × (u < m) × (4 ≤ m) × (m ≤ 16)
  sizes =
      let g : Good (base code) (stoppers code) = code_good code k.good in
      rw (k.symbols, k.first, k.second, k.later) (g.low 0, g.high 0, g.low 1, g.high 1, g.low 2, g.high 2, (code_base code k.good).0, (code_base code k.good).1)

  -- from the third place on all are alike
  alike : (j : ℕ) → stoppers code (suc (suc j)) ≡ u
  alike j = sym (stoppers_near code (suc (suc j))) ∙ sym k.later

  later_alike : (j : ℕ) → stoppers code (2 + j) ≡ u
  later_alike j = let e : 2 + j ≡ suc (suc j) = omega arith in rw e (alike j)

  all_alike : a ≡ u → b ≡ u → (j : ℕ) → stoppers code (0 + j) ≡ u
  all_alike e f zero = sym k.first ∙ e
  all_alike e f (suc zero) = sym k.second ∙ f
  all_alike e f (suc (suc j)) = rw zero-add (alike j)

  -- the place with the property is the only one
  placed : {r i q : ℕ} → Within (base code) (stoppers code) r i → q ≡ r - shorter (base code) (stoppers code) i
      → ◌≡◌ {A = Place} (record { at = i; q = q }) (place_of code r)
  unfolding place_of
  placed {r} {i} {q} w e =
      let p : i ≡ place (base code) (stoppers code) r = sym (place_is (base code) (stoppers code) (code_good code k.good) w) in
      ap₂ {C = Place} (λ (x y : ℕ). record { at = x; q = y }) p (e ∙ ap (λ (n : ℕ). r - shorter (base code) (stoppers code) n) p)

  one_short : shorter (base code) (stoppers code) 1 ≡ a
  unfolding opens shorter
  one_short = rw k.first (omega arith)

  two_short : shorter (base code) (stoppers code) 2 ≡ a + (m - a) * b
  unfolding opens shorter
  two_short = rw (k.symbols, k.first, k.second) (omega arith)

  two_open : opens (base code) (stoppers code) 2 ≡ (m - a) * (m - b)
  unfolding opens
  two_open = rw (k.symbols, k.first, k.second) (omega arith)

  -- the products are small, and none is 0
  rows_pos : 0 < (m - a) * (m - b)
  rows_pos = let s = sizes in mul-pos (omega arith) (omega arith)

  rows_few : (m - a) * (m - b) ≤ 256
  rows_few = let s = sizes in mul-le-mul {n₁ = m - a} {m₁ = m - b} {n₂ = 16} {m₂ = 16} (omega arith) (omega arith)

  two_few : (m - a) * b ≤ 256
  two_few = let s = sizes in mul-le-mul {n₁ = m - a} {m₁ = b} {n₂ = 16} {m₂ = 16} (omega arith) (omega arith)

  three_few : (m - a) * (m - b) * u ≤ 4096
  three_few = let s = sizes in mul-le-mul {n₁ = (m - a) * (m - b)} {m₁ = u} {n₂ = 256} {m₂ = 16} rows_few (omega arith)

  three_some : u ≤ (m - a) * (m - b) * u
  three_some = omega (arith, mul-le-mul {n₁ = 1} {m₁ = u} {n₂ = (m - a) * (m - b)} {m₂ = u} rows_pos (le_refl u))

  -- ---- the four answers

  module _ {r : ℕ} where
    in_first : r < a → ◌≡◌ {A = Place} (record { at = 0; q = r }) (place_of code r)
    unfolding shorter
    in_first h = placed (record { above = omega arith; below = rw one_short h }) (omega arith)

    in_second : a ≤ r → r - a < (m - a) * b → ◌≡◌ {A = Place} (record { at = 1; q = r - a }) (place_of code r)
    in_second l h = placed (record { above = rw one_short l; below = rw two_short (omega arith) }) (rw one_short)

    -- n places are passed, and from there on all are alike
    from : (n one : ℕ) → ((j : ℕ) → stoppers code (n + j) ≡ u) → one ≡ opens (base code) (stoppers code) n * u → {q j s : ℕ} → r ≡ shorter (base code) (stoppers code) n + q
        → Within (one + (m - u)) (λ _. one) q j × (s ≡ shorter (one + (m - u)) (λ _. one) j) → ◌≡◌ {A = Place} (record { at = n + j; q = q - s }) (place_of code r)
    from n one same o {q} {j} {s} e (w, p) =
        let c : m - u ≡ base code - u = ap (λ (x : ℕ). x - u) k.symbols in
        placed (within_later (base code) (stoppers code) n u one (m - u) same o c e w)
        (rw (p, e, shorter_later (base code) (stoppers code) n u one (m - u) same o c j) (less (shorter (base code) (stoppers code) n) q _))
      where
        less : (x y z : ℕ) → y - z ≡ x + y - (x + z)
        less x y z = omega arith

    from_first : a ≡ u → b ≡ u → {j s : ℕ} → Within (u + (m - u)) (λ _. u) r j × (s ≡ shorter (u + (m - u)) (λ _. u) j)
        → ◌≡◌ {A = Place} (record { at = j; q = r - s }) (place_of code r)
    unfolding opens shorter
    from_first e f {j} h = rw zero-add at (from 0 u (all_alike e f) (sym (one-mul u)) (sym (zero-add r)) h)

    from_third : {j s : ℕ} → a ≤ r → (m - a) * b ≤ r - a → let one = (m - a) * (m - b) * u in
        Within (one + (m - u)) (λ _. one) (r - a - (m - a) * b) j × (s ≡ shorter (one + (m - u)) (λ _. one) j)
        → ◌≡◌ {A = Place} (record { at = 2 + j; q = r - a - (m - a) * b - s }) (place_of code r)
    from_third l h = from 2 ((m - a) * (m - b) * u) later_alike (ap (λ (n : ℕ). n * u) (sym two_open)) (rest ((m - a) * b) h ∙ ap (λ (n : ℕ). n + (r - a - (m - a) * b)) (sym two_short))
      where
        rest : (x : ℕ) → x ≤ r - a → r ≡ a + x + (r - a - x)
        rest x h = omega arith

asked : (code : Code) {m a b u : ℕ} → T (good_code code) → m ≡ base code → a ≡ stoppers code 0 → b ≡ stoppers code 1 → u ≡ stoppers code 2 → Asked code m a b u
asked code g m a b u = record { good = g; symbols = m; first = a; second = b; later = u }

-- all places alike
known : (c : goal.Then-second-later) → Asked c.args.good.code c.base_of-m.result c.stoppers_at-first.result c.stoppers_at-second.result c.stoppers_at-later.result
known c = asked c.args.good.code c.args.good.good c.base_of-m.ensures c.stoppers_at-first.ensures c.stoppers_at-second.ensures c.stoppers_at-later.ensures

pub overflow_sub-m : goal.overflow_sub-m
overflow_sub-m c = let s = sizes (known c) in omega arith

pub border_of-b-requires : goal.border_of-b-requires
border_of-b-requires c =
    let s = sizes (known c) in
    (omega arith, omega arith, omega arith, omega arith, omega arith, c.requires)

pub returns-then-second-later : goal.returns-then-second-later
returns-then-second-later c = from_first (asked c.args.good.code c.args.good.good c.base_of-m.ensures c.stoppers_at-first.ensures c.stoppers_at-second.ensures c.stoppers_at-later.ensures) c.if-first-later.true c.if-second-later.true c.border_of-b.ensures

-- the first place
pub returns-then-rank-first : goal.returns-then-rank-first
returns-then-rank-first c = in_first (asked c.args.good.code c.args.good.good c.base_of-m.ensures c.stoppers_at-first.ensures c.stoppers_at-second.ensures c.stoppers_at-later.ensures) c.if-rank-first.true

-- the second place
known_second : (c : goal.Else-rank-first) → Asked c.args.good.code c.base_of-m.result c.stoppers_at-first.result c.stoppers_at-second.result c.stoppers_at-later.result
known_second c = asked c.args.good.code c.args.good.good c.base_of-m.ensures c.stoppers_at-first.ensures c.stoppers_at-second.ensures c.stoppers_at-later.ensures

pub overflow_sub-two : goal.overflow_sub-two
overflow_sub-two c = let s = sizes (known_second c) in omega arith

pub overflow_mul-two : goal.overflow_mul-two
overflow_mul-two c = omega (arith, two_few (known_second c))

pub returns-then-rest-two : goal.returns-then-rest-two
returns-then-rest-two c = in_second (asked c.args.good.code c.args.good.good c.base_of-m.ensures c.stoppers_at-first.ensures c.stoppers_at-second.ensures c.stoppers_at-later.ensures) c.if-rank-first.false c.if-rest-two.true

-- a later place
known_later : (c : goal.Else-rest-two) → Asked c.args.good.code c.base_of-m.result c.stoppers_at-first.result c.stoppers_at-second.result c.stoppers_at-later.result
known_later c = asked c.args.good.code c.args.good.good c.base_of-m.ensures c.stoppers_at-first.ensures c.stoppers_at-second.ensures c.stoppers_at-later.ensures

pub overflow_sub-m-2 : goal.overflow_sub-m-2
overflow_sub-m-2 c = let s = sizes (known_later c) in omega arith

pub overflow_sub-m-3 : goal.overflow_sub-m-3
overflow_sub-m-3 c = let s = sizes (known_later c) in omega arith

pub overflow_sub-m-4 : goal.overflow_sub-m-4
overflow_sub-m-4 c = let s = sizes (known_later c) in omega arith

pub overflow_mul-m : goal.overflow_mul-m
overflow_mul-m c = omega (arith, rows_few (known_later c))

pub overflow_mul-m-2 : goal.overflow_mul-m-2
overflow_mul-m-2 c = omega (arith, three_few (known_later c))

pub border_of-b-requires-2 : goal.border_of-b-requires-2
border_of-b-requires-2 c =
    let k = known_later c in
    let s = sizes k in
    (mul-pos (rows_pos k) (omega arith), three_few k, omega arith, omega arith, omega (arith, three_some k), omega arith)

pub overflow_add-result : goal.overflow_add-result
overflow_add-result c =
    let k = asked c.args.good.code c.args.good.good c.base_of-m.ensures c.stoppers_at-first.ensures c.stoppers_at-second.ensures c.stoppers_at-later.ensures in
    let s = sizes k in
    omega (arith, place_le (mul-pos (rows_pos k) (omega arith)) (omega arith) c.border_of-b-2.ensures.0)

pub returns : goal.returns
returns c = from_third (asked c.args.good.code c.args.good.good c.base_of-m.ensures c.stoppers_at-first.ensures c.stoppers_at-second.ensures c.stoppers_at-later.ensures) c.if-rank-first.false c.if-rest-two.false c.border_of-b-2.ensures
