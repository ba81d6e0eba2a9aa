-- `stopper::code::border_of` meets its contract: `Borders`, length by length.
use Rattle.std.proofs.Common.{◌≡◌, ◌⊎◌, inl, inr, ℕ, ◌+◌, ◌-◌, ◌*◌, ◌/◌, ◌≤◌, ◌<◌, arith}
use Rattle.std.proofs.Math.Nat.{mul-pos, mul-le-mul, div-le_self, div-mul-le_self}
use Rattle.std.proofs.Math.Decide.{dec_le}
use Rattle.stopper.proofs.Borders.{start, first, next, within, lengths, wide}
use Rattle.stopper.proofs.code.border_of.Goals as goal

-- c times as many as a length that is passed
passed : {c : ℕ} → c < 16 → (many : ℕ) {r : ℕ} → many ≤ r → r < 256 → many * c ≤ 4096
passed h many l k = mul-le-mul {n₁ = many} {n₂ = 256} {m₂ = 16} (omega arith) (omega arith)

-- ---- how many codewords each length has, where the shorter ones are passed

second : (x : goal.Else-rank-one) → let a = x.args in a.one * a.c ≤ 65536
second x = mul-le-mul {n₂ = 4096} {m₂ = 16} x.requires.1 (omega (arith, x.requires.3))

third : (x : goal.Else-rank-to_two) → let a = x.args in a.one * a.c * a.c ≤ 4096
third x =
    let a = x.args in
    passed x.requires.3 (a.one * a.c) {r = a.rank} (omega arith) x.requires.5

fourth : (x : goal.Else-rank-to_three) → let a = x.args in a.one * a.c * a.c * a.c ≤ 4096
fourth x =
    let a = x.args in
    passed x.requires.3 (a.one * a.c * a.c) {r = a.rank} (omega arith) x.requires.5

fifth : (x : goal.Else-rank-to_four) → let a = x.args in a.one * a.c * a.c * a.c * a.c ≤ 4096
fifth x =
    let a = x.args in
    passed x.requires.3 (a.one * a.c * a.c * a.c) {r = a.rank} (omega arith) x.requires.5

sixth : (x : goal.Else-rank-to_five) → let a = x.args in a.one * a.c * a.c * a.c * a.c * a.c ≤ 4096
sixth x =
    let a = x.args in
    passed x.requires.3 (a.one * a.c * a.c * a.c * a.c) {r = a.rank} (omega arith) x.requires.5

abbrev seven : goal.Else-rank-to_six → ℕ
seven x = let a = x.args in a.one * a.c * a.c * a.c * a.c * a.c * a.c

seventh : (x : goal.Else-rank-to_six) → (0 < seven x) × (seven x ≤ 4096)
seventh x =
    let a = x.args in
    let p = x.requires in (
      mul-pos (mul-pos (mul-pos (mul-pos (mul-pos (mul-pos p.0 p.2) p.2) p.2) p.2) p.2) p.2,
      passed p.3 (a.one * a.c * a.c * a.c * a.c * a.c) {r = a.rank} (omega arith) p.5,
    )

-- ---- the lengths behind the six borders

abbrev to_six : goal.Else-rank-to_six → ℕ
to_six x = let a = x.args in a.one + a.one * a.c + a.one * a.c * a.c + a.one * a.c * a.c * a.c + a.one * a.c * a.c * a.c * a.c + a.one * a.c * a.c * a.c * a.c * a.c

-- the last border passed is at most the rank
below : (x : goal.Else-rank-to_six) → let r = x.args.rank in ((r - to_six x) / seven x ≤ r) × (to_six x + (r - to_six x) / seven x * seven x ≤ r)
below x =
    let r = x.args.rank in
    (omega (arith, div-le_self (r - to_six x) (seven x)), omega (arith, div-mul-le_self (r - to_six x) (seven x)))

-- all have as many, or at most one is passed
rest : (x : goal.Else-rank-to_six) → let a = x.args in (a.c ≡ 1) ⊎ (a.rank < to_six x + (seven x + seven x))
rest x =
    elim (dec_le 2 x.args.c) [
      | yes h ↦ inr (omega (arith, wide x.requires.0 h x.requires.4))
      | no h ↦ inl (omega arith)
    ]

pub returns-then-rank-one : goal.returns-then-rank-one
returns-then-rank-one c = (within start (omega arith) (omega arith), start.shorter_is)

pub returns-then-rank-to_two : goal.returns-then-rank-to_two
returns-then-rank-to_two c = (within first (omega arith) (omega arith), first.shorter_is)

pub returns-then-rank-to_three : goal.returns-then-rank-to_three
returns-then-rank-to_three c = (within (next first) (omega arith) (omega arith), (next first).shorter_is)

pub returns-then-rank-to_four : goal.returns-then-rank-to_four
returns-then-rank-to_four c = (within (next (next first)) (omega arith) (omega arith), (next (next first)).shorter_is)

pub returns-then-rank-to_five : goal.returns-then-rank-to_five
returns-then-rank-to_five c = (within (next (next (next first))) (omega arith) (omega arith), (next (next (next first))).shorter_is)

pub returns-then-rank-to_six : goal.returns-then-rank-to_six
returns-then-rank-to_six c = (within (next (next (next (next first)))) (omega arith) (omega arith), (next (next (next (next first)))).shorter_is)

pub returns : goal.returns
returns c = lengths (next (next (next (next (next first))))) (seventh c).0 c.requires.2 (omega arith) (rest c)

pub overflow_mul-two : goal.overflow_mul-two
overflow_mul-two c = omega (arith, second c)

pub overflow_add-to_two : goal.overflow_add-to_two
overflow_add-to_two c = omega (arith, second c)

pub overflow_mul-three : goal.overflow_mul-three
overflow_mul-three c = omega (arith, third c)

pub overflow_add-to_three : goal.overflow_add-to_three
overflow_add-to_three c = omega (arith, third c)

pub overflow_mul-four : goal.overflow_mul-four
overflow_mul-four c = omega (arith, fourth c)

pub overflow_add-to_four : goal.overflow_add-to_four
overflow_add-to_four c = omega (arith, fourth c)

pub overflow_mul-five : goal.overflow_mul-five
overflow_mul-five c = omega (arith, fifth c)

pub overflow_add-to_five : goal.overflow_add-to_five
overflow_add-to_five c = omega (arith, fifth c)

pub overflow_mul-six : goal.overflow_mul-six
overflow_mul-six c = omega (arith, sixth c)

pub overflow_add-to_six : goal.overflow_add-to_six
overflow_add-to_six c = omega (arith, sixth c)

pub overflow_mul-seven : goal.overflow_mul-seven
overflow_mul-seven c = omega (arith, seventh c)

pub nonzero_div-more : goal.nonzero_div-more
nonzero_div-more c = (seventh c).0

pub overflow_add-result : goal.overflow_add-result
overflow_add-result c = omega (arith, below c)

pub overflow_mul-result : goal.overflow_mul-result
overflow_mul-result c = omega (arith, below c)

pub overflow_add-result-2 : goal.overflow_add-result-2
overflow_add-result-2 c = omega (arith, below c)
