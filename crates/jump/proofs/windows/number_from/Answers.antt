-- `jump::windows::number_from` meets its contract.
use Rattle.std.proofs.Common.{◌≡◌, List, ℕ, ◌+◌, ◌-◌, ◌<◌, length, take, drop, get_or, refl, ◌∙◌, arith, length-take, get_or-take, get_or-drop, pow_pos}
use Rattle.ground.specs.Laws.Rows.{get_or_below}
use Rattle.symbols.specs.Paper.Symbols.{number}
use Rattle.jump.specs.Laws.Sought.{sought_width, sought_below}
use Rattle.jump.specs.Laws.Table.{number_next}
use Rattle.jump.proofs.windows.number_from.Goals as goal

-- the symbols from j on, as many as are taken
abbrev taken : List ℕ → ℕ → ℕ → List ℕ
taken symbols j n = take (j + n - j) (drop j symbols)

before : (symbols : List ℕ) (j n i : ℕ) → i < length (taken symbols j n) → i < n
before symbols j n i h = omega (arith, length-take (j + n - j) (drop j symbols))

taken_at : (symbols : List ℕ) (j n i : ℕ) → i < n → get_or (taken symbols j n) i 0 ≡ get_or symbols (j + i) 0
taken_at symbols j n i h =
    get_or-take (j + n - j) (drop j symbols) i 0 (omega arith) ∙ get_or-drop j symbols i 0

pub loop-x-init : goal.loop-x-init
unfolding number
loop-x-init c = refl

pub next_byte-b-requires : goal.next_byte-b-requires
next_byte-b-requires c =
    let a = c.args in
    let s = a.sought.now in
    let lt = before s.symbols.now a.j a.n c.loop-x.x-index c.loop-x-test.true in
    (sought_width s, rw (taken_at s.symbols.now a.j a.n c.loop-x.x-index lt) (get_or_below (sought_below s) (pow_pos s.good.code.k) _))

pub loop-x-preserved : goal.loop-x-preserved
loop-x-preserved c =
    let a = c.args in
    let s = a.sought.now in
    let i : ℕ = c.loop-x.x-index in
    let lt = before s.symbols.now a.j a.n i c.loop-x-test.true in
    c.next_byte-b.ensures
    ∙ rw (taken_at s.symbols.now a.j a.n i lt, c.loop-x.invariant) (number_next (sought_width s) (sought_below s) a.j i (omega (arith, c.requires.0)))
