-- `jump::windows::fill_places` meets its contract.
use Rattle.std.proofs.Common.{◌≡◌, List, ℕ, ◌+◌, ◌-◌, ◌*◌, ◌/◌, ◌%◌, ◌^◌, ◌<◌, refl, ap, ap₂, subst, ◌∙◌, add-zero, div-lt_iff_lt-mul, arith, pow_pos}
use Rattle.ground.specs.Helpers.Below.{Below}
use Rattle.ground.specs.Laws.Rows.{get_or_below}
use Rattle.symbols.specs.Paper.Symbols.{per}
use Rattle.symbols.specs.Helpers.Widths.{Width}
use Rattle.symbols.specs.Laws.Width.{per_pos}
use Rattle.jump.specs.Helpers.Windows.{byte_from, number_from, key_of, Upto}
use Rattle.jump.specs.Laws.Sought.{sought_width, sought_below}
use Rattle.jump.specs.Laws.Table.{number_start, byte_next, next_start, upto_more}
use Rattle.jump.proofs.windows.fill_places.Goals as goal

-- the symbols of a byte but the last, as the number that they make says
start : {k : ℕ} {row : List ℕ} (w : Width k) → Below (2 ^ k) row → (j : ℕ) {q n : ℕ} → q ≡ per k → n ≡ number_from k row j (q - 1)
    → n % 2 ^ (8 - k) ≡ number_from k row j (per k - 1)
start {k} {row} w b j e f =
    ap (λ (n : ℕ). n % 2 ^ (8 - k)) (f ∙ ap (λ (q : ℕ). number_from k row j (q - 1)) e) ∙ number_start w b j

-- the place of a symbol is one of the window's
place : {k : ℕ} (w : Width k) → (places free j q : ℕ) → q ≡ per k → j < places * q - free → (free + j) / per k < places
place w places free j q e h =
    (div-lt_iff_lt-mul (per_pos w)).1 (omega (arith, ap (λ (n : ℕ). places * n) e))

pub per_byte-per-requires : goal.per_byte-per-requires
per_byte-per-requires c = sought_width c.args.sought.now

pub loop-j-init : goal.loop-j-init
loop-j-init c =
    let s = c.args.sought.now in
    let k : ℕ = s.good.code.k in
    let v = s.v in
    let row = s.symbols.now in
    let width = sought_width s in
    let below = sought_below s in
    let e : v.back * c.per_byte-per.result ≡ 0 + v.back * per k = omega (arith, ap (λ (n : ℕ). v.back * n) c.per_byte-per.ensures) in (
      start width below 0 c.per_byte-per.ensures c.number_from-y.ensures,
      start width below _ c.per_byte-per.ensures c.number_from-z.ensures ∙ ap (λ (j : ℕ). number_from k row j (per k - 1)) e,
      rw add-zero c.requires,
    )

pub next_byte-y-requires : goal.next_byte-y-requires
next_byte-y-requires c =
    (sought_width c.args.sought.now, get_or_below (sought_below c.args.sought.now) (pow_pos c.args.sought.now.good.code.k) _)

pub next_byte-z-requires : goal.next_byte-z-requires
next_byte-z-requires c =
    (sought_width c.args.sought.now, get_or_below (sought_below c.args.sought.now) (pow_pos c.args.sought.now.good.code.k) _)

pub byte_of-requires : goal.byte_of-requires
byte_of-requires c = sought_width c.args.sought.now

pub loop-j-preserved : goal.loop-j-preserved
loop-j-preserved c =
    let s = c.args.sought.now in
    let k : ℕ = s.good.code.k in
    let v = s.v in
    let row = s.symbols.now in
    let width = sought_width s in
    let below = sought_below s in
    let j : ℕ = c.loop-j.j in
    let q : c.per_byte-per.result ≡ per k = c.per_byte-per.ensures in
    let y : c.next_byte-y.result ≡ byte_from k row j
    = (rw q at c.next_byte-y.ensures) ∙ byte_next width below c.loop-j.y j c.loop-j.invariant.0 in
    let z : c.next_byte-z.result ≡ byte_from k row (j + v.back * per k)
    = (rw q at c.next_byte-z.ensures) ∙ byte_next width below c.loop-j.z (j + v.back * per k) c.loop-j.invariant.1 in
    let e : j + v.back * per k + 1 ≡ j + 1 + v.back * per k = omega arith in
    let f : v.free + j + 1 ≡ v.free + (j + 1) = omega arith in
    let x : c.key.result ≡ key_of v.back (byte_from k row j) (byte_from k row (j + v.back * per k)) = c.key.ensures.0 ∙ ap₂ (key_of v.back) y z in (
      ap (λ (n : ℕ). n % 2 ^ (8 - k)) y ∙ next_start width below j,
      ap (λ (n : ℕ). n % 2 ^ (8 - k)) z ∙ next_start width below (j + v.back * per k) ∙ ap (λ (n : ℕ). number_from k row n (per k - 1)) e,
      subst (Upto k v.back v.free v.places row _) f
          (upto_more width c.loop-j.invariant.2 j c.key.result (c.byte_of.result + 1) below refl x c.key.ensures.1
          (ap (λ (n : ℕ). n + 1) c.byte_of.ensures)
          (omega (arith, c.byte_of.ensures, place width v.places v.free j _ q c.loop-j-test.true))),
    )
