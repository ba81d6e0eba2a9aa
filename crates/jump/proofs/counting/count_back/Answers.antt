-- `jump::counting::count_back` meets its contract.
use Rattle.std.proofs.Common.{◌≡◌, List, ℕ, ◌+◌, ◌-◌, ◌*◌, ◌/◌, ◌≤◌, ◌<◌, T, length, take, drop, sym, ap, ap₂, subst, ◌∙◌, arith, div-mul-le_self, length-drop, take_all}
use Rattle.stopper.specs.Paper.Table.{good_code}
use Rattle.stopper.specs.Laws.Table.{code_width}
use Rattle.stopper.specs.declared.code.Code.{Code}
use Rattle.symbols.specs.Paper.Symbols.{per, symbols_of}
use Rattle.symbols.specs.Laws.Rows.{symbols_drop}
use Rattle.jump.specs.Helpers.Counting.{number_at}
use Rattle.jump.specs.Laws.Counting.{number_behind, counts_none, end_inside, end_behind}
use Rattle.jump.proofs.counting.count_back.Goals as goal

module _ (code : Code) (g : T (good_code code)) (buf : List ℕ) {a h next : ℕ} (e : next ≡ a / per code.k) (le : a ≤ h) (in-row : h ≤ length (symbols_of code.k buf)) where
  -- the bytes before symbol a's
  before : (next * per code.k ≤ a) × (next ≤ length buf)
  before = (
    omega (arith, ap (λ (n : ℕ). n * per code.k) e, div-mul-le_self a (per code.k)),
    omega (arith, e, end_inside code g buf a (omega arith)),
  )

  -- those from there on
  abbrev rest : List ℕ
  rest = take (length buf - next) (drop next buf)

  rest_is : rest ≡ drop next buf
  rest_is = take_all (length buf - next) (drop next buf) (omega (arith, length-drop next buf))

  module _ {q : ℕ} (f : q ≡ per code.k) where
    product : next * q ≡ next * per code.k
    product = ap (λ (n : ℕ). next * n) f

    -- the symbols up to h are in the rest
    room : h - next * q ≤ length (symbols_of code.k rest)
    room =
        let z : length (symbols_of code.k rest) ≡ length (symbols_of code.k buf) - next * per code.k
        = ap (λ (b : List ℕ). length (symbols_of code.k b)) rest_is ∙ ap length (sym (symbols_drop (code_width code g) next buf)) ∙ length-drop (next * per code.k) (symbols_of code.k buf) in
        omega (arith, z, in-row, product)

    -- the codewords that end in the rest, and those before
    parts : {n x : ℕ} → n ≡ number_at code buf h → x ≡ number_at code rest (h - next * q) → n ≡ number_at code buf (next * per code.k) + x
    parts {n} {x} all some =
        let sum : next * per code.k + (h - next * per code.k) ≡ h = omega (arith, before.0, le) in
        all
        ∙ ap (number_at code buf) (sym sum)
        ∙ number_behind code g buf next (h - next * per code.k)
        ∙ ap (λ (n : ℕ). number_at code buf (next * per code.k) + n) (sym (some ∙ ap₂ (number_at code) rest_is (ap (λ (n : ℕ). h - n) product)))

pub byte_of-next-requires : goal.byte_of-next-requires
byte_of-next-requires c = let s = c.args.searched.now in code_width s.good.code s.good.good

pub per_byte-requires : goal.per_byte-requires
per_byte-requires c = let s = c.args.searched.now in code_width s.good.code s.good.good

pub slice_bounds-rest-count : goal.slice_bounds-rest-count
slice_bounds-rest-count c =
    let s = c.args.searched.now in (before s.good.code s.good.good s.buf.now c.byte_of-next.ensures c.requires s.inside).1

pub slice_bounds-rest-start : goal.slice_bounds-rest-start
slice_bounds-rest-start c =
    let s = c.args.searched.now in (before s.good.code s.good.good s.buf.now c.byte_of-next.ensures c.requires s.inside).1

pub count_to-counted-requires : goal.count_to-counted-requires
count_to-counted-requires c =
    let s = c.args.searched.now in
    (s.known, room s.good.code s.good.good s.buf.now c.byte_of-next.ensures c.requires s.inside c.per_byte.ensures, omega (arith, s.few), counts_none s.good.code _ _)

pub number_of-requires : goal.number_of-requires
number_of-requires c =
    let s = c.args.searched.now in (
      room s.good.code s.good.good s.buf.now c.byte_of-next.ensures c.requires s.inside c.per_byte.ensures,
      omega (arith, s.few),
      c.count_to-counted.ensures.0,
      c.count_to-counted.ensures.1,
    )

pub overflow_sub-result : goal.overflow_sub-result
overflow_sub-result c =
    let s = c.args.searched.now in
    omega (arith, parts s.good.code s.good.good s.buf.now c.byte_of-next.ensures c.requires s.inside c.per_byte.ensures s.number c.number_of.ensures)

pub returns : goal.returns
returns c =
    let s = c.args.searched.now in
    let e = c.byte_of-next.ensures in (
      record {
        number = omega (arith, parts s.good.code s.good.good s.buf.now e c.requires s.inside c.per_byte.ensures s.number c.number_of.ensures);
        before = (before s.good.code s.good.good s.buf.now e c.requires s.inside).0;
      },
      subst (λ (n : ℕ). c.args.a < (n + 1) * per s.good.code.k) (sym e) (end_behind s.good.code s.good.good s.buf.now c.args.a),
    )
