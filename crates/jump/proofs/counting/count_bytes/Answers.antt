-- `jump::counting::count_bytes` meets its contract: the codewords that end in the bytes so far are counted.
use Rattle.std.proofs.Common.{◌≡◌, List, [], ◌∷◌, ℕ, ◌+◌, ◌-◌, ◌*◌, ◌<◌, T, length, take, drop, get_or, sym, ap, ◌∙◌, arith, length-take, length-drop, get_or-take, get_or-drop}
use Rattle.stopper.specs.Paper.Table.{stoppers, good_code}
use Rattle.stopper.specs.declared.code.Code.{Code}
use Rattle.symbols.specs.Paper.Symbols.{per, symbols_of}
use Rattle.sound.specs.Helpers.Ends.{stops, stops_by_byte}
use Rattle.sound.specs.Laws.Stops.{stops_at}
use Rattle.jump.specs.Helpers.Counting.{number_at}
use Rattle.jump.specs.Laws.Counting.{number_byte, number_fits, counts_next}
use Rattle.jump.proofs.counting.count_bytes.Goals as goal

-- the bytes between two
abbrev between : List ℕ → ℕ → ℕ → List ℕ
between buf next end = take (end - next) (drop next buf)

inside : (buf : List ℕ) (next end i : ℕ) → i < length (between buf next end) → (next + i < length buf) × (next + i < end)
inside buf next end i h =
    let few = length-take (end - next) (drop next buf) in
    (omega (arith, few, length-drop next buf), omega (arith, few))

-- what the table says of one of them is how many codewords end in it
byte_more : (code : Code) → T (good_code code) → (buf : List ℕ) {table : List ℕ} → table ≡ stops_by_byte code → (next end i byte : ℕ) → i < length (between buf next end) → byte ≡ get_or (between buf next end) i 0
    → get_or buf (next + i) 0 < 256 → number_at code buf ((next + (i + 1)) * per code.k) ≡ number_at code buf ((next + i) * per code.k) + get_or table byte 0
byte_more code g buf {table} known next end i byte h e small =
    let x = inside buf next end i h in
    let is : byte ≡ get_or buf (next + i) 0 = e ∙ get_or-take (end - next) (drop next buf) i 0 (omega (arith, x.1)) ∙ get_or-drop next buf i 0 in
    let one : next + (i + 1) ≡ next + i + 1 = omega arith in
    let ended : stops (stoppers code) 0 (symbols_of code.k (get_or buf (next + i) 0 ∷ [])) ≡ get_or table byte 0
    = ap (λ (b : ℕ). stops (stoppers code) 0 (symbols_of code.k (b ∷ []))) (sym is)
    ∙ sym (stops_at code byte (rw is small))
    ∙ ap (λ (xs : List ℕ). get_or xs byte 0) (sym known) in
    ap (λ (q : ℕ). number_at code buf (q * per code.k)) one
    ∙ number_byte code g buf (next + i) x.0
    ∙ ap (λ (n : ℕ). number_at code buf ((next + i) * per code.k) + n) ended

pub slice_bounds-b-items-count : goal.slice_bounds-b-items-count
slice_bounds-b-items-count c =
    let a = c.args in counts_next a.good.code c.args.good.good a.buf.now a.end c.requires.3

pub slice_bounds-b-items-start : goal.slice_bounds-b-items-start
slice_bounds-b-items-start c =
    let a = c.args in
    omega (arith, counts_next a.good.code c.args.good.good a.buf.now a.end c.requires.3, c.requires.1)

pub overflow_add-ended : goal.overflow_add-ended
overflow_add-ended c =
    let a = c.args in
    let next : ℕ = a.counted.next in
    let i : ℕ = c.loop-b.b-index in
    omega (
      arith,
      c.loop-b.invariant,
      c.from-ended.ensures,
      byte_more a.good.code c.args.good.good a.buf.now c.requires.0 next a.end i c.from.result c.loop-b-test.true c.from.ensures (omega (arith, c.type_inv.buf (next + i))),
      number_fits a.good.code c.args.good.good a.buf.now a.end c.requires.2 (next + (i + 1)) (omega (arith, inside a.buf.now next a.end i c.loop-b-test.true)),
    )

pub loop-b-preserved : goal.loop-b-preserved
loop-b-preserved c =
    let a = c.args in
    let next : ℕ = a.counted.next in
    let i : ℕ = c.loop-b.b-index in
    omega (
      arith,
      c.loop-b.invariant,
      c.from-ended.ensures,
      byte_more a.good.code c.args.good.good a.buf.now c.requires.0 next a.end i c.from.result c.loop-b-test.true c.from.ensures (omega (arith, c.type_inv.buf (next + i))),
    )
