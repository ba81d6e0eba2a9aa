-- `jump::scanning::same` meets its contract.
use Rattle.std.proofs.Common.{◌≡◌, List, ℕ, ◌+◌, ◌≤◌, ◌<◌, false, length, take, drop, get_or, sym, ap, ◌∙◌, arith, get_or-take, length-take}
use Rattle.stopper.specs.Laws.Table.{code_width}
use Rattle.symbols.specs.Paper.Symbols.{symbols_of}
use Rattle.texts.specs.Paper.Hits.{stands}
use Rattle.texts.specs.Laws.Finding.{stands_end, stands_same, stands_differ}
use Rattle.jump.proofs.scanning.same.Goals as goal

-- symbol y is read behind the first j
module _ (row symbols : List ℕ) (a h j : ℕ) {y : ℕ} (in-row : h ≤ length row) (room : a + length symbols ≤ h) (lt : j < length symbols) (read : y ≡ get_or row (a + j) 0) where
  inside : a + j < length (take h row)
  inside = omega (arith, length-take h row)

  read_is : y ≡ get_or (take h row) (a + j) 0
  read_is = read ∙ sym (get_or-take h row (a + j) 0 (omega arith))

  differs : (y ≡ get_or symbols j 0 → ⊥) → stands (drop j symbols) (drop (a + j) (take h row)) ≡ false
  differs n = stands_differ symbols (take h row) j (a + j) lt inside (λ e. n (read_is ∙ e))

  goes_on : y ≡ get_or symbols j 0 → stands (drop j symbols) (drop (a + j) (take h row)) ≡ stands (drop (j + 1) symbols) (drop (a + (j + 1)) (take h row))
  goes_on e =
      let one : a + j + 1 ≡ a + (j + 1) = omega arith in
      stands_same symbols (take h row) j (a + j) lt inside (sym read_is ∙ e)
      ∙ ap (λ (i : ℕ). stands (drop (j + 1) symbols) (drop i (take h row))) one

pub get-requires : goal.get-requires
get-requires c =
    let s = c.args.searched.now in
    (code_width s.good.code s.good.good, omega (arith, c.loop-j-test.true, c.requires, s.inside))

pub returns-then-get-y : goal.returns-then-get-y
returns-then-get-y c =
    let s = c.args.searched.now in
    sym (c.loop-j.invariant ∙ differs _ _ c.args.a s.h c.loop-j.j s.inside c.requires c.loop-j-test.true c.get.ensures c.if-get-y.true)

pub loop-j-preserved : goal.loop-j-preserved
loop-j-preserved c =
    let s = c.args.searched.now in
    c.loop-j.invariant ∙ goes_on _ _ c.args.a s.h c.loop-j.j s.inside c.requires c.loop-j-test.true c.get.ensures c.if-get-y.false

pub returns : goal.returns
returns c =
    let s = c.args.searched.now in
    let symbols = c.args.symbols.now in
    let row : List ℕ = take s.h (symbols_of s.good.code.k s.buf.now) in
    let e : c.loop-j.j ≡ length symbols = omega arith in
    sym
    (c.loop-j.invariant
    ∙ ap (λ (i : ℕ). stands (drop i symbols) (drop (c.args.a + c.loop-j.j) row)) e
    ∙ stands_end symbols (drop (c.args.a + c.loop-j.j) row))
