-- `reading::codewords::codeword_at` meets its contract: `Seen` of the symbols up to h.
use Rattle.std.proofs.Common.{◌≡◌, sym, ap, ◌∙◌, List, ℕ, suc, ◌+◌, ◌-◌, ◌≤◌, ◌<◌, length, drop, get_or, arith}
use native.Mathlib.Nat.{le_refl, sub_self}
use lib.ListN.{length-drop}
use lib.Seq.{length-take-le, get_or-take, get_or-drop}
use Rattle.ground.specs.Laws.Rows.{below_at}
use Rattle.stopper.specs.Paper.Table.{base}
use Rattle.stopper.specs.Laws.Table.{code_width}
use Rattle.stopper.specs.Laws.Seen.{Seen, seen_none, seen_small, seen_all, seen_past, seen_bad, seen_rank, seen_open}
use Rattle.stopper.specs.Helpers.State.{stepped}
use Rattle.stopper.specs.declared.code.Code.{Code}
use Rattle.stopper.specs.declared.reading.Reader.{Reader}
use Rattle.stopper.specs.declared.reading.Step.TheVariants.{Open}
use Rattle.symbols.specs.Paper.Symbols.{symbols_of}
use Rattle.symbols.specs.Laws.Rows.{symbols_below}
use Rattle.reading.specs.Paper.Reading.{row_upto}
use Rattle.reading.specs.Helpers.Codewords.{Reads}
use Rattle.reading.specs.Laws.Codewords.{packed_reads, word_found, none_found}
use Rattle.reading.proofs.codewords.codeword_at.Goals as goal

-- the symbols up to h from p on, and symbol i of the buffer among them
module _ {c : Code} {σ : ℕ} {buf : List ℕ} {h p : ℕ} (reads : Reads c σ buf h p) where
  abbrev rest : List ℕ
  rest = drop p (row_upto c h buf)

  long : length rest ≡ h - p
  long = length-drop p (row_upto c h buf) ∙ ap (λ (n : ℕ). n - p) (length-take-le h (symbols_of c.k buf) reads.held)

  module _ (i : ℕ) (from : p ≤ i) where
    next : i + 1 ≡ p + suc (i - p)
    next = omega arith

    more : i + 1 - p ≡ i - p + 1
    more = omega arith

    inside : i < h → i - p < length rest
    inside k = omega (arith, long, from)

    here : i < h → {y : ℕ} → y ≡ get_or (symbols_of c.k buf) i 0 → get_or rest (i - p) 0 ≡ y
    here k e =
        let n : p + (i - p) ≡ i = omega arith in
        get_or-drop p (row_upto c h buf) (i - p) 0 ∙ rw n (get_or-take h (symbols_of c.k buf) i 0 k ∙ sym e)

    -- the codeword stays open
    open_still : i < h → {y : ℕ} → y ≡ get_or (symbols_of c.k buf) i 0 → {r on : Reader} → Seen c σ rest (i - p) r → Open on ≡ stepped c σ r y → Seen c σ rest (i + 1 - p) on
    open_still k e seen is =
        let b : get_or (symbols_of c.k buf) i 0 < base c = below_at (symbols_below c.k buf) i (omega (arith, reads.held, k)) in
        rw more (seen_open c reads.good σ rest seen (inside k) (here k e) (rw e b) is)

pub loop-i-init : goal.loop-i-init
loop-i-init c = (le_refl c.args.p, rw (c.opening-r.ensures, sub_self) (seen_none c.args.packed.now.ranks.good.code c.args.packed.now.ranks.sigma (rest (packed_reads c.args.packed.now c.args.p c.requires))))

pub get-y-requires : goal.get-y-requires
get-y-requires c = (code_width c.args.packed.now.ranks.good.code c.args.packed.now.ranks.good.good, omega (arith, c.args.packed.now.held, c.loop-i-test.true))

pub read_symbol-requires : goal.read_symbol-requires
read_symbol-requires c =
    seen_small c.args.packed.now.ranks.good.code c.args.packed.now.ranks.good.good c.args.packed.now.ranks.sigma (rest (packed_reads c.args.packed.now c.args.p c.requires)) c.loop-i.invariant.1 c.args.packed.now.ranks.few

pub returns-in-Rank : goal.returns-in-Rank
returns-in-Rank c =
    let (from, seen) = c.loop-i.invariant in
    rw (next (packed_reads c.args.packed.now c.args.p c.requires) c.loop-i.i from)
    (word_found c.args.packed.now.ranks.good.code c.args.packed.now.ranks.sigma (row_upto c.args.packed.now.ranks.good.code c.args.packed.now.h c.args.packed.now.buf.now) c.args.p
    (seen_rank c.args.packed.now.ranks.good.code c.args.packed.now.ranks.good.good c.args.packed.now.ranks.sigma (rest (packed_reads c.args.packed.now c.args.p c.requires)) seen (inside (packed_reads c.args.packed.now c.args.p c.requires) c.loop-i.i from c.loop-i-test.true) (here (packed_reads c.args.packed.now c.args.p c.requires) c.loop-i.i from c.loop-i-test.true c.get-y.ensures) (sym c.in-Rank.is ∙ c.read_symbol.ensures)))

pub returns-in-Bad : goal.returns-in-Bad
returns-in-Bad c =
    let (from, seen) = c.loop-i.invariant in
    none_found c.args.packed.now.ranks.good.code c.args.packed.now.ranks.sigma (row_upto c.args.packed.now.ranks.good.code c.args.packed.now.h c.args.packed.now.buf.now) c.args.p
    (seen_bad c.args.packed.now.ranks.good.code c.args.packed.now.ranks.good.good c.args.packed.now.ranks.sigma (rest (packed_reads c.args.packed.now c.args.p c.requires)) seen (inside (packed_reads c.args.packed.now c.args.p c.requires) c.loop-i.i from c.loop-i-test.true) (here (packed_reads c.args.packed.now c.args.p c.requires) c.loop-i.i from c.loop-i-test.true c.get-y.ensures) (sym c.in-Bad.is ∙ c.read_symbol.ensures))

pub returns-then-on : goal.returns-then-on
returns-then-on c =
    let (from, seen) = c.loop-i.invariant in
    let still = open_still (packed_reads c.args.packed.now c.args.p c.requires) c.loop-i.i from c.loop-i-test.true c.get-y.ensures seen (sym c.in-Open.is ∙ c.read_symbol.ensures) in
    none_found c.args.packed.now.ranks.good.code c.args.packed.now.ranks.sigma (row_upto c.args.packed.now.ranks.good.code c.args.packed.now.h c.args.packed.now.buf.now) c.args.p
    (seen_past c.args.packed.now.ranks.good.code c.args.packed.now.ranks.good.good c.args.packed.now.ranks.sigma (rest (packed_reads c.args.packed.now c.args.p c.requires)) still c.if-on.true).1

pub loop-i-preserved : goal.loop-i-preserved
loop-i-preserved c =
    let (from, seen) = c.loop-i.invariant in
    (omega arith, open_still (packed_reads c.args.packed.now c.args.p c.requires) c.loop-i.i from c.loop-i-test.true c.get-y.ensures seen (sym c.in-Open.is ∙ c.read_symbol.ensures))

pub returns : goal.returns
returns c =
    let (from, seen) = c.loop-i.invariant in
    none_found c.args.packed.now.ranks.good.code c.args.packed.now.ranks.sigma (row_upto c.args.packed.now.ranks.good.code c.args.packed.now.h c.args.packed.now.buf.now) c.args.p
    (seen_all c.args.packed.now.ranks.good.code c.args.packed.now.ranks.good.good c.args.packed.now.ranks.sigma (rest (packed_reads c.args.packed.now c.args.p c.requires)) seen (omega (arith, long (packed_reads c.args.packed.now c.args.p c.requires), from, c.loop-i-test.false)))
