-- `roll::read_one::read_one` meets its contract.
use Prim.Native.Nat.{zero-le}
use Rattle.std.proofs.Common.{◌≡◌, sym, ap, ◌∙◌, List, [], ℕ, ◌/◌, ◌%◌, ◌≤◌, ◌<◌, T, length, drop, get_or, Ok, Err, Some, arith}
use Rattle.std.proofs.lemmas.Result.{err_from_is_err_and}
use borrow.Author.Tests.{lt-leb, le-leb}
use lib.ListN.{length-drop}
use Rattle.ground.specs.declared.refusal.Refusal.TheVariants.{BadCodeword}
use Rattle.stopper.specs.Paper.Table.{good_code}
use Rattle.reading.specs.Paper.Reading.{row_upto, ranks_read, first_bad}
use Rattle.reading.specs.Helpers.Codewords.{Reads, found_at, passed_from}
use Rattle.reading.specs.Laws.Codewords.{found_word, passed_upto, passed_over, passed_none, passed_word}
use Rattle.reading.specs.declared.codewords.Word.{Word}
use Rattle.sound.specs.Paper.Roll.{reading_from}
use Rattle.sound.specs.Laws.Sound.{row_length}
use Rattle.sound.specs.declared.records.Roll.{Roll}
use Rattle.roll.specs.Paper.Operations.{from_entry, read_says, ReadingOne}
use Rattle.roll.specs.Helpers.Refused.{Fitting}
use Rattle.roll.specs.Laws.Accepting.{fits_is, ReadsOne, reads_is}
use Rattle.roll.specs.Laws.Operations.{fits_reads}
use Rattle.roll.proofs.read_one.read_one.Goals as goal

pub returns-in_err-fits : goal.returns-in_err-fits
unfolding read_says
returns-in_err-fits c =
    let p = err_from_is_err_and c.from_residual.result c.from_residual.ensures.1 in
    rw (p.1, p.2) (record { says = rw (sym c.in_err-fits.ensures.says) })

-- what `fits` leaves
module _ (r : Roll) (buf : List ℕ) (f : Fitting r buf (Ok tt)) where
  reads : (p : ℕ) → p ≤ r.h → Reads r.table.code r.table.sigma buf r.h p
  reads = fits_reads r buf (sym f.says)

  code_is : T (good_code r.table.code)
  code_is = (reads 0 (omega arith)).good

  -- the codewords before the place are passed over
  abbrev row : List ℕ
  row = row_upto r.table.code r.h buf

  long : length row ≡ r.h
  long = row_length r buf ((fits_is r buf).1 (sym f.says)).1

  -- an entry for a place of the roll, below h
  module _ (dir : List ℕ) (place : ℕ) (inside : place < r.n) (held : place / 32 < length dir) (below : get_or dir (place / 32) 0 < r.h) where
    abbrev entry : ℕ
    entry = get_or dir (place / 32) 0

    upto : entry ≤ length row
    upto = omega (arith, long, below)

    -- reading is over before the codeword
    is_over : {at : ℕ} → let o = from_entry r buf dir place in
        (drop (place % 32) (ranks_read o) ≡ []) × (first_bad (length row) o ≡ at) → ReadingOne r buf dir place (Err (BadCodeword at))
    unfolding read_says
    is_over (none, e) =
        let o = from_entry r buf dir place in
        let short : length (ranks_read o) ≤ place % 32 = omega (arith, sym (length-drop (place % 32) (ranks_read o)) ∙ ap length none) in
        record { says = rw (sym f.says, lt-leb _ _ inside, lt-leb _ _ held, lt-leb _ _ below, le-leb _ _ short, rw long at e) }

    module _ {at : ℕ} (e : Ok at ≡ passed_from r.table.code r.table.sigma row entry (place % 32)) where
      at_upto : at ≤ length row
      at_upto = passed_upto r.table.code code_is r.table.sigma row entry (place % 32) upto e

      word_below : {word : Word} → Some word ≡ found_at r.table.code r.table.sigma row at → word.rank < 256
      word_below w = omega (arith, (found_word r.table.code code_is r.table.sigma row w at_upto).rank, (reads 0 (omega arith)).few)

      is_read : {word : Word} → Some word ≡ found_at r.table.code r.table.sigma row at → ReadingOne r buf dir place (Ok (get_or r.table.places word.rank 0))
      unfolding reading_from
      is_read w =
          let (good, within) = (fits_is r buf).1 (sym f.says) in
          let (reached, rank) = passed_word r.table.code code_is r.table.sigma row entry (place % 32) upto e w in
          let c : ReadsOne r buf dir place = record { good = good; fits = within; inside = inside; held = held; below = below; reached = reached } in
          rw (← rank) (record { says = sym ((reads_is r buf dir place).0 c) })

pub returns-then-roll-place : goal.returns-then-roll-place
unfolding read_says
returns-then-roll-place c = record { says = rw (sym c.in_ok-fits.ensures.says, le-leb _ _ c.if-roll-place.true) }

pub returns-then-dir-entry : goal.returns-then-dir-entry
unfolding read_says
returns-then-dir-entry c = record { says = rw (sym c.in_ok-fits.ensures.says, lt-leb _ _ c.if-roll-place.false, le-leb _ _ c.if-dir-entry.true) }

pub returns-then-h-first : goal.returns-then-h-first
unfolding read_says
returns-then-h-first c =
    record { says = rw (sym c.in_ok-fits.ensures.says, lt-leb _ _ c.if-roll-place.false, lt-leb _ _ c.if-dir-entry.false, le-leb _ _ c.if-h-first.true) }

pub pass_over-requires : goal.pass_over-requires
pass_over-requires c = omega (arith, c.if-h-first.false)

-- what is read
pub invariant_of-packed : goal.invariant_of-packed
invariant_of-packed c = record { good = code_is c.args.roll c.args.buf.now c.in_ok-fits.ensures }

pub invariant_of-packed-2 : goal.invariant_of-packed-2
invariant_of-packed-2 c = record { few = (reads c.args.roll c.args.buf.now c.in_ok-fits.ensures 0 zero-le).few }

pub invariant_of-packed-3 : goal.invariant_of-packed-3
invariant_of-packed-3 c = let p = reads c.args.roll c.args.buf.now c.in_ok-fits.ensures 0 zero-le in record { held = p.held; small = p.small }

pub returns-in_err-at : goal.returns-in_err-at
unfolding reading_from
returns-in_err-at c =
    let a = c.args in
    let f = c.in_ok-fits.ensures in
    let p = err_from_is_err_and c.from_residual-in_err-at.result c.from_residual-in_err-at.ensures.1 in
    rw (p.1, p.2) (is_over a.roll a.buf.now f a.dir.now a.place c.if-roll-place.false c.if-dir-entry.false c.if-h-first.false
    (passed_over a.roll.table.code (code_is a.roll a.buf.now f) a.roll.table.sigma (row a.roll a.buf.now f) _ (a.place % 32)
    (upto a.roll a.buf.now f a.dir.now a.place c.if-roll-place.false c.if-dir-entry.false c.if-h-first.false) c.in_err-at.ensures))

pub codeword_at-requires : goal.codeword_at-requires
codeword_at-requires c =
    let a = c.args in
    let f = c.in_ok-fits.ensures in
    let h = at_upto a.roll a.buf.now f a.dir.now a.place c.if-roll-place.false c.if-dir-entry.false c.if-h-first.false c.in_ok-at.ensures in
    omega (arith, h, long a.roll a.buf.now f)

pub returns-in_default : goal.returns-in_default
unfolding reading_from
returns-in_default c =
    let a = c.args in
    let f = c.in_ok-fits.ensures in
    is_over a.roll a.buf.now f a.dir.now a.place c.if-roll-place.false c.if-dir-entry.false c.if-h-first.false
    (passed_none a.roll.table.code (code_is a.roll a.buf.now f) a.roll.table.sigma (row a.roll a.buf.now f) _ (a.place % 32)
    (upto a.roll a.buf.now f a.dir.now a.place c.if-roll-place.false c.if-dir-entry.false c.if-h-first.false) c.in_ok-at.ensures
    (sym c.in_default.is ∙ c.codeword_at.ensures))

pub bounds-roll-word : goal.bounds-roll-word
bounds-roll-word c =
    let a = c.args in
    word_below a.roll a.buf.now c.in_ok-fits.ensures a.dir.now a.place c.if-roll-place.false c.if-dir-entry.false c.if-h-first.false c.in_ok-at.ensures (sym c.in-Some.is ∙ c.codeword_at.ensures)

pub returns : goal.returns
returns c =
    let a = c.args in
    is_read a.roll a.buf.now c.in_ok-fits.ensures a.dir.now a.place c.if-roll-place.false c.if-dir-entry.false c.if-h-first.false c.in_ok-at.ensures (sym c.in-Some.is ∙ c.codeword_at.ensures)
